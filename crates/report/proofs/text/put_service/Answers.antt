-- `text::put_service` meets its contract: three times a number and the word behind it. Assumes nothing.
use Prim.Native.Nat.{◌≤◌}
use native.Mathlib.Omega.{arith}
use lib.ListN.{length}
use Rattle.lines.specs.Text.{ascii, decimal, service_line}
use Rattle.report.proofs.Numbers.{decimal_within}
use Rattle.report.proofs.Puts.{then_two, behind_two}
use Rattle.report.proofs.text.put_service.Goals as goal

-- ---- how far each call comes at most, with five digits for the draw and three for packet and site

pub put_field-second-requires : goal.put_field-second-requires
put_field-second-requires c = omega (arith, decimal_within 4 c.args.draw (omega (arith, c.requires.0)))

pub put_field-third-requires : goal.put_field-third-requires
put_field-third-requires c =
    let a = c.args in
    let r = c.requires in
    let e = behind_two (decimal a.draw) (ascii " ") c.put_field-second.ensures in
    omega (
      arith,
      e,
      decimal_within 4 a.draw (omega (arith, r.0)),
      decimal_within 2 a.packet (omega (arith, r.1)),
      r.3,
    )

pub put_field-requires : goal.put_field-requires
put_field-requires c =
    let a = c.args in
    let r = c.requires in
    let e = behind_two (decimal a.draw) (ascii " ") c.put_field-second.ensures in
    let f = behind_two (decimal a.packet) (ascii " ") c.put_field-third.ensures in
    omega (
      arith,
      e,
      f,
      decimal_within 4 a.draw (omega (arith, r.0)),
      decimal_within 2 a.packet (omega (arith, r.1)),
      decimal_within 2 a.site (omega (arith, r.2)),
      r.3,
    )

pub returns-clause-put : goal.returns-clause-put
unfolding service_line
returns-clause-put c =
    let a = c.args in
    let h : a.at ≤ length a.room.now = omega (arith, c.requires.3) in
    let two = then_two (decimal a.packet) (ascii " ") h c.put_field-second.ensures c.put_field-third.ensures in
    then_two (decimal a.site) (ascii "\n") h two c.put_field.ensures

pub returns-clause-upper_bound : goal.returns-clause-upper_bound
returns-clause-upper_bound c =
    let a = c.args in
    let r = c.requires in
    let e = behind_two (decimal a.draw) (ascii " ") c.put_field-second.ensures in
    let f = behind_two (decimal a.packet) (ascii " ") c.put_field-third.ensures in
    let o = behind_two (decimal a.site) (ascii "\n") c.put_field.ensures in
    omega (
      arith,
      e,
      f,
      o,
      decimal_within 4 a.draw (omega (arith, r.0)),
      decimal_within 2 a.packet (omega (arith, r.1)),
      decimal_within 2 a.site (omega (arith, r.2)),
    )

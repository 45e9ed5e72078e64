-- `text::put_counts` meets its contract: a word, then four times a number and the word behind it. Assumes nothing.
use Prim.Native.Nat.{zero-le}
use native.Mathlib.Omega.{arith}
use Rattle.lines.specs.Text.{ascii, decimal, counts_line}
use Rattle.report.proofs.Numbers.{decimal_most}
use Rattle.report.proofs.Puts.{then_two, behind_two}
use Rattle.report.proofs.text.put_counts.Goals as goal

-- ---- how far each call comes at most, with twenty digits for a number

pub put_field-pairs-requires : goal.put_field-pairs-requires
put_field-pairs-requires c = omega (arith, decimal_most c.args.counts.accepted)

pub put_field-serviced-requires : goal.put_field-serviced-requires
put_field-serviced-requires c =
    let n = c.args.counts in
    let e = behind_two (decimal n.accepted) (ascii " pairs ") c.put_field-pairs.ensures in
    omega (arith, e, decimal_most n.accepted, decimal_most n.pairs, c.put_all-accepted.ensures.place)

pub put_field-owed-requires : goal.put_field-owed-requires
put_field-owed-requires c =
    let n = c.args.counts in
    let e = behind_two (decimal n.accepted) (ascii " pairs ") c.put_field-pairs.ensures in
    let f = behind_two (decimal n.pairs) (ascii " serviced ") c.put_field-serviced.ensures in
    omega (
      arith,
      e,
      f,
      decimal_most n.accepted,
      decimal_most n.pairs,
      decimal_most n.serviced,
      c.put_all-accepted.ensures.place,
    )

pub put_field-requires : goal.put_field-requires
put_field-requires c =
    let n = c.args.counts in
    let e = behind_two (decimal n.accepted) (ascii " pairs ") c.put_field-pairs.ensures in
    let f = behind_two (decimal n.pairs) (ascii " serviced ") c.put_field-serviced.ensures in
    let o = behind_two (decimal n.serviced) (ascii " owed ") c.put_field-owed.ensures in
    omega (
      arith,
      e,
      f,
      o,
      decimal_most n.accepted,
      decimal_most n.pairs,
      decimal_most n.serviced,
      decimal_most n.owed,
      c.put_all-accepted.ensures.place,
    )

pub returns : goal.returns
unfolding counts_line
returns c =
    let n = c.args.counts in
    then_two (decimal n.owed) (ascii "\n") zero-le
    (then_two (decimal n.serviced) (ascii " owed ") zero-le
    (then_two (decimal n.pairs) (ascii " serviced ") zero-le
    (then_two (decimal n.accepted) (ascii " pairs ") zero-le c.put_all-accepted.ensures c.put_field-pairs.ensures)
    c.put_field-serviced.ensures)
    c.put_field-owed.ensures)
    c.put_field.ensures

use Prim.Native.Nat.{◌*◌}
use mathlib.Core.Path.{sym}
use native.Mathlib.Omega.{arith}
use Rattle.machine.specs.Progress.{entered_at, no_room, room_left}
use Rattle.machine.proofs.Entered.{copied}
use Rattle.machine.proofs.turns.enter.Goals as goal

pub returns-then-book-serviced : goal.returns-then-book-serviced
returns-then-book-serviced c =
    let a = c.args in
    let w = no_room a.book.now a.serviced a.draw a.packet a.site (omega (arith, c.if-book-serviced.true)) in
    (sym w.0, sym w.1)

pub returns : goal.returns
unfolding entered_at
returns c =
    let a = c.args in
    let w = room_left a.book.now a.serviced a.draw a.packet a.site (omega (arith, c.if-book-serviced.false)) in (
      sym w.0,
      rw (w.1, c.copy_from_slice.ensures.after, c.to_be_bytes.ensures)
          (copied _ _ _ _ a.book.now (4 * a.serviced) _ (omega arith) (omega (arith, c.if-book-serviced.false))),
    )

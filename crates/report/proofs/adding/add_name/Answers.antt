-- `adding::add_name` meets its contract: a byte a turn. Assumes nothing.
use mathlib.Core.Path.{◌≡◌, refl}
use lib.ListN.{length}
use native.Mathlib.Omega.{arith}
use borrow.Author.Rules.{rules}
use Rattle.report.proofs.Adds.{added_start, added_counts, shown_more}
use Rattle.report.proofs.adding.add_name.Goals as goal

pub loop-byte-init : goal.loop-byte-init
loop-byte-init c = (refl, omega arith, added_start _ _ _ _ c.min-to.ensures)

pub loop-byte-preserved : goal.loop-byte-preserved
loop-byte-preserved c =
    let l = c.loop-byte in
    (search rules, omega arith, shown_more _ l.byte-index _ l.invariant.2 c.add_shown-to.ensures.1 refl)

pub returns : goal.returns
returns c =
    let l = c.loop-byte in
    let e : l.byte-index ≡ length c.args.name.now = omega arith in
    (added_counts l.invariant.2, rw e at l.invariant.2)

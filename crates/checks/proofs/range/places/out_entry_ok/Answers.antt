use Rattle.checks.proofs.RangeLaws.{pick_first, pick_second}
use mathlib.Core.Path.{refl}
use borrow.Author.Tests.{lt-ltb, le-ltb}
use Rattle.checks.proofs.range.places.out_entry_ok.Goals as goal

pub returns-then-m-count : goal.returns-then-m-count
returns-then-m-count c = pick_first _ _ _ _ (lt-ltb _ _ c.if-m-count.true) (rw c.tag_ok.ensures refl)

pub returns : goal.returns
returns c = pick_second _ _ _ _ (le-ltb _ _ c.if-m-count.false) c.zero_out_entry.ensures

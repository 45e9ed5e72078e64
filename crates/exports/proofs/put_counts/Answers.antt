-- `put_counts` meets its contract: four stores, one after the other. Assumes nothing.
use lib.ListN.{length-set}
use Rattle.exports.proofs.PlayWays.{four_stored}
use borrow.Author.Rules.{rules}
use Rattle.exports.proofs.put_counts.Goals as goal

pub bounds-out-1 : goal.bounds-out-1
bounds-out-1 c = simp length-set (search rules)

pub bounds-out-2 : goal.bounds-out-2
bounds-out-2 c = simp length-set (search rules)

pub returns : goal.returns
returns c = four_stored _ _ _ _ c.args.out.now c.requires

use Rattle.words.proofs.MarkedStores.{none_marked, one_marked, all_marked}
use borrow.Author.Rules.{rules}
use Rattle.words.proofs.marked.store_marked.Goals as goal

pub loop-j-init : goal.loop-j-init
loop-j-init c = none_marked _ _ c.args.marks c.args.outputs (search rules)

pub loop-j-preserved : goal.loop-j-preserved
loop-j-preserved c =
    one_marked _ _ c.args.marks c.args.outputs _ _ _ c.requires (search rules) c.loop-j.invariant c.store_if.ensures

pub returns : goal.returns
returns c = all_marked _ _ c.args.marks c.args.outputs _ c.loop-j.j (search rules) c.loop-j.invariant

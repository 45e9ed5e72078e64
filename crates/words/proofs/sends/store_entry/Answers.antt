use Rattle.layout.proofs.Chains.{then_out_count}
use borrow.Author.Rules.{rules}
use Rattle.words.proofs.sends.store_entry.Goals as goal

pub returns : goal.returns
returns c =
    let store_out_entry = c.store_out_entry in
    let e = store_out_entry.ensures in
    then_out_count _ _ _ _ _ (search rules) e _ c.store_out_count.ensures

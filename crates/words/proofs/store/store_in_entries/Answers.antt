use mathlib.Core.Path.{◌≡◌}
use lib.ListN.{length}
use Rattle.layout.proofs.Chained.{arrived_part, arrived_kept, none_filled, one_filled, all_filled}
use borrow.Author.Rules.{rules}
use Rattle.words.proofs.store.store_in_entries.Goals as goal

pub loop-m-init : goal.loop-m-init
loop-m-init c = none_filled (arrived_part c.args.q) _ _ c.args.entries (search rules)

pub loop-m-preserved : goal.loop-m-preserved
loop-m-preserved c =
    one_filled (arrived_part _) (arrived_kept _ c.requires.1) _ _ _ _ c.args.entries _ c.requires.0 (search rules) c.loop-m.invariant
    c.store_in_entry.ensures

pub returns : goal.returns
returns c =
    let e : length c.args.entries ≡ 8 = search rules in
    all_filled (arrived_part _) (arrived_kept _ c.requires.1) _ _ _ _ c.loop-m.m c.requires.0 e (search rules) c.loop-m.invariant

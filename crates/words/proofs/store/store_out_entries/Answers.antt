use mathlib.Core.Path.{◌≡◌}
use lib.ListN.{length}
use Rattle.layout.proofs.Chained.{leaving_part, leaving_kept, none_filled, one_filled, all_filled}
use borrow.Author.Rules.{rules}
use Rattle.words.proofs.store.store_out_entries.Goals as goal

pub loop-m-init : goal.loop-m-init
loop-m-init c = none_filled leaving_part _ _ c.args.entries (search rules)

pub loop-m-preserved : goal.loop-m-preserved
loop-m-preserved c =
    one_filled leaving_part leaving_kept _ _ _ _ c.args.entries _ c.requires (search rules) c.loop-m.invariant
    c.store_out_entry.ensures

pub returns : goal.returns
returns c =
    let e : length c.args.entries ≡ 8 = search rules in
    all_filled leaving_part leaving_kept _ _ _ _ c.loop-m.m c.requires e (search rules) c.loop-m.invariant

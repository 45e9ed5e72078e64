use mathlib.Core.Path.{◌≡◌, ◌∙◌}
use native.Mathlib.Omega.{arith}
use lib.ListN.{length}
use borrow.Author.Rules.{rules}
use Rattle.std.proofs.lemmas.List.{length-take}
use Rattle.base.specs.Sizes.{queue_room}
use Rattle.model.specs.Owing.{pairs_out_entry}
use Rattle.machine.proofs.OwingSums.{first_entries}
use Rattle.machine.proofs.owing.out_queue_pairs.Goals as goal

pub returns : goal.returns
returns c =
    let q = c.args.queue in
    let n : length q.entries ≡ queue_room = search rules in
    let w = rw c.min.ensures at c.places_pairs.ensures in
    (w.0 ∙ first_entries (pairs_out_entry c.args.s) q.entries q.count queue_room n, omega (arith, w.1, length-take c.min.result q.entries))

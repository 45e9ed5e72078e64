use mathlib.Core.Path.{◌≡◌}
use native.Mathlib.Omega.{arith}
use lib.ListN.{length}
use borrow.Author.Rules.{rules}
use Rattle.base.specs.Sizes.{input_count, output_count, in_queue_count}
use Rattle.model.specs.Types.{in_queue_d}
use Rattle.model.specs.Owing.{pairs_in_queue}
use Rattle.machine.proofs.OwingSums.{two_queues}
use Rattle.machine.proofs.owing.site_pairs.Goals as goal

pub returns : goal.returns
returns c =
    let x = c.args.site in
    let inputs : length x.inputs ≡ input_count = search rules in
    let outputs : length x.outputs ≡ output_count = search rules in
    let queues : length x.incoming ≡ in_queue_count = search rules in
    let a = c.places_pairs.ensures in
    let b = c.places_pairs-2.ensures in
    let left = c.out_queue_pairs.ensures in
    let own = c.in_queue_pairs.ensures in
    let split = c.in_queue_pairs-2.ensures in
    let both = two_queues (pairs_in_queue c.args.s) x.incoming in_queue_d queues in
    (omega (arith, a.0, b.0, left.0, own.0, split.0, both), omega (arith, a.1, b.1, left.1, own.1, split.1))

use Rattle.std.proofs.Common.{rules, refl}
use lib.ListN.{get_or}
use Rattle.base.specs.Sizes.{in_queue_count}
use Rattle.base.specs.Ranges.{all_in_range}
use Rattle.model.specs.Types.{in_queue_d}
use Rattle.model.specs.Range.{in_queue_ok, depth_of}
use Rattle.checks.proofs.range.in_queues_ok.Goals as goal

pub returns : goal.returns
returns c =
    let a = c.args in
    all_in_range (λ m. in_queue_ok a.limits.sites (depth_of a.limits.edition a.limits.depth m) a.limits.counter (get_or a.incoming m in_queue_d))
    in_queue_count _ _ _ c.all.ensures.ran refl (λ x b q k. search rules)

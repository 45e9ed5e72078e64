use Rattle.std.proofs.Common.{rules, refl}
use Rattle.base.specs.Sizes.{queue_room}
use Rattle.base.specs.Ranges.{all_in_range}
use Rattle.model.specs.Types.{in_entry}
use Rattle.model.specs.Range.{in_entry_ok}
use Rattle.checks.proofs.range.in_queue_ok.Goals as goal

pub returns : goal.returns
returns c =
    let a = c.args in
    rw (all_in_range (λ m. in_entry_ok a.limits.sites a.limits.counter a.queue.count m (in_entry a.queue m)) queue_room _ _ _
    c.all.ensures.ran refl (λ x b q k. search rules)) refl

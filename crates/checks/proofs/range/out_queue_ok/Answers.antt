use Rattle.std.proofs.Common.{rules, refl}
use Rattle.base.specs.Sizes.{queue_room}
use Rattle.model.specs.Types.{out_entry}
use Rattle.model.specs.Range.{out_entry_ok}
use Rattle.base.specs.Ranges.{all_in_range}
use Rattle.checks.proofs.range.out_queue_ok.Goals as goal

pub returns : goal.returns
returns c =
    let a = c.args in
    rw (all_in_range (λ m. out_entry_ok a.limits.sites a.limits.counter a.queue.count m (out_entry a.queue m)) queue_room _ _ _
    c.all.ensures.ran refl (λ x b q k. search rules)) refl

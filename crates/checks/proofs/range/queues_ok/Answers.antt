use mathlib.Core.Path.{refl}
use Rattle.checks.proofs.range.queues_ok.Goals as goal

pub returns : goal.returns
returns c = rw (c.in_queues_ok.ensures, c.out_queue_ok.ensures) refl

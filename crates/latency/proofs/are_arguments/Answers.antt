-- `latency::are_arguments` meets its contract. Assumes nothing.
use mathlib.Core.Path.{refl}
use Rattle.latency.proofs.are_arguments.Goals as goal

pub returns : goal.returns
returns c =
    rw (
      c.is_argument-5.ensures,
      c.is_argument-4.ensures,
      c.is_argument-3.ensures,
      c.is_argument-2.ensures,
      c.is_argument.ensures,
    ) refl

use mathlib.Core.Bool.{and-true}
use Rattle.model.specs.NetInput.{hears}
use Rattle.machine.proofs.heard.ready_outputs.Goals as goal

pub returns : goal.returns
unfolding hears
returns c =
    rw (
      c.is_taken.ensures,
      c.is_heard.ensures,
      c.is_heard-2.ensures,
      c.is_heard-3.ensures,
      c.is_heard-4.ensures,
      c.is_taken-2.ensures,
    ) (simp and-true)

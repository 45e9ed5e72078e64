use mathlib.Core.Path.{refl, ◌∙◌}
use borrow.Author.Tests.{le-ltb}
use Rattle.model.specs.Steps.{blocking_at}
use Rattle.machine.proofs.Blocked.{blocking_proper}
use Rattle.machine.proofs.inputs.blocking_at.Goals as goal

pub returns-then-code-lt-INPUTS : goal.returns-then-code-lt-INPUTS
returns-then-code-lt-INPUTS c =
    let a = c.args in
    c.input_blocking.ensures ∙ blocking_proper a.network a.s a.site c.requires a.code c.if-code-lt-INPUTS.true

pub returns : goal.returns
unfolding blocking_at
returns c = rw (le-ltb c.args.code 5 c.if-code-lt-INPUTS.false) refl

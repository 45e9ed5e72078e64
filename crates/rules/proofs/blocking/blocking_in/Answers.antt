use mathlib.Core.Path.{ap, ◌∙◌}
use Rattle.types.specs.Phases.{seeks}
use Rattle.rules.proofs.Blocked.{passes_unasked, passes_asked, unsought}
use Rattle.rules.proofs.blocking.blocking_in.Goals as goal

pub returns-in-Seek : goal.returns-in-Seek
returns-in-Seek c =
    let a = c.args in
    c.passed_on.ensures
    ∙ passes_asked a.edition a.routes.now a.sites a.tries a.s a.input a.outputs (ap seeks c.in-Seek.is) c.ask_in-answer.result
    c.ask_in-answer.ensures

pub returns-in_default : goal.returns-in_default
returns-in_default c =
    let a = c.args in
    passes_unasked a.edition a.routes.now a.sites a.tries a.s a.input a.outputs (unsought a.input.phase c.in_default.not-Seek)

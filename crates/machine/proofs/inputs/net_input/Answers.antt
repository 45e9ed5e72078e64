use mathlib.Core.Path.{refl, ap, ◌∙◌}
use Rattle.types.specs.Numbers.{state_number}
use Rattle.model.specs.Types.{mark}
use Rattle.model.specs.Router.{route}
use Rattle.rules.specs.Turns.{of_input_turn}
use Rattle.rules.proofs.Asked.{proper_by}
use Rattle.rules.proofs.ByState.{choice_back, only_seek, seek_is, other_is}
use Rattle.machine.proofs.inputs.net_input.Goals as goal

pub returns-in-Seek : goal.returns-in-Seek
returns-in-Seek c =
    let a = c.args in
    let n = a.network in
    let e = ap state_number c.in-Seek.is in
    let z = c.requires.3 e in
    rw (
      c.seek_turn.ensures,
      c.route_packet-choice.ensures,
      proper_by n.sites a.s a.input.set c.requires.0 c.requires.1 z.0 z.1,
      choice_back (route n a.s a.outputs a.input.set),
      seek_is a.input a.outputs (mark a.ready) n a.s a.i e,
    ) refl

pub returns-in_default : goal.returns-in_default
returns-in_default c =
    let a = c.args in
    let o = other_is a.input a.outputs (mark a.ready) a.network a.s a.i in
    c.other_input.ensures ∙ ap of_input_turn (o (λ e. c.in_default.not-Seek (only_seek a.input.phase e)))

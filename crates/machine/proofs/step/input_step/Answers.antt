use mathlib.Core.Path.{◌≡◌, refl, sym, ◌∙◌}
use Rattle.model.specs.Types.{in_at}
use Rattle.model.specs.Network.{joined}
use Rattle.model.specs.NetInput.{net_input, ready}
use Rattle.model.specs.Steps.{set_both}
use Rattle.machine.specs.Step.{far_at, flags}
use Rattle.machine.proofs.Lifts.{own_stays, own_took}
use Rattle.machine.proofs.Ready.{by_flags, flags_there}
use Rattle.machine.proofs.step.input_step.Goals as goal

pub returns-in_default : goal.returns-in_default
returns-in_default c =
    let a = c.args in
    let n = a.network in
    let x = a.site in
    let f = ready (joined n a.s) (far_at a.far) x.outputs in
    let e : c.ready_outputs-ready.result ≡ flags f =
    c.ready_outputs-ready.ensures ∙ rw c.ends_there-there.ensures (flags_there n a.s (far_at a.far) x.outputs) in
    let y = in_at x a.i in
    let t = rw (e, by_flags n a.s a.i y x.outputs f y.phase) at c.net_input.ensures in
    own_stays n a.s _ (set_both x a.i) (net_input n a.s a.i y x.outputs f) (sym t ∙ c.in_default.is)

pub returns : goal.returns
returns c =
    let a = c.args in
    let n = a.network in
    let x = a.site in
    let f = ready (joined n a.s) (far_at a.far) x.outputs in
    let e : c.ready_outputs-ready.result ≡ flags f =
    c.ready_outputs-ready.ensures ∙ rw c.ends_there-there.ensures (flags_there n a.s (far_at a.far) x.outputs) in
    let y = in_at x a.i in
    let t = rw (e, by_flags n a.s a.i y x.outputs f y.phase) at c.net_input.ensures in
    own_took n a.s _ (set_both x a.i) (λ r. set_both x a.i r.input r.outputs) (λ z os. refl) (net_input n a.s a.i y x.outputs f)
    c.in-Some.turn (sym t ∙ c.in-Some.is)

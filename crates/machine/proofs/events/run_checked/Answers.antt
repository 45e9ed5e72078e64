use mathlib.Core.Path.{ap, ◌∙◌}
use Rattle.model.specs.Steps.{blocking_at}
use Rattle.theorems.proofs.Networks.{valid_ok}
use Rattle.machine.specs.declared.events.Looked.{Looked}
use Rattle.machine.proofs.RangeAt.{range_runnable}
use Rattle.machine.proofs.Single.{looked_act, act_storable, run_done}
use Rattle.machine.proofs.events.run_checked.Goals as goal

pub answer_to-requires : goal.answer_to-requires
answer_to-requires c =
    let a = c.args in
    let p = c.requires in
    (act_storable a.network p.0 a.state.sites a.s a.code p.2 (looked_act c.act_of-looked.ensures)).0

pub blocking_at-requires : goal.blocking_at-requires
blocking_at-requires c =
    let a = c.args in
    let p = c.requires in
    rw c.act_of-looked.ensures
    (range_runnable a.network (valid_ok a.network p.0) a.state p.1 a.s p.2)

pub store_act-requires : goal.store_act-requires
store_act-requires c =
    let a = c.args in
    let p = c.requires in
    let own = act_storable a.network p.0 a.state.sites a.s a.code p.2 (looked_act c.act_of-looked.ensures) in
    record { site = own.0; passable = own.1 }

pub returns : goal.returns
returns c =
    let a = c.args in
    let named = c.blocking_at.ensures
    ∙ ap (λ (v : Looked). blocking_at a.network a.s v.site a.code) c.act_of-looked.ensures in
    run_done a.network a.state a.s a.code (looked_act c.act_of-looked.ensures) c.answer_to.ensures
    c.store_act.ensures named

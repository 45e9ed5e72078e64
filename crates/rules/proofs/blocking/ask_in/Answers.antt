use mathlib.Core.Path.{sym, ap, ◌∙◌}
use Rattle.types.specs.declared.Network.{Network}
use Rattle.rules.proofs.Asked.{asked}
use Rattle.rules.proofs.Blocked.{answer_found, answer_blocked}
use Rattle.rules.proofs.blocking.ask_in.Goals as goal

pub choose-requires : goal.choose-requires
choose-requires c =
    let a = c.args in
    let w = c.in-Some.ensures in
    rw (ap (λ (n : Network). n.sites) w.1) (asked a.routes.now a.sites a.s a.set w.0).1

pub returns-in-Some-choose : goal.returns-in-Some-choose
returns-in-Some-choose c =
    let a = c.args in
    let w = c.in-Some.ensures in
    let e = rw (w.1, w.2) at c.choose.ensures in
    answer_found a.edition a.routes.now a.sites a.s a.outputs a.set w.0 c.in-Some-choose.choice (sym e ∙ c.in-Some-choose.is)

pub returns-in-None : goal.returns-in-None
returns-in-None c =
    let a = c.args in
    let w = c.in-Some.ensures in
    let e = rw (w.1, w.2) at c.choose.ensures in
    answer_blocked a.edition a.routes.now a.sites a.s a.outputs a.set w.0 (sym e ∙ c.in-None.is) c.ways_of.result
    (rw (w.1, w.2) at c.ways_of.ensures)

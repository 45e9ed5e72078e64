use Rattle.std.proofs.Common.{sym, ◌∙◌}
use Rattle.base.specs.Refusals.{number_nonzero}
use Rattle.theorems.proofs.Networks.{valid_ok}
use Rattle.theorems.proofs.Refusals.{not_refused}
use Rattle.machine.proofs.Single.{send_shared, try_is}
use Rattle.machine.proofs.events.send.Goals as goal

pub returns-in-Err : goal.returns-in-Err
returns-in-Err c =
    let a = c.args in
    rw c.from.ensures (send_shared a.network a.state a.site a.set _ c.in-Err.ensures (number_nonzero c.in-Err.refusal))

pub try_send-requires : goal.try_send-requires
try_send-requires c =
    let a = c.args in
    let p = not_refused a.network a.state 0 (sym c.in_default.ensures) in
    let v = valid_ok a.network p.0 in
    (v.few, v.deep)

pub returns : goal.returns
returns c = let a = c.args in c.try_send.ensures ∙ try_is a.network a.state a.site a.set (sym c.in_default.ensures)

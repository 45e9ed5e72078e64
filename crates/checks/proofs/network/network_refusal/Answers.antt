-- `network::network_refusal` meets its contract: 2 and 17, then what the network's parts are turned down for. Assumes nothing.
use Rattle.std.proofs.Common.{◌≡◌, rules, refl, sym, ◌∙◌}
use Rattle.base.specs.Refusals.{number, number_some, refusal_of}
use Rattle.model.specs.Network.{network_refusal}
use Rattle.checks.specs.Network.{parts_refusal}
use Rattle.checks.proofs.NetworkLaws.{kind_then_lem}
use Rattle.checks.proofs.network.network_refusal.Goals as goal

pub returns-in_err-kind_refusal : goal.returns-in_err-kind_refusal
unfolding network_refusal
returns-in_err-kind_refusal c =
    let n = c.args.network in
    let e : refusal_of c.from_residual.result ≡ number c.in_err-kind_refusal.field-0.0 = search rules in
    e ∙ sym (kind_then_lem n _ (parts_refusal n) c.in_err-kind_refusal.ensures ∙ rw (number_some c.in_err-kind_refusal.field-0.0) refl)

pub returns : goal.returns
unfolding network_refusal
returns c =
    let n = c.args.network in
    c.parts_refusal.ensures ∙ sym (kind_then_lem n _ (parts_refusal n) c.in_ok-kind_refusal.ensures)

use Rattle.std.proofs.Common.{◌≡◌, ◌∙◌, refl, rules}
use Rattle.base.specs.Refusals.{number, number_nonzero, refusal_of}
use mathlib.Core.Bool.{true, false}
use Rattle.words.proofs.Publics.{shared_network, shared_fit}
use Rattle.words.proofs.refusals.shared_refusal.Goals as goal
use Rattle.words.proofs.refusals.shared_refusal.Goals.{else-is_canonical-via-then-is_canonical+else-is_in_range, else-is_canonical-via-else-is_canonical}

pub returns-in_err-network_refusal : goal.returns-in_err-network_refusal
returns-in_err-network_refusal c =
    let e = c.in_err-network_refusal.field-0.0 in
    let told : refusal_of c.from_residual.result ≡ number e = search rules in
    told ∙ shared_network _ _ _ c.in_err-network_refusal.ensures (number_nonzero e)

pub returns-then-is_in_range : goal.returns-then-is_in_range
returns-then-is_in_range c =
    shared_fit _ _ _ true true c.told-words c.in_ok-network_refusal.ensures refl c.if-is_canonical.ensures c.if-is_in_range.ensures

pub returns-else-is_canonical : goal.returns-else-is_canonical
returns-else-is_canonical c =
    let fit = shared_fit c.args.network.now c.args.words.now in
    let e = c.in_ok-network_refusal.ensures in
    let z = refl in
    elim c.else-is_canonical.branch [
      | else-is_canonical-via-then-is_canonical+else-is_in_range w ↦
          fit _ true false c.told-words e z w.if-is_canonical.ensures w.if-is_in_range.ensures
      | else-is_canonical-via-else-is_canonical w ↦
          fit _ false _ c.told-words e z w.if-is_canonical.ensures refl
    ]

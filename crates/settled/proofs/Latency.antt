-- Document 01, "How tight the contracts are": of every public function of `latency` that its contract settles its outcome
-- (specs/Outcomes.antt). Each statement names the function's own contract as the checker makes it. Assumes nothing.
use mathlib.Core.Path.{refl}
use Rattle.settled.specs.Outcomes.{Settles}
use Rattle.settled.proofs.Shown.{settled, same}
use Rattle.settled.proofs.Told.{latencies_by}
use Rattle.latency.specs.contracts.uncontended as the_uncontended

pub uncontended_settled : Settles the_uncontended.ended (λ M 𝓤. the_uncontended.clauses) (λ M 𝓤. the_uncontended.spec)
uncontended_settled = settled (λ κs a x y p q. refl) (λ κs a x y p q i. (latencies_by x.0 y.0 (same p q) i, x.1))

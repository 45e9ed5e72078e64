-- Document 01, "How tight the contracts are": of every public function of `draws` that its contract settles its outcome
-- (specs/Outcomes.antt). Each statement names the function's own contract as the checker makes it. Assumes nothing.
use mathlib.Core.Path.{refl}
use Rattle.settled.specs.Outcomes.{Settles}
use Rattle.settled.proofs.Shown.{settled, same}
use Rattle.settled.proofs.Told.{event_by}
use Rattle.draws.specs.contracts.draw as the_draw
use Rattle.draws.specs.contracts.is_restricted as the_is_restricted
use Rattle.draws.specs.contracts.codes_in as the_codes_in
use Rattle.draws.specs.contracts.event_of as the_event_of

pub draw_settled : Settles the_draw.ended (λ M 𝓤. the_draw.clauses) (λ M 𝓤. the_draw.spec)
draw_settled = settled (λ κs a x y p q. refl) (λ κs a x y p q i. (same p q i, x.1))

pub is_restricted_settled : Settles the_is_restricted.ended (λ M 𝓤. the_is_restricted.clauses) (λ M 𝓤. the_is_restricted.spec)
is_restricted_settled = settled (λ κs a x y p q. refl) (λ κs a x y p q i. (same p q i, x.1))

pub codes_in_settled : Settles the_codes_in.ended (λ M 𝓤. the_codes_in.clauses) (λ M 𝓤. the_codes_in.spec)
codes_in_settled = settled (λ κs a x y p q. refl) (λ κs a x y p q i. (same p q i, x.1))

pub event_of_settled : Settles the_event_of.ended (λ M 𝓤. the_event_of.clauses) (λ M 𝓤. the_event_of.spec)
event_of_settled = settled (λ κs a x y p q. refl) (λ κs a x y p q i. (event_by x.0 y.0 (same p q) i, x.1))

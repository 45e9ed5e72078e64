-- Document 01, "How tight the contracts are": of every public function of `faults` that its contract settles its outcome
-- (specs/Outcomes.antt). Each statement names the function's own contract as the checker makes it. Assumes nothing.
use mathlib.Core.Path.{refl}
use Rattle.settled.specs.Outcomes.{Settles}
use Rattle.settled.proofs.Shown.{settled, same}
use Rattle.settled.proofs.Told.{fault_by}
use Rattle.faults.specs.contracts.find as the_find
use Rattle.faults.specs.contracts.size_of as the_size_of
use Rattle.faults.specs.contracts.fields_place as the_fields_place
use Rattle.faults.specs.contracts.channel_place as the_channel_place
use Rattle.faults.specs.contracts.routes_place as the_routes_place
use Rattle.faults.specs.contracts.send_place as the_send_place
use Rattle.faults.specs.contracts.edition_of as the_edition_of
use Rattle.faults.specs.contracts.channel_of as the_channel_of

pub find_settled : Settles the_find.ended (λ M 𝓤. the_find.clauses) (λ M 𝓤. the_find.spec)
find_settled = settled (λ κs a x y p q. refl) (λ κs a x y p q i. (fault_by x.0 y.0 (same p q) i, x.1))

pub size_of_settled : Settles the_size_of.ended (λ M 𝓤. the_size_of.clauses) (λ M 𝓤. the_size_of.spec)
size_of_settled = settled (λ κs a x y p q. refl) (λ κs a x y p q i. (same p q i, x.1))

pub fields_place_settled : Settles the_fields_place.ended (λ M 𝓤. the_fields_place.clauses) (λ M 𝓤. the_fields_place.spec)
fields_place_settled = settled (λ κs a x y p q. refl) (λ κs a x y p q i. (same p q i, x.1))

pub channel_place_settled : Settles the_channel_place.ended (λ M 𝓤. the_channel_place.clauses) (λ M 𝓤. the_channel_place.spec)
channel_place_settled = settled (λ κs a x y p q. refl) (λ κs a x y p q i. (same p q i, x.1))

pub routes_place_settled : Settles the_routes_place.ended (λ M 𝓤. the_routes_place.clauses) (λ M 𝓤. the_routes_place.spec)
routes_place_settled = settled (λ κs a x y p q. refl) (λ κs a x y p q i. (same p q i, x.1))

pub send_place_settled : Settles the_send_place.ended (λ M 𝓤. the_send_place.clauses) (λ M 𝓤. the_send_place.spec)
send_place_settled = settled (λ κs a x y p q. refl) (λ κs a x y p q i. (same p q i, x.1))

pub edition_of_settled : Settles the_edition_of.ended (λ M 𝓤. the_edition_of.clauses) (λ M 𝓤. the_edition_of.spec)
edition_of_settled = settled (λ κs a x y p q. refl) (λ κs a x y p q i. (same p q i, x.1))

pub channel_of_settled : Settles the_channel_of.ended (λ M 𝓤. the_channel_of.clauses) (λ M 𝓤. the_channel_of.spec)
channel_of_settled = settled (λ κs a x y p q. refl) (λ κs a x y p q i. (same p q i, x.1))

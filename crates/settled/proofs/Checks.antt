-- Document 01, "How tight the contracts are": of every public function of `checks` that its contract settles its outcome
-- (specs/Outcomes.antt). Each statement names the function's own contract as the checker makes it. Assumes nothing.
use mathlib.Core.Path.{refl}
use Rattle.settled.specs.Outcomes.{Settles}
use Rattle.settled.proofs.Shown.{settled, same}
use Rattle.settled.proofs.Told.{refusal_by}
use Rattle.checks.specs.contracts.network_refusal as the_network_refusal
use Rattle.checks.specs.contracts.is_in_range as the_is_in_range
use Rattle.checks.specs.contracts.event_refusal as the_event_refusal
use Rattle.checks.specs.contracts.place_ok as the_place_ok
use Rattle.checks.specs.contracts.send_fault as the_send_fault
use Rattle.checks.specs.contracts.sizes_ok as the_sizes_ok
use Rattle.checks.specs.contracts.is_input as the_is_input
use Rattle.checks.specs.contracts.ports_by as the_ports_by
use Rattle.checks.specs.contracts.route_ok as the_route_ok
use Rattle.checks.specs.contracts.stored_ok as the_stored_ok
use Rattle.checks.specs.contracts.kind_refusal as the_kind_refusal
use Rattle.checks.specs.contracts.far_apart as the_far_apart

pub network_refusal_settled : Settles the_network_refusal.ended (λ M 𝓤. the_network_refusal.clauses) (λ M 𝓤. the_network_refusal.spec)
network_refusal_settled = settled (λ κs a x y p q. refl) (λ κs a x y p q i. (refusal_by x.0 y.0 (same p q) i, x.1))

pub is_in_range_settled : Settles the_is_in_range.ended (λ M 𝓤. the_is_in_range.clauses) (λ M 𝓤. the_is_in_range.spec)
is_in_range_settled = settled (λ κs a x y p q. refl) (λ κs a x y p q i. (same p q i, x.1))

pub place_ok_settled : Settles the_place_ok.ended (λ M 𝓤. the_place_ok.clauses) (λ M 𝓤. the_place_ok.spec)
place_ok_settled = settled (λ κs a x y p q. refl) (λ κs a x y p q i. (same p q i, x.1))

pub event_refusal_settled : Settles the_event_refusal.ended (λ M 𝓤. the_event_refusal.clauses) (λ M 𝓤. the_event_refusal.spec)
event_refusal_settled = settled (λ κs a x y p q. refl) (λ κs a x y p q i. (refusal_by x.0 y.0 (same p q) i, x.1))

pub send_fault_settled : Settles the_send_fault.ended (λ M 𝓤. the_send_fault.clauses) (λ M 𝓤. the_send_fault.spec)
send_fault_settled = settled (λ κs a x y p q. refl) (λ κs a x y p q i. (refusal_by x.0 y.0 (same p q) i, x.1))

pub sizes_ok_settled : Settles the_sizes_ok.ended (λ M 𝓤. the_sizes_ok.clauses) (λ M 𝓤. the_sizes_ok.spec)
sizes_ok_settled = settled (λ κs a x y p q. refl) (λ κs a x y p q i. (same p q i, x.1))

pub is_input_settled : Settles the_is_input.ended (λ M 𝓤. the_is_input.clauses) (λ M 𝓤. the_is_input.spec)
is_input_settled = settled (λ κs a x y p q. refl) (λ κs a x y p q i. (same p q i, x.1))

pub ports_by_settled : Settles the_ports_by.ended (λ M 𝓤. the_ports_by.clauses) (λ M 𝓤. the_ports_by.spec)
ports_by_settled = settled (λ κs a x y p q. refl) (λ κs a x y p q i. (same p q i, x.1))

pub route_ok_settled : Settles the_route_ok.ended (λ M 𝓤. the_route_ok.clauses) (λ M 𝓤. the_route_ok.spec)
route_ok_settled = settled (λ κs a x y p q. refl) (λ κs a x y p q i. (same p q i, x.1))

pub stored_ok_settled : Settles the_stored_ok.ended (λ M 𝓤. the_stored_ok.clauses) (λ M 𝓤. the_stored_ok.spec)
stored_ok_settled = settled (λ κs a x y p q. refl) (λ κs a x y p q i. (same p q i, x.1))

pub kind_refusal_settled : Settles the_kind_refusal.ended (λ M 𝓤. the_kind_refusal.clauses) (λ M 𝓤. the_kind_refusal.spec)
kind_refusal_settled = settled (λ κs a x y p q. refl) (λ κs a x y p q i. (refusal_by x.0 y.0 (same p q) i, x.1))

pub far_apart_settled : Settles the_far_apart.ended (λ M 𝓤. the_far_apart.clauses) (λ M 𝓤. the_far_apart.spec)
far_apart_settled = settled (λ κs a x y p q. refl) (λ κs a x y p q i. (same p q i, x.1))

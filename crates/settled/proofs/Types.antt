-- Document 01, "How tight the contracts are": of every public function of `types` that its contract settles its outcome
-- (specs/Outcomes.antt). Each statement names the function's own contract as the checker makes it. Assumes nothing.
use mathlib.Core.Path.{refl}
use Rattle.settled.specs.Outcomes.{Settles}
use Rattle.settled.proofs.Shown.{settled, same}
use Rattle.types.specs.contracts.state_number as the_state_number
use Rattle.types.specs.contracts.connection_number as the_connection_number
use Rattle.types.specs.contracts.received_number as the_received_number
use Rattle.types.specs.contracts.terminator_number as the_terminator_number
use Rattle.types.specs.contracts.is_free as the_is_free
use Rattle.types.specs.contracts.is_split as the_is_split
use Rattle.types.specs.contracts.is_none as the_is_none

pub state_number_settled : Settles the_state_number.ended (λ M 𝓤. the_state_number.clauses) (λ M 𝓤. the_state_number.spec)
state_number_settled = settled (λ κs a x y p q. refl) (λ κs a x y p q i. (same p q i, x.1))

pub connection_number_settled : Settles the_connection_number.ended (λ M 𝓤. the_connection_number.clauses) (λ M 𝓤. the_connection_number.spec)
connection_number_settled = settled (λ κs a x y p q. refl) (λ κs a x y p q i. (same p q i, x.1))

pub received_number_settled : Settles the_received_number.ended (λ M 𝓤. the_received_number.clauses) (λ M 𝓤. the_received_number.spec)
received_number_settled = settled (λ κs a x y p q. refl) (λ κs a x y p q i. (same p q i, x.1))

pub terminator_number_settled : Settles the_terminator_number.ended (λ M 𝓤. the_terminator_number.clauses) (λ M 𝓤. the_terminator_number.spec)
terminator_number_settled = settled (λ κs a x y p q. refl) (λ κs a x y p q i. (same p q i, x.1))

pub is_free_settled : Settles the_is_free.ended (λ M 𝓤. the_is_free.clauses) (λ M 𝓤. the_is_free.spec)
is_free_settled = settled (λ κs a x y p q. refl) (λ κs a x y p q i. (same p q i, x.1))

pub is_split_settled : Settles the_is_split.ended (λ M 𝓤. the_is_split.clauses) (λ M 𝓤. the_is_split.spec)
is_split_settled = settled (λ κs a x y p q. refl) (λ κs a x y p q i. (same p q i, x.1))

pub is_none_settled : Settles the_is_none.ended (λ M 𝓤. the_is_none.clauses) (λ M 𝓤. the_is_none.spec)
is_none_settled = settled (λ κs a x y p q. refl) (λ κs a x y p q i. (same p q i, x.1))

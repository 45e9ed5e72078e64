-- Document 01, "How tight the contracts are": of every public function of `rules` that its contract settles its outcome
-- (specs/Outcomes.antt). Each statement names the function's own contract as the checker makes it. Assumes nothing.
use mathlib.Core.Path.{refl}
use Rattle.settled.specs.Outcomes.{Settles}
use Rattle.settled.proofs.Shown.{settled, same}
use Rattle.rules.specs.contracts.all_ready as the_all_ready
use Rattle.rules.specs.contracts.ask_in as the_ask_in
use Rattle.rules.specs.contracts.blocking_in as the_blocking_in
use Rattle.rules.specs.contracts.can_cut as the_can_cut
use Rattle.rules.specs.contracts.channel_output as the_channel_output
use Rattle.rules.specs.contracts.empty_output as the_empty_output
use Rattle.rules.specs.contracts.free_input as the_free_input
use Rattle.rules.specs.contracts.held_terminator as the_held_terminator
use Rattle.rules.specs.contracts.input_blocking as the_input_blocking
use Rattle.rules.specs.contracts.is_listening as the_is_listening
use Rattle.rules.specs.contracts.local_output as the_local_output
use Rattle.rules.specs.contracts.operator as the_operator
use Rattle.rules.specs.contracts.other_input as the_other_input
use Rattle.rules.specs.contracts.out_queue as the_out_queue
use Rattle.rules.specs.contracts.push_out as the_push_out
use Rattle.rules.specs.contracts.route_in as the_route_in
use Rattle.rules.specs.contracts.route_packet as the_route_packet
use Rattle.rules.specs.contracts.seek_turn as the_seek_turn
use Rattle.rules.specs.contracts.time_out as the_time_out

pub all_ready_settled : Settles the_all_ready.ended (λ M 𝓤. the_all_ready.clauses) (λ M 𝓤. the_all_ready.spec)
all_ready_settled = settled (λ κs a x y p q. refl) (λ κs a x y p q i. (same p q i, x.1))

pub other_input_settled : Settles the_other_input.ended (λ M 𝓤. the_other_input.clauses) (λ M 𝓤. the_other_input.spec)
other_input_settled = settled (λ κs a x y p q. refl) (λ κs a x y p q i. (same p q i, x.1))

pub seek_turn_settled : Settles the_seek_turn.ended (λ M 𝓤. the_seek_turn.clauses) (λ M 𝓤. the_seek_turn.spec)
seek_turn_settled = settled (λ κs a x y p q. refl) (λ κs a x y p q i. (same p q i, x.1))

pub empty_output_settled : Settles the_empty_output.ended (λ M 𝓤. the_empty_output.clauses) (λ M 𝓤. the_empty_output.spec)
empty_output_settled = settled (λ κs a x y p q. refl) (λ κs a x y p q i. (same p q i, x.1))

pub free_input_settled : Settles the_free_input.ended (λ M 𝓤. the_free_input.clauses) (λ M 𝓤. the_free_input.spec)
free_input_settled = settled (λ κs a x y p q. refl) (λ κs a x y p q i. (same p q i, x.1))

pub held_terminator_settled : Settles the_held_terminator.ended (λ M 𝓤. the_held_terminator.clauses) (λ M 𝓤. the_held_terminator.spec)
held_terminator_settled = settled (λ κs a x y p q. refl) (λ κs a x y p q i. (same p q i, x.1))

pub is_listening_settled : Settles the_is_listening.ended (λ M 𝓤. the_is_listening.clauses) (λ M 𝓤. the_is_listening.spec)
is_listening_settled = settled (λ κs a x y p q. refl) (λ κs a x y p q i. (same p q i, x.1))

pub channel_output_settled : Settles the_channel_output.ended (λ M 𝓤. the_channel_output.clauses) (λ M 𝓤. the_channel_output.spec)
channel_output_settled = settled (λ κs a x y p q. refl) (λ κs a x y p q i. (same p q i, x.1))

pub local_output_settled : Settles the_local_output.ended (λ M 𝓤. the_local_output.clauses) (λ M 𝓤. the_local_output.spec)
local_output_settled = settled (λ κs a x y p q. refl) (λ κs a x y p q i. (same p q i, x.1))

pub out_queue_settled : Settles the_out_queue.ended (λ M 𝓤. the_out_queue.clauses) (λ M 𝓤. the_out_queue.spec)
out_queue_settled = settled (λ κs a x y p q. refl) (λ κs a x y p q i. (same p q i, x.1))

pub push_out_settled : Settles the_push_out.ended (λ M 𝓤. the_push_out.clauses) (λ M 𝓤. the_push_out.spec)
push_out_settled = settled (λ κs a x y p q. refl) (λ κs a x y p q i. (same p q i, x.1))

pub ask_in_settled : Settles the_ask_in.ended (λ M 𝓤. the_ask_in.clauses) (λ M 𝓤. the_ask_in.spec)
ask_in_settled = settled (λ κs a x y p q. refl) (λ κs a x y p q i. (same p q i, x.1))

pub blocking_in_settled : Settles the_blocking_in.ended (λ M 𝓤. the_blocking_in.clauses) (λ M 𝓤. the_blocking_in.spec)
blocking_in_settled = settled (λ κs a x y p q. refl) (λ κs a x y p q i. (same p q i, x.1))

pub input_blocking_settled : Settles the_input_blocking.ended (λ M 𝓤. the_input_blocking.clauses) (λ M 𝓤. the_input_blocking.spec)
input_blocking_settled = settled (λ κs a x y p q. refl) (λ κs a x y p q i. (same p q i, x.1))

pub route_in_settled : Settles the_route_in.ended (λ M 𝓤. the_route_in.clauses) (λ M 𝓤. the_route_in.spec)
route_in_settled = settled (λ κs a x y p q. refl) (λ κs a x y p q i. (same p q i, x.1))

pub route_packet_settled : Settles the_route_packet.ended (λ M 𝓤. the_route_packet.clauses) (λ M 𝓤. the_route_packet.spec)
route_packet_settled = settled (λ κs a x y p q. refl) (λ κs a x y p q i. (same p q i, x.1))

pub can_cut_settled : Settles the_can_cut.ended (λ M 𝓤. the_can_cut.clauses) (λ M 𝓤. the_can_cut.spec)
can_cut_settled = settled (λ κs a x y p q. refl) (λ κs a x y p q i. (same p q i, x.1))

pub time_out_settled : Settles the_time_out.ended (λ M 𝓤. the_time_out.clauses) (λ M 𝓤. the_time_out.spec)
time_out_settled = settled (λ κs a x y p q. refl) (λ κs a x y p q i. (same p q i, x.1))

pub operator_settled : Settles the_operator.ended (λ M 𝓤. the_operator.clauses) (λ M 𝓤. the_operator.spec)
operator_settled = settled (λ κs a x y p q. refl) (λ κs a x y p q i. (same p q i, x.1))

-- Document 01, "How tight the contracts are": of every public function of `machine` that its contract settles its outcome
-- (specs/Outcomes.antt). Each statement names the function's own contract as the checker makes it. Assumes nothing.
use mathlib.Core.Path.{refl}
use Rattle.settled.specs.Outcomes.{Settles}
use Rattle.settled.proofs.Shown.{settled, value, beside, behind, inputs, same}
use Rattle.settled.proofs.Told.{play_by, start_by}
use Rattle.machine.specs.contracts.empty_state as the_empty_state
use Rattle.machine.specs.contracts.run as the_run
use Rattle.machine.specs.contracts.send as the_send
use Rattle.machine.specs.contracts.site_pairs as the_site_pairs
use Rattle.machine.specs.contracts.play as the_play
use Rattle.machine.specs.contracts.refused as the_refused
use Rattle.machine.specs.contracts.start as the_start
use Rattle.machine.specs.contracts.tick as the_tick
use Rattle.machine.specs.contracts.ticked as the_ticked
use Rattle.machine.specs.contracts.capped as the_capped
use Rattle.machine.specs.contracts.is_due as the_is_due
use Rattle.machine.specs.contracts.enter as the_enter
use Rattle.machine.specs.contracts.enter_answer as the_enter_answer
use Rattle.machine.specs.contracts.book_room as the_book_room

pub empty_state_settled : Settles the_empty_state.ended (λ M 𝓤. the_empty_state.clauses) (λ M 𝓤. the_empty_state.spec)
empty_state_settled = settled (λ κs a x y p q. refl) (λ κs a x y p q i. (same p q i, x.1))

-- the answer and the next state
pub run_settled : Settles the_run.ended (λ M 𝓤. the_run.clauses) (λ M 𝓤. the_run.spec)
run_settled = settled (λ κs a x y p q. refl) (λ κs a x y p q i. (same p q i, x.1))

-- the answer and the next state
pub send_settled : Settles the_send.ended (λ M 𝓤. the_send.clauses) (λ M 𝓤. the_send.spec)
send_settled = settled (λ κs a x y p q. refl) (λ κs a x y p q i. (same p q i, x.1))

-- the contract says besides that the number is at most 2240
pub site_pairs_settled : Settles the_site_pairs.ended (λ M 𝓤. the_site_pairs.clauses) (λ M 𝓤. the_site_pairs.spec)
site_pairs_settled = settled (λ κs a x y p q. refl) (λ κs a x y p q i. (same p.0 q.0 i, x.1))

-- the answer, and every byte of the lent `book`
pub play_settled : Settles the_play.ended (λ M 𝓤. the_play.clauses) (λ M 𝓤. the_play.spec)
play_settled = settled (λ κs a. beside value (beside (behind (inputs the_play.ended κs).1.0) value))
    (λ κs a x y p q i. (play_by x.0 y.0 (same p.0 q.0) i, (tt, (same p.1 q.1 i, tt))))

pub refused_settled : Settles the_refused.ended (λ M 𝓤. the_refused.clauses) (λ M 𝓤. the_refused.spec)
refused_settled = settled (λ κs a x y p q. refl) (λ κs a x y p q i. (same p q i, x.1))

-- the refusal and the run; the contract says besides what a run that is not refused has
pub start_settled : Settles the_start.ended (λ M 𝓤. the_start.clauses) (λ M 𝓤. the_start.spec)
start_settled = settled (λ κs a x y p q. refl) (λ κs a x y p q i. (start_by x.0 y.0 (same p.0 q.0) i, x.1))

-- every field of the lent `clock`; the answer is empty
pub tick_settled : Settles the_tick.ended (λ M 𝓤. the_tick.clauses) (λ M 𝓤. the_tick.spec)
tick_settled = settled (λ κs a. beside (behind (inputs the_tick.ended κs).0) value)
    (λ κs a x y p q i. (x.0, (same p q i, tt)))

pub ticked_settled : Settles the_ticked.ended (λ M 𝓤. the_ticked.clauses) (λ M 𝓤. the_ticked.spec)
ticked_settled = settled (λ κs a x y p q. refl) (λ κs a x y p q i. (same p q i, x.1))

pub capped_settled : Settles the_capped.ended (λ M 𝓤. the_capped.clauses) (λ M 𝓤. the_capped.spec)
capped_settled = settled (λ κs a x y p q. refl) (λ κs a x y p q i. (same p q i, x.1))

pub is_due_settled : Settles the_is_due.ended (λ M 𝓤. the_is_due.clauses) (λ M 𝓤. the_is_due.spec)
is_due_settled = settled (λ κs a x y p q. refl) (λ κs a x y p q i. (same p q i, x.1))

pub book_room_settled : Settles the_book_room.ended (λ M 𝓤. the_book_room.clauses) (λ M 𝓤. the_book_room.spec)
book_room_settled = settled (λ κs a x y p q. refl) (λ κs a x y p q i. (same p q i, x.1))

-- how many services there are then, and every byte of the lent `book`
pub enter_settled : Settles the_enter.ended (λ M 𝓤. the_enter.clauses) (λ M 𝓤. the_enter.spec)
enter_settled =
    settled
    (λ κs a. beside (behind (inputs the_enter.ended κs).0) (beside value (beside value (beside value (beside value value)))))
    (λ κs a x y p q i. (same p.0 q.0 i, (same p.1 q.1 i, (tt, (tt, (tt, (tt, tt)))))))

pub enter_answer_settled : Settles the_enter_answer.ended (λ M 𝓤. the_enter_answer.clauses) (λ M 𝓤. the_enter_answer.spec)
enter_answer_settled =
    settled
    (λ κs a. beside (behind (inputs the_enter_answer.ended κs).0) (beside value (beside value (beside value value))))
    (λ κs a x y p q i. (same p.0 q.0 i, (same p.1 q.1 i, (tt, (tt, (tt, tt))))))

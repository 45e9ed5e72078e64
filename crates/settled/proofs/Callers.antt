-- Document 01, "How tight the contracts are": of every public function of `callers` that its contract settles its outcome
-- (specs/Outcomes.antt). Each statement names the function's own contract as the checker makes it. Assumes nothing.
use mathlib.Core.Path.{refl}
use Rattle.settled.specs.Outcomes.{Settles}
use Rattle.settled.proofs.Shown.{settled, value, beside, behind, inputs, same}
use Rattle.settled.proofs.Told.{play_by}
use Rattle.callers.specs.contracts.run as the_run
use Rattle.callers.specs.contracts.send as the_send
use Rattle.callers.specs.contracts.play as the_play
use Rattle.callers.specs.contracts.play_beside as the_play_beside
use Rattle.callers.specs.contracts.two_draws as the_two_draws

-- the answer and the next state
pub run_settled : Settles the_run.ended (λ M 𝓤. the_run.clauses) (λ M 𝓤. the_run.spec)
run_settled = settled (λ κs a x y p q. refl) (λ κs a x y p q i. (same p q i, x.1))

-- the answer and the next state
pub send_settled : Settles the_send.ended (λ M 𝓤. the_send.clauses) (λ M 𝓤. the_send.spec)
send_settled = settled (λ κs a x y p q. refl) (λ κs a x y p q i. (same p q i, x.1))

-- the answer, and every byte of the lent `book`
pub play_settled : Settles the_play.ended (λ M 𝓤. the_play.clauses) (λ M 𝓤. the_play.spec)
play_settled = settled (λ κs a. beside value (beside (behind (inputs the_play.ended κs).1.0) value))
    (λ κs a x y p q i. (play_by x.0 y.0 (same p.0 q.0) i, (tt, (same p.1 q.1 i, tt))))

-- the answer, every byte of the lent `book`, every byte of the lent `beside`
pub play_beside_settled : Settles the_play_beside.ended (λ M 𝓤. the_play_beside.clauses) (λ M 𝓤. the_play_beside.spec)
play_beside_settled = settled
    (λ κs a.
    let i = inputs the_play_beside.ended κs in
    beside value (beside (behind i.1.0) (beside (behind i.1.1.0) value)))
    (λ κs a x y p q i. (play_by x.0 y.0 (same p.0 q.0) i, (tt, (same p.1 q.1 i, (same p.2 q.2 i, tt)))))

-- the second answer and the state after it
pub two_draws_settled : Settles the_two_draws.ended (λ M 𝓤. the_two_draws.clauses) (λ M 𝓤. the_two_draws.spec)
two_draws_settled = settled (λ κs a x y p q. refl) (λ κs a x y p q i. (same p q i, x.1))

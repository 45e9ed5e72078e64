-- Document 01, "How tight the contracts are": of every public function of `exports` that its contract settles its outcome
-- (specs/Outcomes.antt). Each statement names the function's own contract as the checker makes it. Assumes nothing.
use mathlib.Core.Path.{refl}
use Rattle.settled.specs.Outcomes.{Settles}
use Rattle.settled.proofs.Shown.{settled, value, beside, behind, inputs, same}
use Rattle.exports.specs.contracts.fennqualo_check as the_fennqualo_check
use Rattle.exports.specs.contracts.fennqualo_play as the_fennqualo_play
use Rattle.exports.specs.contracts.fennqualo_copy as the_fennqualo_copy
use Rattle.exports.specs.contracts.fennqualo_over as the_fennqualo_over
use Rattle.exports.specs.contracts.fennqualo_back as the_fennqualo_back

pub fennqualo_check_settled : Settles the_fennqualo_check.ended (λ M 𝓤. the_fennqualo_check.clauses) (λ M 𝓤. the_fennqualo_check.spec)
fennqualo_check_settled = settled (λ κs a x y p q. refl) (λ κs a x y p q i. (same p q i, x.1))

-- the answer, every byte of the lent `book`, every place of the lent `counts`
pub fennqualo_play_settled : Settles the_fennqualo_play.ended (λ M 𝓤. the_fennqualo_play.clauses) (λ M 𝓤. the_fennqualo_play.spec)
fennqualo_play_settled = settled
    (λ κs a.
    let i = inputs the_fennqualo_play.ended κs in
    beside value (beside (behind i.1.0) (beside (behind i.1.1.0) value)))
    (λ κs a x y p q i. (same p.0 q.0 i, (tt, (same p.1 q.1 i, (same p.2 q.2 i, tt)))))

-- the answer, and every byte of the lent `out`
pub fennqualo_copy_settled : Settles the_fennqualo_copy.ended (λ M 𝓤. the_fennqualo_copy.clauses) (λ M 𝓤. the_fennqualo_copy.spec)
fennqualo_copy_settled = settled (λ κs a. beside value (beside (behind (inputs the_fennqualo_copy.ended κs).1.0) value))
    (λ κs a x y p q i. (same p.0 q.0 i, (tt, (same p.1 q.1 i, tt))))

pub fennqualo_over_settled : Settles the_fennqualo_over.ended (λ M 𝓤. the_fennqualo_over.clauses) (λ M 𝓤. the_fennqualo_over.spec)
fennqualo_over_settled = settled (λ κs a. beside value (beside (behind (inputs the_fennqualo_over.ended κs).1.0) value))
    (λ κs a x y p q i. (same p.0 q.0 i, (tt, (same p.1 q.1 i, tt))))

pub fennqualo_back_settled : Settles the_fennqualo_back.ended (λ M 𝓤. the_fennqualo_back.clauses) (λ M 𝓤. the_fennqualo_back.spec)
fennqualo_back_settled = settled (λ κs a. beside value (beside (behind (inputs the_fennqualo_back.ended κs).1.0) value))
    (λ κs a x y p q i. (same p.0 q.0 i, (tt, (same p.1 q.1 i, tt))))

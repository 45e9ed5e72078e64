-- Document 01, "How tight the contracts are": of every public function of `archive` that its contract settles its outcome
-- (specs/Outcomes.antt). Each statement names the function's own contract as the checker makes it. Assumes nothing.
use mathlib.Core.Path.{refl}
use Rattle.settled.specs.Outcomes.{Settles}
use Rattle.settled.proofs.Shown.{settled, value, beside, behind, inputs, same}
use Rattle.settled.proofs.Told.{run_by, refusal_by, length_by}
use Rattle.archive.specs.contracts.read as the_read
use Rattle.archive.specs.contracts.check as the_check
use Rattle.archive.specs.contracts.write as the_write
use Rattle.archive.specs.contracts.move_over as the_move_over
use Rattle.archive.specs.contracts.move_back as the_move_back

pub read_settled : Settles the_read.ended (λ M 𝓤. the_read.clauses) (λ M 𝓤. the_read.spec)
read_settled = settled (λ κs a x y p q. refl) (λ κs a x y p q i. (run_by x.0 y.0 (same p q) i, x.1))

pub check_settled : Settles the_check.ended (λ M 𝓤. the_check.clauses) (λ M 𝓤. the_check.spec)
check_settled = settled (λ κs a x y p q. refl) (λ κs a x y p q i. (refusal_by x.0 y.0 (same p q) i, x.1))

-- the answer, and every byte of the lent `out`
pub write_settled : Settles the_write.ended (λ M 𝓤. the_write.clauses) (λ M 𝓤. the_write.spec)
write_settled = settled (λ κs a. beside value (beside (behind (inputs the_write.ended κs).1.0) value))
    (λ κs a x y p q i. (length_by x.0 y.0 (same p.0 q.0) i, (tt, (same p.1 q.1 i, tt))))

pub move_over_settled : Settles the_move_over.ended (λ M 𝓤. the_move_over.clauses) (λ M 𝓤. the_move_over.spec)
move_over_settled = settled (λ κs a. beside value (beside (behind (inputs the_move_over.ended κs).1.0) value))
    (λ κs a x y p q i. (length_by x.0 y.0 (same p.0 q.0) i, (tt, (same p.1 q.1 i, tt))))

pub move_back_settled : Settles the_move_back.ended (λ M 𝓤. the_move_back.clauses) (λ M 𝓤. the_move_back.spec)
move_back_settled = settled (λ κs a. beside value (beside (behind (inputs the_move_back.ended κs).1.0) value))
    (λ κs a x y p q i. (length_by x.0 y.0 (same p.0 q.0) i, (tt, (same p.1 q.1 i, tt))))

-- Document 01, "How tight the contracts are": of the functions of `report` that compose what is printed, that their
-- contracts settle their outcomes (specs/Outcomes.antt). Each statement names the function's own contract as the checker
-- makes it. Assumes nothing.
use Rattle.settled.specs.Outcomes.{Settles}
use Rattle.settled.proofs.Shown.{settled, value, beside, behind, inputs, same}
use Rattle.report.specs.contracts.answer_line as the_answer_line
use Rattle.report.specs.contracts.service_lines as the_service_lines
use Rattle.report.specs.contracts.add_answer as the_add_answer
use Rattle.report.specs.contracts.add_bytes as the_add_bytes
use Rattle.report.specs.contracts.add_name as the_add_name
use Rattle.report.specs.contracts.add_number as the_add_number

-- the answer, and every byte of the lent `text`
pub answer_line_settled : Settles the_answer_line.ended (λ M 𝓤. the_answer_line.clauses) (λ M 𝓤. the_answer_line.spec)
answer_line_settled = settled
    (λ κs a. beside value (beside value (beside (behind (inputs the_answer_line.ended κs).1.1.0) value)))
    (λ κs a x y p q i. (same p.0 q.0 i, (tt, (tt, (same p.1 q.1 i, tt)))))

-- the answer, and every byte of the lent `text`
pub service_lines_settled : Settles the_service_lines.ended (λ M 𝓤. the_service_lines.clauses) (λ M 𝓤. the_service_lines.spec)
service_lines_settled = settled (λ κs a. beside value (beside (behind (inputs the_service_lines.ended κs).1.0) value))
    (λ κs a x y p q i. (same p.0 q.0 i, (tt, (same p.1 q.1 i, tt))))

-- the answer, and every byte of the lent `text`
pub add_bytes_settled : Settles the_add_bytes.ended (λ M 𝓤. the_add_bytes.clauses) (λ M 𝓤. the_add_bytes.spec)
add_bytes_settled = settled
    (λ κs a. beside (behind (inputs the_add_bytes.ended κs).0) (beside value (beside value value)))
    (λ κs a x y p q i. (same p.1.place q.1.place i, (same p.1.bytes q.1.bytes i, (tt, (tt, tt)))))

-- the answer, and every byte of the lent `text`
pub add_name_settled : Settles the_add_name.ended (λ M 𝓤. the_add_name.clauses) (λ M 𝓤. the_add_name.spec)
add_name_settled = settled
    (λ κs a. beside (behind (inputs the_add_name.ended κs).0) (beside value (beside value value)))
    (λ κs a x y p q i. (same p.1.place q.1.place i, (same p.1.bytes q.1.bytes i, (tt, (tt, tt)))))

-- the answer, and every byte of the lent `text`
pub add_number_settled : Settles the_add_number.ended (λ M 𝓤. the_add_number.clauses) (λ M 𝓤. the_add_number.spec)
add_number_settled = settled
    (λ κs a. beside (behind (inputs the_add_number.ended κs).0) (beside value (beside value value)))
    (λ κs a x y p q i. (same p.1.place q.1.place i, (same p.1.bytes q.1.bytes i, (tt, (tt, tt)))))

-- the answer, and every byte of the lent `text`
pub add_answer_settled : Settles the_add_answer.ended (λ M 𝓤. the_add_answer.clauses) (λ M 𝓤. the_add_answer.spec)
add_answer_settled = settled
    (λ κs a. beside (behind (inputs the_add_answer.ended κs).0) (beside value (beside value (beside value value))))
    (λ κs a x y p q i. (same p.1.place q.1.place i, (same p.1.bytes q.1.bytes i, (tt, (tt, (tt, tt))))))

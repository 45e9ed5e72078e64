-- Document 01, "How tight the contracts are": of every public function of `words` that its contract settles its outcome
-- (specs/Outcomes.antt). Each statement names the function's own contract as the checker makes it. Assumes nothing.
use mathlib.Core.Path.{refl, ap}
use mathlib.Core.List.{List}
use Prim.Native.Nat.{ℕ}
use Rattle.types.specs.declared.Sent.TheVariants.{the_data as Sent}
use Rattle.types.specs.declared.RunAnswer.{RunAnswer}
use Rattle.layout.specs.Public.{RanWords, SentWords}
use Rattle.settled.specs.Outcomes.{Settles}
use Rattle.settled.proofs.Shown.{settled, value, beside, behind, inputs, same}
use Rattle.settled.proofs.Told.{play_by, owed_by}
use Rattle.words.specs.contracts.owed as the_owed
use Rattle.words.specs.contracts.play as the_play
use Rattle.words.specs.contracts.run as the_run
use Rattle.words.specs.contracts.send as the_send
use Rattle.words.specs.contracts.write_empty as the_write_empty

-- the answer, and every byte of the lent `book`
pub play_settled : Settles the_play.ended (λ M 𝓤. the_play.clauses) (λ M 𝓤. the_play.spec)
play_settled = settled (λ κs a. beside value (beside (behind (inputs the_play.ended κs).1.0) value))
    (λ κs a x y p q i. (play_by x.0 y.0 (same p.0 q.0) i, (tt, (same p.1 q.1 i, tt))))

-- the answer with the outputs in the way, and every one of the lent `words`
pub run_settled : Settles the_run.ended (λ M 𝓤. the_run.clauses) (λ M 𝓤. the_run.spec)
run_settled =
    settled (λ κs a. beside value (beside (behind (inputs the_run.ended κs).1.0) (beside value (beside value value))))
    (λ κs a x y p q i.
    let answer : RanWords → RunAnswer = λ w. record { answer = w.answer; blocking = w.blocking } in
    let words : RanWords → List ℕ = λ w. w.words in
    (same (ap answer p) (ap answer q) i, (tt, (same (ap words p) (ap words q) i, (tt, (tt, tt))))))

pub send_settled : Settles the_send.ended (λ M 𝓤. the_send.clauses) (λ M 𝓤. the_send.spec)
send_settled =
    settled (λ κs a. beside value (beside (behind (inputs the_send.ended κs).1.0) (beside value (beside value value))))
    (λ κs a x y p q i.
    let answer : SentWords → Sent = λ w. w.answer in
    let words : SentWords → List ℕ = λ w. w.words in
    (same (ap answer p) (ap answer q) i, (tt, (same (ap words p) (ap words q) i, (tt, (tt, tt))))))

-- the answer, and every one of the lent `words`
pub write_empty_settled : Settles the_write_empty.ended (λ M 𝓤. the_write_empty.clauses) (λ M 𝓤. the_write_empty.spec)
write_empty_settled = settled (λ κs a. beside (behind (inputs the_write_empty.ended κs).0) value)
    (λ κs a x y p q i. (same p.0 q.0 i, (same p.1 q.1 i, tt)))

pub owed_settled : Settles the_owed.ended (λ M 𝓤. the_owed.clauses) (λ M 𝓤. the_owed.spec)
owed_settled = settled (λ κs a x y p q. refl) (λ κs a x y p q i. (owed_by x.0 y.0 (same p q) i, x.1))

-- The ways of `fennqualo_play`: its refusal, the book and the counts by what the reader and the player answer. Assumes
-- what each law names.
use Prim.Native.Nat.{ℕ, ◌≤◌, ◌<◌}
use mathlib.Core.Path.{◌≡◌, refl, sym, ap, ◌∙◌}
use mathlib.Core.Bool.{Bool, true, false, cond}
use mathlib.Core.List.{List, [], ◌∷◌}
use native.Mathlib.Omega.{arith}
use borrow.Author.Tests.{lt-ltb, le-ltb, eqb-true, eq-eqb, ne_eqb}
use lib.Dec.{eqb, ltb}
use lib.ListN.{length, set}
use Rattle.model.specs.Runs.{book_room, played_run, counts_of}
use Rattle.format.specs.Format.{run_of}
use Rattle.format.specs.Refusals.{read_refusal}
use Rattle.machine.specs.declared.player.PlayAnswer.{PlayAnswer}
use Rattle.machine.specs.Play.{play_refusal, play_answer, play_book, no_counts}
use Rattle.base.specs.Answers.{at_front}
use Rattle.calls.specs.Calls.{count_places, four_counts, call_refusal, book_after, counts_after}

-- four stores, one after the other
pub four_stored : (x y z w : ℕ) (out : List ℕ) → count_places ≤ length out
    → set (set (set (set out 0 x) 1 y) 2 z) 3 w ≡ at_front (x ∷ y ∷ z ∷ w ∷ []) out
unfolding at_front
four_stored x y z w [] h = absurd (omega arith)
four_stored x y z w (a ∷ []) h = absurd (omega arith)
four_stored x y z w (a ∷ b ∷ []) h = absurd (omega arith)
four_stored x y z w (a ∷ b ∷ c ∷ []) h = absurd (omega arith)
four_stored x y z w (a ∷ b ∷ c ∷ d ∷ out) h = refl

-- the player's answer, taken apart
answer_refusal : (b : List ℕ) (room : ℕ) → (play_answer b room).refusal ≡ play_refusal b room
unfolding play_answer
answer_refusal b room = go (eqb (play_refusal b room) 0) refl
  where
    go : (t : Bool) → eqb (play_refusal b room) 0 ≡ t
        → (cond {A = PlayAnswer} t (record { refusal = 0; counts = counts_of (played_run (run_of b)) })
        (record { refusal = play_refusal b room; counts = no_counts })).refusal ≡ play_refusal b room
    go true e = sym (eqb-true (play_refusal b room) 0 e)
    go false e = refl

answer_counts : (b : List ℕ) (room : ℕ) → play_refusal b room ≡ 0
    → (play_answer b room).counts ≡ counts_of (played_run (run_of b))
unfolding play_answer
answer_counts b room e = rw (eq-eqb (play_refusal b room) 0 e) refl

module _ (b book counts : List ℕ) where
  -- what the contract says of an answer, and of book and counts after the call
  abbrev Answered : ℕ → List ℕ → List ℕ → Type 0
  Answered r book' counts' =
      (r ≡ call_refusal b (length book) (length counts)) × (book' ≡ book_after b book (length counts))
      × (counts' ≡ counts_after b (length book) counts)

  turned_down : (f : ℕ) → call_refusal b (length book) (length counts) ≡ f → (f ≡ 0 → ⊥) → Answered f book counts
  unfolding book_after counts_after
  turned_down f e h = (sym e, rw (e, ne_eqb f 0 h) refl, rw (e, ne_eqb f 0 h) refl)

  -- too few places: the reader's refusal
  pub few_refused : (f : ℕ) → f ≡ read_refusal b → (f ≡ 0 → ⊥) → Answered f book counts
  unfolding call_refusal play_refusal
  few_refused f e h = turned_down f (rw (← e, ne_eqb f 0 h, ne_eqb f 0 h) refl) h

  -- too few places, and an archive: 14, whether the book is too short or not
  pub few_places : (f : ℕ) → f ≡ read_refusal b → f ≡ 0 → length counts < count_places → Answered 14 book counts
  unfolding call_refusal play_refusal
  few_places f e z h =
      turned_down 14
      (rw (← e, z, lt-ltb (length counts) count_places h) (go (ltb (length book) (book_room (run_of b)))))
      (λ q. omega arith)
    where
      go : (t : Bool) → ◌≡◌ {A = ℕ} (cond (eqb (cond t 14 0) 0) 14 (cond t 14 0)) 14
      go true = refl
      go false = refl

  module _ (p : PlayAnswer) (after : List ℕ) (ep : p ≡ play_answer b (length book)) (ea : after ≡ play_book b book) where
    same_refusal : p.refusal ≡ play_refusal b (length book)
    same_refusal = ap (λ (p : PlayAnswer). p.refusal) ep ∙ answer_refusal b (length book)

    -- the player's refusal
    pub play_refused : (p.refusal ≡ 0 → ⊥) → Answered p.refusal after counts
    unfolding call_refusal play_book
    play_refused h =
        let k : play_refusal b (length book) ≡ 0 → ⊥ = λ z. h (same_refusal ∙ z) in
        let e : after ≡ book = ea ∙ (rw (ne_eqb (play_refusal b (length book)) 0 k) refl) in
        let a = turned_down p.refusal (rw (ne_eqb (play_refusal b (length book)) 0 k) (sym same_refusal)) h in
        (a.0, e ∙ a.1, a.2)

    -- played, the counts stored
    pub play_done : (stored : List ℕ) → p.refusal ≡ 0 → count_places ≤ length counts
        → stored ≡ at_front (four_counts p.counts) counts → Answered 0 after stored
    unfolding call_refusal book_after counts_after play_book
    play_done stored z h es =
        let k : play_refusal b (length book) ≡ 0 = sym same_refusal ∙ z in
        let q = le-ltb (length counts) count_places h in
        let c : p.counts ≡ counts_of (played_run (run_of b)) =
        ap (λ (p : PlayAnswer). p.counts) ep ∙ answer_counts b (length book) k in
        (rw (k, q) refl, ea ∙ (rw (k, q) refl), es ∙ (rw (k, q, c) refl))

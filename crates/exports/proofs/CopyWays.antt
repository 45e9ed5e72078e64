-- The ways of `fennqualo_copy`: its refusal and the room by what the reader answers; bytes put one by one are put at the
-- front. Assumes what each law names.
use Prim.Native.Nat.{ℕ, ◌≤◌, ◌<◌}
use mathlib.Core.Path.{◌≡◌, refl, ap}
use mathlib.Core.List.{List, [], ◌∷◌}
use native.Mathlib.Nat.{not-suc-le-zero, le_of_suc-le-suc}
use borrow.Author.Tests.{eq-eqb, ne_eqb, lt-ltb, le-ltb}
use lib.ListN.{length}
use Rattle.base.specs.Answers.{at_front}
use Rattle.base.specs.Over.{over}
use Rattle.format.specs.Format.{at}
use Rattle.format.specs.Refusals.{read_refusal}
use Rattle.calls.specs.Calls.{copy_refusal, copy_after}

-- one by one, as many as there are
pub all_put : (b out : List ℕ) → length b ≤ length out → over (at b) (length b) out ≡ at_front b out
unfolding over at_front
all_put [] out h = refl
all_put (x ∷ b) [] h = absurd (not-suc-le-zero h)
all_put (x ∷ b) (y ∷ out) h = ap (λ (l : List ℕ). x ∷ l) (all_put b out (le_of_suc-le-suc h))

module _ (b out : List ℕ) (f : ℕ) (e : f ≡ read_refusal b) where
  -- what the contract says of an answer, and of the room after the call
  abbrev Answered : ℕ → List ℕ → Type 0
  Answered r after = (r ≡ copy_refusal b (length out)) × (after ≡ copy_after b out)

  pub copy_refused : (f ≡ 0 → ⊥) → Answered f out
  unfolding copy_refusal copy_after
  copy_refused h = let n = ne_eqb f 0 h in (rw (← e, n) refl, rw (← e, n, n) refl)

  module _ (z : f ≡ 0) where
    pub copy_short : length out < length b → Answered 14 out
    unfolding copy_refusal copy_after
    copy_short l =
        let n = eq-eqb f 0 z in
        let s = lt-ltb (length out) (length b) l in (rw (← e, n, s) refl, rw (← e, n, s) refl)

    pub copy_done : (after : List ℕ) → length b ≤ length out → after ≡ at_front b out → Answered 0 after
    unfolding copy_refusal copy_after
    copy_done after l p =
        let n = eq-eqb f 0 z in
        let s = le-ltb (length out) (length b) l in (rw (← e, n, s) refl, rw (← e, n, s) p)

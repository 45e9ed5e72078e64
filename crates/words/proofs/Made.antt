-- An array made by a call at each of its indices, as the list of the calls' answers. Assumes nothing.
use Prim.Native.Nat.{ℕ, zero, suc, ◌+◌, ◌≤◌, ◌<◌}
use mathlib.Core.Path.{◌≡◌, refl, subst, ◌∙◌}
use mathlib.Core.List.{List}
use native.Mathlib.Omega.{arith}
use denote.Param.Members.{Mut, Called}
use lib.ListN.{get_or}
use Rattle.std.specs.Array.{IsFromFnResult, IsFromFnResultFrom}
use Rattle.std.proofs.Common.{⊎_elim, eq-or-lt_of_le}
use Rattle.base.specs.Rows.{rows, spelled}
use Rattle.layout.proofs.Rows.{rows_same}

module _ {A F : Type 0} {g : Mut F (ℕ × Unit {0}) A} (f : ℕ → A) (c : F) (d : A) (xs : List A)
    (gives : (x : ℕ) (a : A) (q : F) → Called g c (x, tt) a q → (q ≡ c) × (a ≡ f x)) where
  each_made : (n i : ℕ) (p : F) → p ≡ c → IsFromFnResultFrom g p xs i n → (k : ℕ) → i ≤ k → k < i + n → get_or xs k d ≡ f k
  each_made zero i p e made k h l = absurd (omega arith)
  each_made (suc n) i p e made k h l =
      let w = subst (λ (p : F). IsFromFnResultFrom g p xs i (suc n)) e made in
      let t = gives i w.1 w.0 w.3 in
      let here = w.2.1 d ∙ t.1 in
      ⊎_elim (λ e. subst (λ (m : ℕ). get_or xs m d ≡ f m) e here)
      (λ m. each_made n (i + 1) w.0 t.0 w.4 k (omega arith) (omega arith)) (eq-or-lt_of_le h)

  -- `array::from_fn`, where each call gives f of its index and changes nothing
  pub made_rows : (n : ℕ) → IsFromFnResult g c xs n → xs ≡ rows n f
  made_rows n made =
      spelled n d xs made.long
      ∙ rows_same n f (λ i. get_or xs i d) (λ i h. each_made n 0 c refl made.each i (omega arith) (omega arith))

-- Owed pairs, added up place by place: what a loop over an array has after so many turns. Assumes nothing.
use mathlib.Core.Path.{◌≡◌, sym, ap, ap₂, ◌∙◌}
use mathlib.Core.List.{List}
use Prim.Native.Nat.{ℕ, ◌+◌, ◌<◌, min}
use native.Mathlib.Omega.{arith}
use lib.ListN.{get_or, take, length}
use Rattle.std.proofs.lemmas.List.{take_min}
use Rattle.base.specs.Rows.{spelled}
use Rattle.base.specs.Sums.{sum, sum_next}

module _ {A : Type 0} where
  -- one place more
  pub one_place : (f : A → ℕ) (xs : List A) (k n a : ℕ) (x : A) → k < length xs → x ≡ get_or xs k x → n ≡ sum f (take k xs)
      → a ≡ f x → n + a ≡ sum f (take (k + 1) xs)
  one_place f xs k n a x h i e q =
      ap₂ ◌+◌ e (q ∙ ap f i) ∙ sym (sum_next f xs k x h)

  -- the first so many entries, of a list of n
  pub first_entries : (f : A → ℕ) (l : List A) (c n : ℕ) → length l ≡ n → sum f (take (min c n) l) ≡ sum f (take c l)
  first_entries f l c n h = ap (λ (m : ℕ). sum f (take (min c m) l)) (sym h) ∙ ap (sum f) (take_min c l)

  -- both in-queues
  pub two_queues : (f : A → ℕ) (l : List A) (d : A) → length l ≡ 2 → f (get_or l 0 d) + f (get_or l 1 d) ≡ sum f l
  unfolding sum
  two_queues f l d h = sym (ap (sum f) (spelled 2 d l h) ∙ (omega arith))

-- A loop over a list that stores in some of its places from the front on. Assumes nothing.
use mathlib.Core.Path.{◌≡◌, refl, sym, ap, ◌∙◌}
use mathlib.Core.List.{List, [], ◌∷◌}
use Prim.Native.Nat.{ℕ, zero, suc, ◌+◌, ◌<◌}
use native.Mathlib.Nat.{not-suc-le-zero, le_of_suc-le-suc}
use native.Mathlib.Numerals.{add-one}
use lib.ListN.{length, get_or, set, length-set}
use Rattle.base.specs.Over.{over, over_none, over_step}

module _ {A : Type 0} where
  kept : (f : ℕ → A) (k : ℕ) (xs : List A) (d : A) → get_or xs k d ≡ f k → k < length xs → over f k xs ≡ over f (suc k) xs
  unfolding over
  kept f k [] d e h = absurd (not-suc-le-zero h)
  kept f zero (x ∷ xs) d e h = ap (λ (y : A). y ∷ xs) e
  kept f (suc k) (x ∷ xs) d e h = ap (λ (r : List A). f zero ∷ r) (kept (λ i. f (suc i)) k xs d e (le_of_suc-le-suc h))

  -- a is xs with f 0, f 1, .. in its first k places
  pub record Filled (f : ℕ → A) (xs : List A) (k : ℕ) (a : List A) : Type 0 where
    pub long : length a ≡ length xs
    pub same : a ≡ over f k xs

  module _ {f : ℕ → A} {xs : List A} where
    pub begun : Filled f xs 0 xs
    begun = record { long = refl; same = sym (over_none f xs) }

    module _ {k : ℕ} {a : List A} (h : k < length xs) (w : Filled f xs k a) (b : List A) where
      -- a place that is written
      pub stores : (v : A) → b ≡ set a k v → v ≡ f k → Filled f xs (k + 1) b
      stores v e q =
          record { long = ap length e ∙ (simp length-set w.long); same = e ∙ over_step f k xs a v w.same q h }

      -- a place that keeps what it had
      pub keeps : (d : A) → b ≡ a → get_or xs k d ≡ f k → Filled f xs (k + 1) b
      keeps d e q = record { long = ap length e ∙ w.long; same = e ∙ w.same ∙ (rw add-one (kept f k xs d q h)) }

    pub ended : {k : ℕ} {a : List A} (n : ℕ) → Filled f xs k a → k ≡ n → a ≡ over f n xs
    ended n w e = w.same ∙ ap (λ (m : ℕ). over f m xs) e

-- A list whose first places are filled by a function: what a loop that stores from the front has done. Assumes nothing.
use Rattle.std.specs.Prelude.{◌≡◌, length, get_or, set}
use Rattle.std.proofs.Math.Path.{refl, ap, ap₂}
use mathlib.Core.List.{List, [], ◌∷◌}
use Prim.Native.Nat.{ℕ, zero, suc, ◌+◌, ◌≤◌, ◌<◌, suc-le-suc}
use Rattle.std.proofs.Common.{not-suc-le-zero, le_of_suc-le-suc, zero-lt-suc, add-one}

module _ {A : Type 0} where
  -- xs with f 0, f 1, .. in its first k places
  unfoldable pub over : (ℕ → A) → ℕ → List A → List A
  over f zero xs = xs
  over f (suc k) [] = []
  over f (suc k) (x ∷ xs) = f zero ∷ over (λ i. f (suc i)) k xs

  pub over_none : (f : ℕ → A) (xs : List A) → over f 0 xs ≡ xs
  unfolding over
  over_none f xs = refl

  over_suc : (f : ℕ → A) (k : ℕ) (xs : List A) → k < length xs → set (over f k xs) k (f k) ≡ over f (suc k) xs
  unfolding over
  over_suc f k [] h = absurd (not-suc-le-zero h)
  over_suc f zero (x ∷ xs) h = refl
  over_suc f (suc k) (x ∷ xs) h =
      ap (λ (r : List A). f zero ∷ r) (over_suc (λ i. f (suc i)) k xs (le_of_suc-le-suc h))

  -- one store more
  pub over_more : (f : ℕ → A) (k : ℕ) (xs : List A) → k < length xs → set (over f k xs) k (f k) ≡ over f (k + 1) xs
  over_more f k xs h = rw add-one (over_suc f k xs h)

  pub length_over : (f : ℕ → A) (k : ℕ) (xs : List A) → length (over f k xs) ≡ length xs
  unfolding over
  length_over f zero xs = refl
  length_over f (suc k) [] = refl
  length_over f (suc k) (x ∷ xs) = ap suc (length_over (λ i. f (suc i)) k xs)

  pub over_below : (f : ℕ → A) (k : ℕ) (xs : List A) (i : ℕ) (d : A) → i < k → k ≤ length xs
      → get_or (over f k xs) i d ≡ f i
  unfolding over
  over_below f zero xs i d h l = absurd (not-suc-le-zero h)
  over_below f (suc k) [] i d h l = absurd (not-suc-le-zero l)
  over_below f (suc k) (x ∷ xs) zero d h l = refl
  over_below f (suc k) (x ∷ xs) (suc i) d h l =
      over_below (λ i. f (suc i)) k xs i d (le_of_suc-le-suc h) (le_of_suc-le-suc l)

  pub over_above : (f : ℕ → A) (k : ℕ) (xs : List A) (i : ℕ) (d : A) → k ≤ i → get_or (over f k xs) i d ≡ get_or xs i d
  unfolding over
  over_above f zero xs i d h = refl
  over_above f (suc k) [] i d h = refl
  over_above f (suc k) (x ∷ xs) zero d h = absurd (not-suc-le-zero h)
  over_above f (suc k) (x ∷ xs) (suc i) d h = over_above (λ i. f (suc i)) k xs i d (le_of_suc-le-suc h)

  -- a loop's turn: a is filled below k, and v is stored at k
  pub over_step : (f : ℕ → A) (k : ℕ) (xs a : List A) (v : A) → a ≡ over f k xs → v ≡ f k → k < length xs
      → set a k v ≡ over f (k + 1) xs
  over_step f k xs a v e q h = rw (e, q) (over_more f k xs h)

  -- two functions that agree below k fill alike
  pub over_same : (f g : ℕ → A) (k : ℕ) (xs : List A) → ((i : ℕ) → i < k → f i ≡ g i) → over f k xs ≡ over g k xs
  unfolding over
  over_same f g zero xs h = refl
  over_same f g (suc k) [] h = refl
  over_same f g (suc k) (x ∷ xs) h =
      ap₂ (λ (y : A) (ys : List A). y ∷ ys) (h zero (zero-lt-suc k))
      (over_same (λ i. f (suc i)) (λ i. g (suc i)) k xs (λ i l. h (suc i) (suc-le-suc l)))

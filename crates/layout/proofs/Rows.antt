-- A list spelled out by a function: what is read of it, and the list of a function that differs in one place.
use mathlib.Core.Path.{◌≡◌, refl, sym, ap, ap₂}
use mathlib.Core.List.{List, [], ◌∷◌}
use mathlib.Core.Logic.{◌≢◌}
use Prim.Native.Nat.{ℕ, zero, suc, ◌<◌, suc-le-suc}
use native.Mathlib.Nat.{le_of_suc-le-suc, zero-lt-suc, suc_inj, suc-ne-zero, not-suc-le-zero}
use lib.ListN.{length, get_or, set, replicate}
use Rattle.base.specs.Rows.{rows}

module _ {A : Type 0} where
  pub rows_same : (n : ℕ) (f g : ℕ → A) → ((i : ℕ) → i < n → g i ≡ f i) → rows n g ≡ rows n f
  rows_same zero f g h = refl
  rows_same (suc n) f g h =
      ap₂ (λ (a : A) (l : List A). a ∷ l) (h zero (zero-lt-suc n))
      (rows_same n (λ i. f (suc i)) (λ i. g (suc i)) (λ i l. h (suc i) (suc-le-suc l)))

  pub rows_set : (n : ℕ) (f g : ℕ → A) (i : ℕ) (v : A) → i < n → g i ≡ v → ((j : ℕ) → j < n → j ≢ i → g j ≡ f j)
      → rows n g ≡ set (rows n f) i v
  rows_set zero f g i v l e h = absurd (not-suc-le-zero l)
  rows_set (suc n) f g zero v l e h =
      ap₂ (λ (a : A) (r : List A). a ∷ r) e
      (rows_same n (λ i. f (suc i)) (λ i. g (suc i)) (λ j k. h (suc j) (suc-le-suc k) (suc-ne-zero j)))
  rows_set (suc n) f g (suc i) v l e h =
      ap₂ (λ (a : A) (r : List A). a ∷ r) (h zero (zero-lt-suc n) (λ q. suc-ne-zero i (sym q)))
      (rows_set n (λ j. f (suc j)) (λ j. g (suc j)) i v (le_of_suc-le-suc l) e
      (λ j k ne. h (suc j) (suc-le-suc k) (λ q. ne (suc_inj q))))

  pub get_d_rows : (n : ℕ) (f : ℕ → A) (i : ℕ) (d : A) → i < n → get_or (rows n f) i d ≡ f i
  get_d_rows zero f i d l = absurd (not-suc-le-zero l)
  get_d_rows (suc n) f zero d l = refl
  get_d_rows (suc n) f (suc i) d l = get_d_rows n (λ j. f (suc j)) i d (le_of_suc-le-suc l)

  pub length_rows : (n : ℕ) (f : ℕ → A) → length (rows n f) ≡ n
  length_rows zero f = refl
  length_rows (suc n) f = ap suc (length_rows n (λ j. f (suc j)))

  -- the same value in each place
  pub rows_one : (n : ℕ) (a : A) → rows n (λ i. a) ≡ replicate n a
  rows_one zero a = refl
  rows_one (suc n) a = ap (λ (l : List A). a ∷ l) (rows_one n a)

  -- spelled out, entry by entry
  pub two_rows : (f : ℕ → A) (a b : A) → a ≡ f 0 → b ≡ f 1 → (a ∷ b ∷ []) ≡ rows 2 f
  two_rows f a b p q = rw (p, q) refl

  pub five_rows : (f : ℕ → A) (a b c d e : A) → a ≡ f 0 → b ≡ f 1 → c ≡ f 2 → d ≡ f 3 → e ≡ f 4 → (a ∷ b ∷ c ∷ d ∷ e ∷ []) ≡ rows 5 f
  five_rows f a b c d e p q r s t = rw (p, q, r, s, t) refl

  pub six_rows : (f : ℕ → A) (a b c d e g : A) → a ≡ f 0 → b ≡ f 1 → c ≡ f 2 → d ≡ f 3 → e ≡ f 4 → g ≡ f 5
      → (a ∷ b ∷ c ∷ d ∷ e ∷ g ∷ []) ≡ rows 6 f
  six_rows f a b c d e g p q r s t u = rw (p, q, r, s, t, u) refl

  pub eight_rows : (f : ℕ → A) (a b c d e g h i : A) → a ≡ f 0 → b ≡ f 1 → c ≡ f 2 → d ≡ f 3 → e ≡ f 4 → g ≡ f 5 → h ≡ f 6 → i ≡ f 7
      → (a ∷ b ∷ c ∷ d ∷ e ∷ g ∷ h ∷ i ∷ []) ≡ rows 8 f
  eight_rows f a b c d e g h i p q r s t u v w = rw (p, q, r, s, t, u, v, w) refl

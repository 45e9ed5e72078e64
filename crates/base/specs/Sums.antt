-- Sums over lists and over the numbers below a bound. The laws have no subtraction, so that omega chains them.
-- Assumes nothing.
use Rattle.std.specs.Prelude.{◌≡◌, Bool, cond, eqb, get_or, set, take, drop}
use Rattle.std.proofs.Math.Path.{refl, ap}
use Rattle.std.proofs.Common.{sym, ◌∙◌, not-suc-le-zero, zero-add, length-take-le, get_or-take}
use mathlib.Core.List.{List, [], ◌∷◌, ◌++◌}
use Prim.Native.Nat.{ℕ, zero, suc, ◌+◌, ◌-◌, ◌≤◌, ◌<◌, zero-le, suc-le-suc}
use Rattle.std.proofs.Math.Nat.{le_of_suc-le-suc, add-zero, suc-add}
use native.Mathlib.Omega.{arith}
use Rattle.std.proofs.Math.Dec.{eqb-zero-suc, eqb-suc-zero, eqb-suc-suc}
use Rattle.std.proofs.Math.ListN.{length}
use Rattle.std.proofs.Math.Seq.{take-append-le, take-set-lt}

-- f of each entry, summed
unfoldable pub sum : {A : Type 0} → (A → ℕ) → List A → ℕ
sum f [] = 0
sum f (x ∷ xs) = f x + sum f xs

-- the same, where the place counts: f k of the first entry, f (k + 1) of the second
unfoldable pub isum : {A : Type 0} → (ℕ → A → ℕ) → ℕ → List A → ℕ
isum f k [] = 0
isum f k (x ∷ xs) = f k x + isum f (suc k) xs

-- f 0 + .. + f (n - 1)
unfoldable pub upto : ℕ → (ℕ → ℕ) → ℕ
upto zero f = 0
upto (suc n) f = f 0 + upto n (λ j. f (suc j))

-- ---- over lists

module _ {A : Type 0} where
  pub sum_set : (f : A → ℕ) (l : List A) (i : ℕ) (v d : A) → i < length l
      → sum f (set l i v) + f (get_or l i d) ≡ sum f l + f v
  unfolding sum
  sum_set f [] i v d h = absurd (not-suc-le-zero h)
  sum_set f (x ∷ xs) zero v d h = omega arith
  sum_set f (x ∷ xs) (suc i) v d h = omega (arith, sum_set f xs i v d (le_of_suc-le-suc h))

  isum_set_from : (f : ℕ → A → ℕ) (k : ℕ) (l : List A) (i : ℕ) (v d : A) → i < length l
      → isum f k (set l i v) + f (k + i) (get_or l i d) ≡ isum f k l + f (k + i) v
  unfolding isum
  isum_set_from f k [] i v d h = absurd (not-suc-le-zero h)
  isum_set_from f k (x ∷ xs) zero v d h = rw add-zero (omega arith)
  isum_set_from f k (x ∷ xs) (suc i) v d h =
      let e : k + suc i ≡ suc k + i = omega arith in
      rw e (omega (arith, isum_set_from f (suc k) xs i v d (le_of_suc-le-suc h)))

  pub isum_set : (f : ℕ → A → ℕ) (l : List A) (i : ℕ) (v d : A) → i < length l
      → isum f 0 (set l i v) + f i (get_or l i d) ≡ isum f 0 l + f i v
  isum_set f l i v d h = rw zero-add at (isum_set_from f 0 l i v d h)

  pub sum_append : (f : A → ℕ) (l m : List A) → sum f (l ++ m) ≡ sum f l + sum f m
  unfolding sum
  sum_append f [] m = omega arith
  sum_append f (x ∷ xs) m = omega (arith, sum_append f xs m)

  -- one more at the back of a queue kept in an array
  pub sum_push : (f : A → ℕ) (l : List A) (n : ℕ) (v : A) → n < length l
      → sum f (take (n + 1) (set l n v)) ≡ sum f (take n l) + f v
  unfolding sum
  sum_push f [] n v h = absurd (not-suc-le-zero h)
  sum_push f (x ∷ xs) zero v h = omega arith
  sum_push f (x ∷ xs) (suc n) v h = rw suc-add (omega (arith, sum_push f xs n v (le_of_suc-le-suc h)))

  -- the front away, what is behind it moved up
  pub sum_pop : (f : A → ℕ) (l : List A) (n : ℕ) (z d : A) → 0 < n → n ≤ length l
      → sum f (take (n - 1) (drop 1 l ++ (z ∷ []))) + f (get_or l 0 d) ≡ sum f (take n l)
  unfolding sum
  sum_pop f l zero z d p h = absurd (not-suc-le-zero p)
  sum_pop f [] (suc n) z d p h = absurd (not-suc-le-zero h)
  sum_pop f (x ∷ xs) (suc n) z d p h =
      let e : suc n - 1 ≡ n = omega arith in
      let k : n ≤ length xs = le_of_suc-le-suc h in
      rw (e, take-append-le n xs (z ∷ []) k) (omega arith)

  pub sum_set_take : (f : A → ℕ) (l : List A) (n i : ℕ) (v d : A) → i < n → n ≤ length l
      → sum f (take n (set l i v)) + f (get_or l i d) ≡ sum f (take n l) + f v
  sum_set_take f l n i v d p h =
      let k : i < length (take n l) = rw (length-take-le n l h) p in
      let e = sum_set f (take n l) i v d k in
      rw (take-set-lt n l i v p) (rw (get_or-take n l i d p) at e)

-- ---- over the numbers below a bound

pub upto_ext : (n : ℕ) (f g : ℕ → ℕ) → ((j : ℕ) → j < n → f j ≡ g j) → upto n f ≡ upto n g
unfolding upto
upto_ext zero f g h = refl
upto_ext (suc n) f g h =
    omega (
      arith,
      h 0 (suc-le-suc (zero-le)),
      upto_ext n (λ j. f (suc j)) (λ j. g (suc j)) (λ j k. h (suc j) (suc-le-suc k)),
    )

pub upto_add : (n : ℕ) (f g : ℕ → ℕ) → upto n (λ j. f j + g j) ≡ upto n f + upto n g
unfolding upto
upto_add zero f g = refl
upto_add (suc n) f g = omega (arith, upto_add n (λ j. f (suc j)) (λ j. g (suc j)))

pub upto_zero : (n : ℕ) → upto n (λ j. 0) ≡ 0
unfolding upto
upto_zero zero = refl
upto_zero (suc n) = omega (arith, upto_zero n)

-- the last one apart
pub upto_last : (n : ℕ) (f : ℕ → ℕ) → upto (suc n) f ≡ upto n f + f n
unfolding upto
upto_last zero f = omega arith
upto_last (suc n) f = omega (arith, upto_last n (λ j. f (suc j)))

-- one of them apart
pub upto_one : (n k : ℕ) (f : ℕ → ℕ) → k < n → upto n (λ j. cond (eqb j k) (f j) 0) ≡ f k
unfolding upto
upto_one zero k f h = absurd (not-suc-le-zero h)
upto_one (suc n) zero f h =
    let e = upto_ext n _ (λ j. 0) (λ j l. ap (λ (b : Bool). cond b (f (suc j)) 0) (eqb-suc-zero j)) in
    omega (arith, e, upto_zero n)
upto_one (suc n) (suc k) f h =
    let e =
    upto_ext n _ (λ j. cond (eqb j k) (f (suc j)) 0)
    (λ j l. ap (λ (b : Bool). cond b (f (suc j)) 0) (eqb-suc-suc j k)) in
    rw (eqb-zero-suc k) (omega (arith, e, upto_one n k (λ j. f (suc j)) (le_of_suc-le-suc h)))

-- ---- two sums in either order

pub upto_swap : (n m : ℕ) (f : ℕ → ℕ → ℕ) → upto n (λ i. upto m (λ j. f i j)) ≡ upto m (λ j. upto n (λ i. f i j))
unfolding upto
upto_swap zero m f = sym (upto_zero m)
upto_swap (suc n) m f =
    ap (λ (k : ℕ). upto m (f 0) + k) (upto_swap n m (λ i. f (suc i)))
    ∙ sym (upto_add m (f 0) (λ j. upto n (λ i. f (suc i) j)))

module _ {A : Type 0} where
  pub sum_upto : (f : A → ℕ) (l : List A) (d : A) → sum f l ≡ upto (length l) (λ j. f (get_or l j d))
  unfolding sum upto
  sum_upto f [] d = refl
  sum_upto f (x ∷ xs) d = omega (arith, sum_upto f xs d)

  pub upto_sum : (n : ℕ) (f : ℕ → A → ℕ) (l : List A) → upto n (λ j. sum (f j) l) ≡ sum (λ a. upto n (λ j. f j a)) l
  unfolding sum
  upto_sum n f [] = upto_zero n
  upto_sum n f (x ∷ xs) =
      upto_add n (λ j. f j x) (λ j. sum (f j) xs) ∙ ap (λ (k : ℕ). upto n (λ j. f j x) + k) (upto_sum n f xs)

  pub upto_isum : (n : ℕ) (f : ℕ → ℕ → A → ℕ) (k : ℕ) (l : List A)
      → upto n (λ j. isum (f j) k l) ≡ isum (λ i a. upto n (λ j. f j i a)) k l
  unfolding isum
  upto_isum n f k [] = upto_zero n
  upto_isum n f k (x ∷ xs) =
      upto_add n (λ j. f j k x) (λ j. isum (f j) (suc k) xs)
      ∙ ap (λ (m : ℕ). upto n (λ j. f j k x) + m) (upto_isum n f (suc k) xs)

-- ---- what a loop that adds up from the front asks: one more, and all

module _ {A : Type 0} where
  pub sum_next : (f : A → ℕ) (l : List A) (i : ℕ) (d : A) → i < length l → sum f (take (i + 1) l) ≡ sum f (take i l) + f (get_or l i d)
  unfolding sum
  sum_next f [] i d h = absurd (not-suc-le-zero h)
  sum_next f (x ∷ xs) zero d h = omega arith
  sum_next f (x ∷ xs) (suc i) d h = rw suc-add (omega (arith, sum_next f xs i d (le_of_suc-le-suc h)))

  isum_next_from : (f : ℕ → A → ℕ) (k : ℕ) (l : List A) (i : ℕ) (d : A) → i < length l
      → isum f k (take (i + 1) l) ≡ isum f k (take i l) + f (k + i) (get_or l i d)
  unfolding isum
  isum_next_from f k [] i d h = absurd (not-suc-le-zero h)
  isum_next_from f k (x ∷ xs) zero d h = let e : k + 0 ≡ k = omega arith in rw e (omega arith)
  isum_next_from f k (x ∷ xs) (suc i) d h =
      let e : k + suc i ≡ suc k + i = omega arith in
      rw (suc-add, e) (omega (arith, isum_next_from f (suc k) xs i d (le_of_suc-le-suc h)))

  pub isum_next : (f : ℕ → A → ℕ) (l : List A) (i : ℕ) (d : A) → i < length l
      → isum f 0 (take (i + 1) l) ≡ isum f 0 (take i l) + f i (get_or l i d)
  isum_next f l i d h = rw zero-add at (isum_next_from f 0 l i d h)

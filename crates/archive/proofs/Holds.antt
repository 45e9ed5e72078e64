-- Bytes that stand in others from a place on: put together from parts, and taken apart into them. Assumes nothing.
use mathlib.Core.Path.{◌≡◌, refl, sym, ap, ◌∙◌, subst}
use mathlib.Core.Logic.{◌⊎◌, inl, inr, ⊎_elim}
use mathlib.Core.Bool.{Bool, true, false}
use mathlib.Core.List.{List, [], ◌∷◌, ◌++◌}
use Prim.Native.Nat.{ℕ, zero, suc, ◌+◌, ◌-◌, ◌*◌, ◌≤◌, ◌<◌}
use native.Mathlib.Nat.{mul-le-mul, mul-suc, le_refl, not-suc-le-zero, le_of_suc-le-suc, eq-or-lt_of_le}
use native.Mathlib.Omega.{arith}
use borrow.Author.Tests.{ltb-true, ltb-false}
use lib.Dec.{ltb}
use lib.ListN.{length, length-append, get_or-append}
use lib.Seq.{get_or-append-add, ext_get_or}
use Rattle.format.specs.Format.{at, each}

-- b has the bytes xs from place p on
abbrev pub Holds : List ℕ → ℕ → List ℕ → Type 0
Holds b p xs = (j : ℕ) → j < length xs → at b (p + j) ≡ at xs j

lt_or_ge : (i n : ℕ) → (i < n) ⊎ (n ≤ i)
lt_or_ge i n = go (ltb i n) refl
  where
    go : (t : Bool) → ltb i n ≡ t → (i < n) ⊎ (n ≤ i)
    go true e = inl (ltb-true i n e)
    go false e = inr (ltb-false i n e)

-- ---- pieces of one width w, one after the other

-- a piece ends where the next begins, or before
pub part_ends : (w k n : ℕ) → k < n → w * k + w ≤ w * n
part_ends w k n h =
    let a : w * suc k ≤ w * n = mul-le-mul (le_refl w) h in
    omega (arith, mul-suc w k)

pub length_each : (w : ℕ) (f : ℕ → List ℕ) → ((k : ℕ) → length (f k) ≡ w) → (n : ℕ) → length (each f n) ≡ w * n
unfolding each
length_each w f h zero = omega arith
length_each w f h (suc n) = length-append (each f n) (f n) ∙ omega (arith, length_each w f h n, h n, mul-suc w n)

module _ (b : List ℕ) where
  -- ---- one byte and those behind it

  pub holds_none : (p : ℕ) → Holds b p []
  holds_none p j l = absurd (not-suc-le-zero l)

  pub holds_byte : (p x : ℕ) → at b p ≡ x → Holds b p (x ∷ [])
  holds_byte p x e zero l = ap (at b) (omega arith) ∙ e
  holds_byte p x e (suc j) l = absurd (not-suc-le-zero (le_of_suc-le-suc l))

  pub byte_at : (p x : ℕ) → Holds b p (x ∷ []) → at b p ≡ x
  byte_at p x h = ap (at b) (omega arith) ∙ h 0 (omega arith)

  -- ---- two parts

  module _ (p q : ℕ) (xs ys : List ℕ) (e : q ≡ p + length xs) where
    pub holds_both : Holds b p xs → Holds b q ys → Holds b p (xs ++ ys)
    holds_both hx hy j l =
        ⊎_elim (λ k. hx j k ∙ sym (get_or-append xs ys 0 j k))
        (λ k.
        let m = j - length xs in
        let ej : length xs + m ≡ j = omega arith in
        ap (at b) (omega arith)
        ∙ hy m (omega (arith, length-append xs ys))
        ∙ sym (get_or-append-add xs ys m 0)
        ∙ ap (at (xs ++ ys)) ej)
        (lt_or_ge j (length xs))

    pub holds_left : Holds b p (xs ++ ys) → Holds b p xs
    holds_left h j l = h j (omega (arith, length-append xs ys)) ∙ get_or-append xs ys 0 j l

    pub holds_right : Holds b p (xs ++ ys) → Holds b q ys
    holds_right h j l =
        ap (at b) (omega arith) ∙ h (length xs + j) (omega (arith, length-append xs ys)) ∙ get_or-append-add xs ys j 0

  -- ---- pieces of one width

  module _ (w : ℕ) (f : ℕ → List ℕ) (wide : (k : ℕ) → length (f k) ≡ w) (p : ℕ) where
    next : (n : ℕ) → p + w * n ≡ p + length (each f n)
    next n = omega (arith, length_each w f wide n)

    pub holds_each : (n : ℕ) → ((k : ℕ) → k < n → Holds b (p + w * k) (f k)) → Holds b p (each f n)
    unfolding each
    holds_each zero h = holds_none p
    holds_each (suc n) h =
        holds_both p (p + w * n) (each f n) (f n) (next n) (holds_each n (λ k l. h k (omega arith))) (h n (omega arith))

    pub holds_at : (n : ℕ) → Holds b p (each f n) → (k : ℕ) → k < n → Holds b (p + w * k) (f k)
    unfolding each
    holds_at zero h k l = absurd (not-suc-le-zero l)
    holds_at (suc n) h k l =
        ⊎_elim
        (λ e.
        subst (λ (m : ℕ). Holds b (p + w * m) (f m)) (sym e)
        (holds_right p (p + w * n) (each f n) (f n) (next n) h))
        (λ m. holds_at n (holds_left p (p + w * n) (each f n) (f n) (next n) h) k m)
        (eq-or-lt_of_le (le_of_suc-le-suc l))

  -- ---- all of them

  pub holds_own : Holds b 0 b
  holds_own j l = ap (at b) (omega arith)

  pub holds_all : (xs : List ℕ) → length xs ≡ length b → Holds b 0 xs → xs ≡ b
  holds_all xs e h = ext_get_or 0 xs b e (λ j l. sym (h j l) ∙ ap (at b) (omega arith))

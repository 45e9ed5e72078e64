-- How many sites are in a set: of the empty set, of {t}, of two sets together, and of a set without a member.
-- Every law is over the sites below any S. Assumes nothing.
use mathlib.Core.Path.{◌≡◌, refl, sym, ap, ap₂, ◌∙◌}
use mathlib.Core.Bool.{Bool, true, false, not, ◌&&◌, ◌||◌, or-false, and-false}
use Prim.Native.Nat.{ℕ, zero, suc, ◌+◌, ◌/◌, ◌%◌, ◌^◌, ◌≤◌, ◌<◌}
use native.Mathlib.Nat.{pow-suc, mod-lt, lt_of_lt_of_le}
use native.Mathlib.Omega.{arith}
use borrow.Author.Tests.{eqb-true, eqb-false, ne_eqb}
use lib.Arith.{lt-one}
use lib.Count.{ones, ones_step}
use lib.Dec.{eqb, lit<}
use lib.Pow.{pow_mono}
use Rattle.base.specs.Bools.{count, clash}
use Rattle.base.specs.Sizes.{set_bits}
use Rattle.sets.specs.Sets.{has, only, minus, size_in, size}
use Rattle.sets.proofs.Laws.{has_zero, has_suc, has_empty, has_only, has_minus, minus_out}

pub size_empty : (S : ℕ) → size_in S 0 ≡ 0
unfolding size_in
size_empty zero = refl
size_empty (suc S) = rw (size_empty S, has_empty S)

pub size_same : (S X Y : ℕ) → ((t : ℕ) → t < S → has t X ≡ has t Y) → size_in S X ≡ size_in S Y
unfolding size_in
size_same zero X Y p = refl
size_same (suc S) X Y p =
    ap₂ (λ (a b : ℕ). a + b) (size_same S X Y (λ t l. p t (omega arith))) (ap count (p S (omega arith)))

-- a set whose members are those of X and those of Y, none of both, is as large as the two
pub size_union : (S X Y Z : ℕ) → ((t : ℕ) → t < S → has t Z ≡ (has t X || has t Y))
    → ((t : ℕ) → t < S → (has t X && has t Y) ≡ false) → size_in S Z ≡ size_in S X + size_in S Y
unfolding size_in
size_union zero X Y Z p q = refl
size_union (suc S) X Y Z p q =
    let ih : size_in S Z ≡ size_in S X + size_in S Y =
    size_union S X Y Z (λ t l. p t (omega arith)) (λ t l. q t (omega arith)) in
    let top : count (has S Z) ≡ count (has S X) + count (has S Y) =
    rw (p S (omega arith)) (go (has S X) (has S Y) (q S (omega arith))) in
    omega arith
  where
    go : (a b : Bool) → (a && b) ≡ false → count (a || b) ≡ count a + count b
    go true true h = absurd (clash h)
    go true false h = refl
    go false true h = refl
    go false false h = refl

pub size_only : (S t : ℕ) → t < S → size_in S (only t) ≡ 1
unfolding size_in
size_only zero t l = omega arith
size_only (suc S) t l = rw has_only (go (eqb S t) refl (size_only S t))
  where
    none : S ≤ t → size_in S (only t) ≡ 0
    none h =
        size_same S (only t) 0 (λ u k. has_only t u ∙ ne_eqb u t (omega arith) ∙ sym (has_empty u)) ∙ size_empty S

    go : (b : Bool) → eqb S t ≡ b → (t < S → size_in S (only t) ≡ 1) → size_in S (only t) + count b ≡ 1
    go true e ih = omega (arith, none (omega (arith, eqb-true S t e)))
    go false e ih = omega (arith, ih (omega (arith, eqb-false S t e)))

-- without a member it is one smaller
pub size_minus : (S t X : ℕ) → t < S → has t X ≡ true → size_in S X ≡ size_in S (minus t X) + 1
size_minus S t X l h =
    size_union S (minus t X) (only t) X (λ u k. rw (has_minus, has_only) (one u (eqb u t) refl))
    (λ u k. rw (has_minus, has_only) (two (eqb u t) (has u X)))
    ∙ ap (λ (n : ℕ). size_in S (minus t X) + n) (size_only S t l)
  where
    one : (u : ℕ) (b : Bool) → eqb u t ≡ b → has u X ≡ (not b && has u X || b)
    one u true e = rw (eqb-true u t e) h
    one u false e = sym (or-false (has u X))

    two : (b x : Bool) → (not b && x && b) ≡ false
    two true x = refl
    two false x = and-false x

-- a set of other than one site is not empty without s
pub minus_pos : (S s X : ℕ) → s < S → 0 < X → (size_in S X ≡ 1 → ⊥) → 0 < minus s X
minus_pos S s X l p q = go (has s X) refl
  where
    go : (b : Bool) → has s X ≡ b → 0 < minus s X
    go true e =
        let some : minus s X ≡ 0 → ⊥ =
        λ z. q (size_minus S s X l e ∙ ap (λ (n : ℕ). size_in S n + 1) z ∙ ap (λ (n : ℕ). n + 1) (size_empty S)) in
        omega arith
    go false e = omega (arith, minus_out s X e)

-- ---- sizes as a machine counts them

size_front : (S X : ℕ) → size_in (suc S) X ≡ X % 2 + size_in S (X / 2)
unfolding size_in
size_front zero X = rw has_zero (go (X % 2) (mod-lt X (lit< tt)))
  where
    go : (d : ℕ) → d < 2 → 0 + count (eqb d 1) ≡ d + 0
    go zero l = refl
    go (suc zero) l = refl
    go (suc (suc d)) l = omega arith
size_front (suc S) X = rw has_suc (let e : size_in (suc S) X ≡ X % 2 + size_in S (X / 2) = size_front S X in omega arith)

pub size_ones : (S X : ℕ) → X < 2 ^ S → size_in S X ≡ ones X
unfolding size_in ones
size_ones zero X h = ap (λ (n : ℕ). size_in 0 n) (lt-one h) ∙ ap ones (sym (lt-one h))
size_ones (suc S) X h =
    size_front S X
    ∙ ap (λ (n : ℕ). X % 2 + n) (size_ones S (X / 2) (omega (arith, pow-suc 2 S))) ∙ sym (ones_step X)

-- a set within S is as large as its part below S
pub size_within : (S X : ℕ) → S ≤ set_bits → X < 2 ^ S → size X ≡ size_in S X
size_within S X l h = size_ones set_bits X (lt_of_lt_of_le h (pow_mono l)) ∙ sym (size_ones S X h)

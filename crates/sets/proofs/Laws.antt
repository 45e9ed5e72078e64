-- Sets by their members: what is in {t}, in a set with t and in one without, sets with the same members, and bounds.
-- Every law is over any number S of sites. Assumes nothing.
use mathlib.Core.Path.{◌≡◌, refl, sym, ap, ap₂, ◌∙◌}
use mathlib.Core.Bool.{Bool, true, false, cond, not, ◌&&◌, ◌||◌, or-false}
use Prim.Native.Nat.{ℕ, zero, suc, ◌+◌, ◌-◌, ◌*◌, ◌/◌, ◌%◌, ◌^◌, ◌≤◌, ◌<◌}
use native.Mathlib.Nat.{div-one, zero-div, pow-suc, mod-lt, le-div_iff_mul-le, div-eq_of_lt, lt_of_lt_of_le}
use native.Mathlib.Omega.{arith}
use borrow.Author.Tests.{eqb-true, eqb-false, eq-eqb, ne_eqb, ltb-true, ltb-false, lt-ltb, not-true}
use lib.Dec.{eqb, ltb, eqb-zero-suc, eqb-suc-zero, eqb-suc-suc, lit<}
use lib.Pow.{pow_pos, pow-lt, shr-shr, pow_mono}
use Rattle.base.specs.Bools.{clash, both, and}
use Rattle.sets.specs.Sets.{has, only, plus, minus, within, targets}

-- ---- a set is its lowest bit and the rest

pub has_zero : (X : ℕ) → has 0 X ≡ eqb (X % 2) 1
unfolding has
has_zero X = ap (λ (n : ℕ). eqb (n % 2) 1) (div-one X)

pub has_suc : (t X : ℕ) → has (suc t) X ≡ has t (X / 2)
unfolding has
has_suc t X = ap (λ (n : ℕ). eqb (n % 2) 1) (ap (λ (n : ℕ). X / 2 ^ n) (omega arith) ∙ sym (shr-shr X 1 t))

zero_of : (Y b : ℕ) → b < 2 → has 0 (Y * 2 + b) ≡ eqb b 1
zero_of Y b h = let e : (Y * 2 + b) % 2 ≡ b = omega arith in has_zero (Y * 2 + b) ∙ ap (λ (n : ℕ). eqb n 1) e

suc_of : (t Y b : ℕ) → b < 2 → has (suc t) (Y * 2 + b) ≡ has t Y
suc_of t Y b h = let e : (Y * 2 + b) / 2 ≡ Y = omega arith in has_suc t (Y * 2 + b) ∙ ap (has t) e

pub has_empty : (t : ℕ) → has t 0 ≡ false
unfolding has
has_empty t = ap (λ (n : ℕ). eqb (n % 2) 1) (zero-div (2 ^ t))

-- a member's power is part of the number
pub has_le : (t X : ℕ) → has t X ≡ true → only t ≤ X
unfolding has
has_le t X h =
    let e : 1 ≤ X / 2 ^ t = omega (arith, eqb-true (X / 2 ^ t % 2) 1 h) in
    omega (arith, (le-div_iff_mul-le (pow_pos t)).0 e)

-- ---- two sets with the same members are equal

digit : (X Y : ℕ) → eqb (X % 2) 1 ≡ eqb (Y % 2) 1 → X % 2 ≡ Y % 2
digit X Y p = go (eqb (X % 2) 1) refl
  where
    go : (b : Bool) → eqb (X % 2) 1 ≡ b → X % 2 ≡ Y % 2
    go true e = omega (arith, eqb-true (X % 2) 1 e, eqb-true (Y % 2) 1 (sym p ∙ e))
    go false e = omega (arith, eqb-false (X % 2) 1 e, eqb-false (Y % 2) 1 (sym p ∙ e))

pub ext : (S X Y : ℕ) → X < 2 ^ S → Y < 2 ^ S → ((t : ℕ) → t < S → has t X ≡ has t Y) → X ≡ Y
ext zero X Y hX hY p = omega arith
ext (suc S) X Y hX hY p =
    let halves : X / 2 ≡ Y / 2 =
    ext S (X / 2) (Y / 2) (omega (arith, pow-suc 2 S)) (omega (arith, pow-suc 2 S))
    (λ t l. sym (has_suc t X) ∙ p (suc t) (omega arith) ∙ has_suc t Y) in
    omega (arith, digit X Y (sym (has_zero X) ∙ p 0 (omega arith) ∙ has_zero Y))

-- ---- the sets within S sites are those with no member from S on

pub outside : (S X t : ℕ) → X < 2 ^ S → S ≤ t → has t X ≡ false
unfolding has
outside S X t h l = ap (λ (n : ℕ). eqb (n % 2) 1) (div-eq_of_lt (lt_of_lt_of_le h (pow_mono l)))

below_pow : (n : ℕ) → n < 2 ^ n
below_pow zero = omega arith
below_pow (suc n) = omega (arith, below_pow n, pow-suc 2 n)

pub within_by : (S X : ℕ) → ((t : ℕ) → S ≤ t → has t X ≡ false) → X < 2 ^ S
within_by zero X p =
    let e : X ≡ 0 = ext X X 0 (below_pow X) (pow_pos X) (λ t l. p t (omega arith) ∙ sym (has_empty t)) in
    omega arith
within_by (suc S) X p =
    let h : X / 2 < 2 ^ S = within_by S (X / 2) (λ t l. sym (has_suc t X) ∙ p (suc t) (omega arith)) in
    omega (arith, pow-suc 2 S)

pub has_within : (S X t : ℕ) → X < 2 ^ S → has t X ≡ true → t < S
has_within S X t h e = go (ltb t S) refl
  where
    go : (b : Bool) → ltb t S ≡ b → t < S
    go true q = ltb-true t S q
    go false q = absurd (clash (sym e ∙ outside S X t h (ltb-false t S q)))

-- X shifted down by S is 0 exactly where X lies within S
pub shifted_out : (S X : ℕ) → eqb (X / 2 ^ S) 0 ≡ within S X
shifted_out S X = go (ltb X (2 ^ S)) refl
  where
    go : (b : Bool) → ltb X (2 ^ S) ≡ b → eqb (X / 2 ^ S) 0 ≡ b
    go true e = eq-eqb (X / 2 ^ S) 0 (div-eq_of_lt (ltb-true X (2 ^ S) e))
    go false e =
        ne_eqb (X / 2 ^ S) 0
        (λ z.
        let k : 1 ≤ X / 2 ^ S = (le-div_iff_mul-le (pow_pos S)).1 (omega (arith, ltb-false X (2 ^ S) e)) in
        omega arith)

-- ---- target sets

pub targets_at : (S X : ℕ) → targets S X ≡ true → (0 < X) × (X < 2 ^ S)
targets_at S X h =
    let w = both (not (eqb X 0)) (within S X) h in
    (omega (arith, eqb-false X 0 (not-true (eqb X 0) w.0)), ltb-true X (2 ^ S) w.1)

pub targets_by : (S X : ℕ) → 0 < X → X < 2 ^ S → targets S X ≡ true
targets_by S X p h =
    and (not (eqb X 0)) (within S X) (ap not (ne_eqb X 0 (λ e. omega arith))) (lt-ltb X (2 ^ S) h)

-- ---- the set with t, the set without t, and {t}: by cases, and by their members

pub plus_in : (t X : ℕ) → has t X ≡ true → plus t X ≡ X
unfolding plus
plus_in t X h = rw h

pub plus_out : (t X : ℕ) → has t X ≡ false → plus t X ≡ X + only t
unfolding plus
plus_out t X h = rw h

pub minus_in : (t X : ℕ) → has t X ≡ true → minus t X ≡ X - only t
unfolding minus
minus_in t X h = rw h

pub minus_out : (t X : ℕ) → has t X ≡ false → minus t X ≡ X
unfolding minus
minus_out t X h = rw h

plus_zero : (X : ℕ) → plus 0 X ≡ X / 2 * 2 + 1
unfolding plus
plus_zero X = go (has 0 X) refl
  where
    go : (b : Bool) → has 0 X ≡ b → cond b X (X + 1) ≡ X / 2 * 2 + 1
    go true e = omega (arith, eqb-true (X % 2) 1 (sym (has_zero X) ∙ e))
    go false e = omega (arith, eqb-false (X % 2) 1 (sym (has_zero X) ∙ e))

plus_suc : (t X : ℕ) → plus (suc t) X ≡ plus t (X / 2) * 2 + X % 2
unfolding plus
plus_suc t X = rw has_suc (go (has t (X / 2)))
  where
    go : (b : Bool) → cond b X (X + 2 ^ suc t) ≡ cond b (X / 2) (X / 2 + 2 ^ t) * 2 + X % 2
    go true = omega arith
    go false = omega (arith, pow-suc 2 t)

pub has_plus : (t u X : ℕ) → has u (plus t X) ≡ (eqb u t || has u X)
has_plus zero zero X = rw (plus_zero, zero_of (X / 2) 1 (lit< tt))
has_plus zero (suc u) X = rw (plus_zero, suc_of u (X / 2) 1 (lit< tt), has_suc, eqb-suc-zero)
has_plus (suc t) zero X = rw (plus_suc, zero_of (plus t (X / 2)) (X % 2) (mod-lt X (lit< tt)), eqb-zero-suc, has_zero)
has_plus (suc t) (suc u) X =
    rw (plus_suc, suc_of u (plus t (X / 2)) (X % 2) (mod-lt X (lit< tt)), eqb-suc-suc, has_suc) (has_plus t u (X / 2))

minus_zero : (X : ℕ) → minus 0 X ≡ X / 2 * 2 + 0
unfolding minus
minus_zero X = go (has 0 X) refl
  where
    go : (b : Bool) → has 0 X ≡ b → cond b (X - 1) X ≡ X / 2 * 2 + 0
    go true e = omega (arith, eqb-true (X % 2) 1 (sym (has_zero X) ∙ e))
    go false e = omega (arith, eqb-false (X % 2) 1 (sym (has_zero X) ∙ e))

minus_suc : (t X : ℕ) → minus (suc t) X ≡ minus t (X / 2) * 2 + X % 2
unfolding minus
minus_suc t X = rw has_suc (go (has t (X / 2)) refl)
  where
    go : (b : Bool) → has t (X / 2) ≡ b → cond b (X - 2 ^ suc t) X ≡ cond b (X / 2 - 2 ^ t) (X / 2) * 2 + X % 2
    go true e = omega (arith, pow-suc 2 t, has_le t (X / 2) e)
    go false e = omega arith

pub has_minus : (t u X : ℕ) → has u (minus t X) ≡ (not (eqb u t) && has u X)
has_minus zero zero X = rw (minus_zero, zero_of (X / 2) 0 (lit< tt))
has_minus zero (suc u) X = rw (minus_zero, suc_of u (X / 2) 0 (lit< tt), has_suc, eqb-suc-zero)
has_minus (suc t) zero X =
    rw (minus_suc, zero_of (minus t (X / 2)) (X % 2) (mod-lt X (lit< tt)), eqb-zero-suc, has_zero)
has_minus (suc t) (suc u) X =
    rw (minus_suc, suc_of u (minus t (X / 2)) (X % 2) (mod-lt X (lit< tt)), eqb-suc-suc, has_suc)
    (has_minus t u (X / 2))

only_plus : (t : ℕ) → only t ≡ plus t 0
unfolding plus
only_plus t = rw has_empty (omega arith)

pub has_only : (t u : ℕ) → has u (only t) ≡ eqb u t
has_only t u = rw (only_plus, has_plus, has_empty) (or-false (eqb u t))

-- t itself
pub plus_has : (t X : ℕ) → has t (plus t X) ≡ true
plus_has t X = has_plus t t X ∙ ap (λ (b : Bool). b || has t X) (eq-eqb t t refl)

pub minus_has : (t X : ℕ) → has t (minus t X) ≡ false
minus_has t X = has_minus t t X ∙ ap (λ (b : Bool). not b && has t X) (eq-eqb t t refl)

-- ---- bounds

pub only_within : (S t : ℕ) → t < S → only t < 2 ^ S
only_within S t h = pow-lt h

pub plus_within : (S t X : ℕ) → t < S → X < 2 ^ S → plus t X < 2 ^ S
plus_within S t X ht hX =
    within_by S (plus t X)
    (λ u l. has_plus t u X ∙ ap₂ ◌||◌ (ne_eqb u t (omega arith)) (outside S X u hX l))

pub minus_le : (t X : ℕ) → minus t X ≤ X
unfolding minus
minus_le t X = go (has t X)
  where
    go : (b : Bool) → cond b (X - 2 ^ t) X ≤ X
    go true = omega arith
    go false = omega arith

-- taking a member out makes the number smaller
pub minus_lt : (t X : ℕ) → has t X ≡ true → minus t X < X
minus_lt t X h = omega (arith, minus_in t X h, has_le t X h, pow_pos t)

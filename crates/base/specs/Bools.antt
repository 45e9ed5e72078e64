-- Tests joined without a branch, and the laws that take tests apart and put them together. Assumes nothing.
use Rattle.std.specs.Prelude.{◌≡◌, refl, ◌⊎◌, Bool, true, false, cond, not, ◌&&◌, ◌||◌, ℕ, zero, suc, eqb}
use Rattle.std.proofs.Common.{sym, ◌∙◌, inl, inr, true≢false}
use Rattle.std.proofs.Math.Dec.{eqb-zero-suc, eqb-suc-zero, eqb-suc-suc}

-- if a then b
abbrev pub implies : Bool → Bool → Bool
implies a b = not a || b

-- a where c holds, b where it does not
abbrev pub pick : Bool → Bool → Bool → Bool
pick c a b = c && a || not c && b

-- both hold, or neither
abbrev pub alike : Bool → Bool → Bool
alike a b = pick a b (not b)

-- 1 where a test holds, 0 where it does not
abbrev pub count : Bool → ℕ
count true = 1
count false = 0

pub clash : true ≡ false → ⊥
clash e = true≢false e

-- ---- cond

-- what holds in both ways of a test holds of its result
pub cond_ok {ℓ} : {A : Type ℓ} (P : A → Type 0) (b : Bool) (x y : A) → (b ≡ true → P x) → (b ≡ false → P y)
    → P (cond b x y)
cond_ok P true x y h k = h refl
cond_ok P false x y h k = k refl

pub either_way : {P : Type 0} (b : Bool) → (b ≡ true → P) → (b ≡ false → P) → P
either_way true h k = h refl
either_way false h k = k refl

-- a result, taken apart
pub cond_at {ℓ} : {A : Type ℓ} (b : Bool) (x y r : A) → cond b x y ≡ r → (b ≡ true → x ≡ r) × (b ≡ false → y ≡ r)
cond_at true x y r h = (λ e. h, λ e. absurd (clash e))
cond_at false x y r h = (λ e. absurd (clash (sym e)), λ e. h)

-- a result that only the first of two gives
pub first_of {ℓ} : {A : Type ℓ} (b : Bool) (x y r : A) → (y ≡ r → ⊥) → cond b x y ≡ r → (b ≡ true) × (x ≡ r)
first_of true x y r ne h = (refl, h)
first_of false x y r ne h = absurd (ne h)

-- a result that only the second of two gives
pub second_of {ℓ} : {A : Type ℓ} (b : Bool) (x y r : A) → (x ≡ r → ⊥) → cond b x y ≡ r → (b ≡ false) × (y ≡ r)
second_of true x y r ne h = absurd (ne h)
second_of false x y r ne h = (refl, h)

-- ---- and, or

pub and : (a b : Bool) → a ≡ true → b ≡ true → a && b ≡ true
and true b h k = k
and false b h k = h

pub both : (a b : Bool) → a && b ≡ true → (a ≡ true) × (b ≡ true)
both true b h = (refl, h)
both false b h = absurd (clash (sym h))

pub not_both : (a b : Bool) → a && b ≡ false → (a ≡ false) ⊎ (b ≡ false)
not_both true b h = inr h
not_both false b h = inl refl

pub nor : (a b : Bool) → a ≡ false → b ≡ false → a || b ≡ false
nor true b h k = h
nor false b h k = k

pub neither : (a b : Bool) → a || b ≡ false → (a ≡ false) × (b ≡ false)
neither true b h = absurd (clash h)
neither false b h = (refl, h)

pub either : (a b : Bool) → a || b ≡ true → (a ≡ true) ⊎ (b ≡ true)
either true b h = inl refl
either false b h = inr h

-- three and six tests
pub and3 : (a b c : Bool) → a ≡ true → b ≡ true → c ≡ true → a && b && c ≡ true
and3 a b c ha hb hc = and (a && b) c (and a b ha hb) hc

pub both3 : (a b c : Bool) → a && b && c ≡ true → (a ≡ true) × (b ≡ true) × (c ≡ true)
both3 a b c h = let u = both (a && b) c h in let w = both a b u.0 in (w.0, w.1, u.1)

pub both6 : (a b c d e f : Bool) → a && b && c && d && e && f ≡ true
    → (a ≡ true) × (b ≡ true) × (c ≡ true) × (d ≡ true) × (e ≡ true) × (f ≡ true)
both6 a b c d e f h =
    let u = both3 (a && b && c && d) e f h in
    let w = both (a && b && c) d u.0 in
    let v = both3 a b c w.0 in
    (v.0, v.1, v.2, w.1, u.1, u.2)

-- ---- implies, pick, alike

pub implies_at : (a b : Bool) → implies a b ≡ true → a ≡ true → b ≡ true
implies_at true b h k = h
implies_at false b h k = absurd (clash (sym k))

pub implies_by : (a b : Bool) → (a ≡ true → b ≡ true) → implies a b ≡ true
implies_by true b h = h refl
implies_by false b h = refl

pub pick_cond : (c a b : Bool) → pick c a b ≡ cond c a b
pick_cond true true b = refl
pick_cond true false b = refl
pick_cond false a b = refl

pub pick_at : (c a b : Bool) → pick c a b ≡ true → (c ≡ true → a ≡ true) × (c ≡ false → b ≡ true)
pick_at c a b h = cond_at c a b true (sym (pick_cond c a b) ∙ h)

pub pick_by : (c a b : Bool) → (c ≡ true → a ≡ true) → (c ≡ false → b ≡ true) → pick c a b ≡ true
pick_by c a b h k = pick_cond c a b ∙ cond_ok (λ (r : Bool). r ≡ true) c a b h k

pub alike_at : (a b : Bool) → alike a b ≡ true → a ≡ b
alike_at true true h = refl
alike_at true false h = sym h
alike_at false true h = h
alike_at false false h = refl

pub alike_by : (a b : Bool) → a ≡ b → alike a b ≡ true
alike_by true true h = refl
alike_by true false h = sym h
alike_by false true h = h
alike_by false false h = refl

-- ---- a test of numbers

pub eqb_sym : (a b : ℕ) → eqb a b ≡ eqb b a
eqb_sym zero zero = refl
eqb_sym zero (suc b) = eqb-zero-suc b ∙ sym (eqb-suc-zero b)
eqb_sym (suc a) zero = eqb-suc-zero a ∙ sym (eqb-zero-suc a)
eqb_sym (suc a) (suc b) = eqb-suc-suc a b ∙ eqb_sym a b ∙ sym (eqb-suc-suc b a)

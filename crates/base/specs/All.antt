-- A test of each number below a bound, and what a loop that makes it asks. Assumes nothing.
use Rattle.std.specs.Prelude.{◌≡◌, refl, Bool, true, false, ◌&&◌, ◌||◌, ℕ, zero, suc, ◌+◌, ◌≤◌, ◌<◌}
use Rattle.std.proofs.Common.{sym, ap, ap₂, ◌∙◌, ⊎_elim, not-suc-le-zero, le_of_suc-le-suc, eq-or-lt_of_le, add-one, arith}
use Rattle.std.proofs.Math.Bool.{and-false, or-true}
use Rattle.base.specs.Bools.{both, neither, and, nor}

-- ---- the two tests

-- p holds of each number below n
unfoldable pub all : (ℕ → Bool) → ℕ → Bool
all p zero = true
all p (suc n) = all p n && p n

-- p holds of one of the numbers below n
unfoldable pub any : (ℕ → Bool) → ℕ → Bool
any p zero = false
any p (suc n) = any p n || p n

-- ---- each of them

pub all_none : (p : ℕ → Bool) → all p 0 ≡ true
unfolding all
all_none p = refl

pub all_more : (p : ℕ → Bool) (n : ℕ) → all p n ≡ true → p n ≡ true → all p (n + 1) ≡ true
unfolding all
all_more p n h e = rw (add-one, h, e)

pub all_fails : (p : ℕ → Bool) (i n : ℕ) → i < n → p i ≡ false → all p n ≡ false
unfolding all
all_fails p i zero h e = absurd (not-suc-le-zero h)
all_fails p i (suc n) h e =
    ⊎_elim (λ q. ap (λ (x : Bool). all p n && x) (ap p (sym q) ∙ e) ∙ and-false (all p n))
    (λ l. ap (λ (x : Bool). x && p n) (all_fails p i n l e)) (eq-or-lt_of_le (le_of_suc-le-suc h))

pub all_at : (p : ℕ → Bool) (i n : ℕ) → i < n → all p n ≡ true → p i ≡ true
unfolding all
all_at p i zero h e = absurd (not-suc-le-zero h)
all_at p i (suc n) h e =
    let w = both (all p n) (p n) e in
    ⊎_elim (λ q. ap p q ∙ w.1) (λ l. all_at p i n l w.0) (eq-or-lt_of_le (le_of_suc-le-suc h))

pub all_by : (p : ℕ → Bool) (n : ℕ) → ((i : ℕ) → i < n → p i ≡ true) → all p n ≡ true
unfolding all
all_by p zero h = refl
all_by p (suc n) h = and (all p n) (p n) (all_by p n (λ i l. h i (omega arith))) (h n (omega arith))

-- two tests that agree below n
pub all_same : (p q : ℕ → Bool) (n : ℕ) → ((i : ℕ) → i < n → p i ≡ q i) → all p n ≡ all q n
unfolding all
all_same p q zero h = refl
all_same p q (suc n) h = ap₂ ◌&&◌ (all_same p q n (λ i l. h i (omega arith))) (h n (omega arith))

-- a loop that computes every test and never leaves early (`ok = ok & one`): one turn, and the end
pub all_next : (p : ℕ → Bool) (n : ℕ) (ok one : Bool) → ok ≡ all p n → one ≡ p n → ok && one ≡ all p (n + 1)
unfolding all
all_next p n ok one h e = rw (h, e, add-one n) refl

pub all_end : (p : ℕ → Bool) (b m : ℕ) (ok : Bool) → m ≤ b → b ≤ m → ok ≡ all p m → ok ≡ all p b
all_end p b m ok h k e = let z : m ≡ b = omega arith in e ∙ ap (λ (w : ℕ). all p w) z

-- ---- one of them

pub any_none : (p : ℕ → Bool) → any p 0 ≡ false
unfolding any
any_none p = refl

pub any_more : (p : ℕ → Bool) (n : ℕ) → any p (n + 1) ≡ any p n || p n
unfolding any
any_more p n = rw add-one

pub any_by : (p : ℕ → Bool) (i n : ℕ) → i < n → p i ≡ true → any p n ≡ true
unfolding any
any_by p i zero h e = absurd (not-suc-le-zero h)
any_by p i (suc n) h e =
    ⊎_elim (λ q. ap (λ (x : Bool). any p n || x) (ap p (sym q) ∙ e) ∙ or-true (any p n))
    (λ l. ap (λ (x : Bool). x || p n) (any_by p i n l e)) (eq-or-lt_of_le (le_of_suc-le-suc h))

-- where no number has it, this one has it not
pub any_at : (p : ℕ → Bool) (i n : ℕ) → i < n → any p n ≡ false → p i ≡ false
unfolding any
any_at p i zero h e = absurd (not-suc-le-zero h)
any_at p i (suc n) h e =
    let w = neither (any p n) (p n) e in
    ⊎_elim (λ q. ap p q ∙ w.1) (λ l. any_at p i n l w.0) (eq-or-lt_of_le (le_of_suc-le-suc h))

pub any_fails : (p : ℕ → Bool) (n : ℕ) → ((i : ℕ) → i < n → p i ≡ false) → any p n ≡ false
unfolding any
any_fails p zero h = refl
any_fails p (suc n) h = nor (any p n) (p n) (any_fails p n (λ i l. h i (omega arith))) (h n (omega arith))

-- The first number below a bound at which a test fails, and what it is known by. Assumes nothing.
use Rattle.std.specs.Prelude.{◌≡◌, refl, Bool, true, false, cond, ℕ, zero, suc, ◌≤◌, ◌<◌, Option, MatchOption}
use Rattle.std.proofs.Common.{sym, ap, ◌∙◌, subst, suc-le-suc, not-suc-le-zero, le_of_suc-le-suc, zero-lt-suc, arith}
use Rattle.base.specs.Bools.{clash, either_way}
use Rattle.base.specs.All.{all, all_at, all_by, all_fails}

-- the first number below n at which p fails; n where it fails at none
unfoldable pub first : (ℕ → Bool) → ℕ → ℕ
first p zero = zero
first p (suc n) = let later = first (λ i. p (suc i)) n in cond (p zero) (suc later) zero

-- k is the first number below n at which p fails
pub record Fails (p : ℕ → Bool) (n k : ℕ) : Type 0 where
  pub below : k < n
  pub here : p k ≡ false
  pub before : (i : ℕ) → i < k → p i ≡ true

-- what a search below n for it answers
abbrev pub Found : (ℕ → Bool) → ℕ → Option ℕ → Type 0
Found p n r = MatchOption r (all p n ≡ true) (Fails p n)

-- what holds at 0 and of each number after it
from_first : (p : ℕ → Bool) (n : ℕ) → p zero ≡ true → ((i : ℕ) → i < n → p (suc i) ≡ true)
    → (i : ℕ) → i < suc n → p i ≡ true
from_first p n e b zero l = e
from_first p n e b (suc i) l = b i (le_of_suc-le-suc l)

-- ---- a loop that leaves at the first failure, and one that meets none

pub first_at : (p : ℕ → Bool) (n k : ℕ) → k < n → p k ≡ false → ((i : ℕ) → i < k → p i ≡ true) → first p n ≡ k
unfolding first
first_at p zero k h e b = absurd (not-suc-le-zero h)
first_at p (suc n) zero h e b = rw e refl
first_at p (suc n) (suc k) h e b =
    rw (b zero (zero-lt-suc k))
    (ap suc (first_at (λ i. p (suc i)) n k (le_of_suc-le-suc h) e (λ i l. b (suc i) (suc-le-suc l))))

pub first_none : (p : ℕ → Bool) (n : ℕ) → ((i : ℕ) → i < n → p i ≡ true) → first p n ≡ n
unfolding first
first_none p zero b = refl
first_none p (suc n) b = rw (b zero (zero-lt-suc n)) (ap suc (first_none (λ i. p (suc i)) n (λ i l. b (suc i) (suc-le-suc l))))

-- the same where the loop knows `all`
pub left_at : (p : ℕ → Bool) (n k : ℕ) → k < n → all p k ≡ true → p k ≡ false → k ≡ first p n
left_at p n k h a e = sym (first_at p n k h e (λ i l. all_at p i k l a))

pub left_none : (p : ℕ → Bool) (n : ℕ) → all p n ≡ true → n ≡ first p n
left_none p n a = sym (first_none p n (λ i l. all_at p i n l a))

pub fails_next : (p : ℕ → Bool) (n k : ℕ) → k < n → all p k ≡ true → p k ≡ false → Fails p n k
fails_next p n k l a e = record { below = l; here = e; before = λ i h. all_at p i k h a }

-- ---- what is found

-- one number more before the others, of which p is told
fails_more : (p : ℕ → Bool) (n k : ℕ) (t : Bool) → p zero ≡ t
    → (p zero ≡ true → Fails (λ i. p (suc i)) n k) → Fails p (suc n) (cond t (suc k) zero)
fails_more p n k false e later =
    record { below = zero-lt-suc n; here = e; before = λ i l. absurd (not-suc-le-zero l) }
fails_more p n k true e later =
    let f = later e in
    record { below = suc-le-suc f.below; here = f.here; before = from_first p k e f.before }

fails_some : (p : ℕ → Bool) (n : ℕ) → (((i : ℕ) → i < n → p i ≡ true) → ⊥) → Fails p n (first p n)
unfolding first
fails_some p zero h = absurd (h (λ i l. absurd (not-suc-le-zero l)))
fails_some p (suc n) h =
    fails_more p n (first (λ i. p (suc i)) n) (p zero) refl
    (λ e. fails_some (λ i. p (suc i)) n (λ b. h (from_first p n e b)))

pub fails_at : (p : ℕ → Bool) (n : ℕ) → all p n ≡ false → Fails p n (first p n)
fails_at p n h = fails_some p n (λ b. clash (sym (all_by p n b) ∙ h))

-- and a number that is the first is the one found
pub fails_is : (p : ℕ → Bool) (n k : ℕ) → Fails p n k → (all p n ≡ false) × (first p n ≡ k)
fails_is p n k f = (all_fails p k n f.below f.here, first_at p n k f.below f.here f.before)

-- ---- where a search ended, c

module _ (p : ℕ → Bool) (n c : ℕ) (e : c ≡ first p n) where
  -- before the bound: something fails, and c is the first that does
  pub found_at : c < n → Fails p n c
  found_at l =
      subst (Fails p n) (sym e)
      (fails_at p n (either_way (all p n) (λ a. absurd (omega (arith, e, left_none p n a))) (λ a. a)))

  -- at the bound: nothing fails
  pub none_found : n ≤ c → all p n ≡ true
  none_found l = either_way (all p n) (λ a. a) (λ a. absurd (omega (arith, e, (fails_at p n a).below)))

-- The set of the numbers below k of which f holds: its members, and one turn of a loop that makes it. Assumes nothing.
use mathlib.Core.Path.{◌≡◌, refl, sym, ap, ap₂, ◌∙◌}
use mathlib.Core.Bool.{Bool, true, false, cond, ◌||◌}
use Prim.Native.Nat.{ℕ, zero, suc, ◌+◌, ◌≤◌, ◌<◌}
use native.Mathlib.Decide.{ℕ_discrete}
use native.Mathlib.Numerals.{add-one}
use native.Mathlib.Omega.{arith}
use borrow.Author.Tests.{ne_eqb}
use Rattle.base.specs.Bools.{cond_ok, clash}
use Rattle.sets.specs.Sets.{has, plus, those}
use Rattle.sets.proofs.Laws.{has_empty, has_plus, plus_has}

pub those_more : (f : ℕ → Bool) (k : ℕ) → those f (k + 1) ≡ cond (f k) (plus k (those f k)) (those f k)
unfolding those
those_more f k = rw add-one refl

-- no number from k on is in it
pub those_out : (f : ℕ → Bool) (k t : ℕ) → k ≤ t → has t (those f k) ≡ false
unfolding those
those_out f zero t h = has_empty t
those_out f (suc k) t h =
    let fewer : has t (those f k) ≡ false = those_out f k t (omega arith) in
    cond_ok (λ (r : ℕ). has t r ≡ false) (f k) (plus k (those f k)) (those f k)
    (λ e. has_plus k t (those f k) ∙ ap₂ ◌||◌ (ne_eqb t k (omega arith)) fewer) (λ e. fewer)

-- below k those are in it of which f holds
pub those_in : (f : ℕ → Bool) (k t : ℕ) → t < k → has t (those f k) ≡ f t
unfolding those
those_in f zero t h = absurd (omega arith)
those_in f (suc k) t h = go (ℕ_discrete t k) (those_in f k t)
  where
    go : Dec (t ≡ k) → (t < k → has t (those f k) ≡ f t) → has t (cond (f k) (plus k (those f k)) (those f k)) ≡ f t
    go (yes e) ih =
        rw e (
        cond_ok (λ (r : ℕ). has k r ≡ f k) (f k) (plus k (those f k)) (those f k)
        (λ a. plus_has k (those f k) ∙ sym a) (λ a. those_out f k k (omega arith) ∙ sym a))
    go (no e) ih =
        let fewer : has t (those f k) ≡ f t = ih (omega arith) in
        cond_ok (λ (r : ℕ). has t r ≡ f t) (f k) (plus k (those f k)) (those f k)
        (λ a. has_plus k t (those f k) ∙ ap₂ ◌||◌ (ne_eqb t k e) fewer) (λ a. fewer)

-- it is not empty where f holds of one
pub those_some : (f : ℕ → Bool) (k t : ℕ) → t < k → f t ≡ true → those f k ≡ 0 → ⊥
those_some f k t h a e = clash (sym a ∙ sym (those_in f k t h) ∙ ap (has t) e ∙ has_empty t)

-- two tests that agree below k
pub those_same : (f g : ℕ → Bool) (k : ℕ) → ((i : ℕ) → i < k → f i ≡ g i) → those f k ≡ those g k
unfolding those
those_same f g zero h = refl
those_same f g (suc k) h =
    ap₂ (λ (b : Bool) (r : ℕ). cond b (plus k r) r) (h k (omega arith)) (those_same f g k (λ i l. h i (omega arith)))

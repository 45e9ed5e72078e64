-- Members as numbers: bit X t is 1 where t is in X, else 0. Assumes nothing.
use mathlib.Core.Path.{◌≡◌, refl, sym, ap, ◌∙◌}
use mathlib.Core.Bool.{Bool, true, false, cond, not, ◌&&◌, ◌||◌}
use Prim.Native.Nat.{ℕ, zero, suc, ◌+◌, ◌-◌, ◌*◌, ◌^◌, ◌≤◌, ◌<◌}
use native.Mathlib.Omega.{arith}
use borrow.Author.Tests.{eqb-true, eqb-false}
use lib.Dec.{eqb}
use Rattle.base.specs.Bools.{count}
use Rattle.base.specs.Sums.{upto, upto_last}
use Rattle.sets.specs.Sets.{bit, has, only, plus, minus, size_in}
use Rattle.sets.proofs.Laws.{has_empty, has_only, has_plus, has_minus, outside, plus_out}

pub bit_small : (X t : ℕ) → bit t X < 2
bit_small X t = omega arith

-- ---- bit and has

pub count_has : (t X : ℕ) → count (has t X) ≡ bit t X
unfolding has
count_has t X = go (eqb (bit t X) 1) refl
  where
    go : (b : Bool) → eqb (bit t X) 1 ≡ b → count b ≡ bit t X
    go true e = sym (eqb-true (bit t X) 1 e)
    go false e = omega (arith, eqb-false (bit t X) 1 e, bit_small X t)

pub bit_in : (t X : ℕ) → has t X ≡ true → bit t X ≡ 1
bit_in t X h = sym (count_has t X) ∙ ap count h

pub bit_out : (t X : ℕ) → has t X ≡ false → bit t X ≡ 0
bit_out t X h = sym (count_has t X) ∙ ap count h

-- ---- bits of sets

pub bit_none : (t : ℕ) → bit t 0 ≡ 0
bit_none t = bit_out t 0 (has_empty t)

pub bit_high : (S t X : ℕ) → X < 2 ^ S → S ≤ t → bit t X ≡ 0
bit_high S t X h l = bit_out t X (outside S X t h l)

pub bit_only : (s t : ℕ) → bit t (only s) ≡ count (eqb t s)
bit_only s t = sym (count_has t (only s)) ∙ ap count (has_only s t)

pub bit_plus : (s t X : ℕ) → bit t (plus s X) ≡ cond (eqb t s) 1 (bit t X)
bit_plus s t X = sym (count_has t (plus s X)) ∙ ap count (has_plus s t X) ∙ go (eqb t s)
  where
    go : (b : Bool) → count (b || has t X) ≡ cond b 1 (bit t X)
    go true = refl
    go false = count_has t X

-- a site added to a set that does not have it
pub bit_add : (s t X : ℕ) → has s X ≡ false → bit t (X + only s) ≡ bit t X + count (eqb t s)
bit_add s t X h = rw (← plus_out s X h) (bit_plus s t X ∙ go (eqb t s) refl)
  where
    go : (b : Bool) → eqb t s ≡ b → cond b 1 (bit t X) ≡ bit t X + count b
    go true e = omega (arith, bit_out t X (rw (eqb-true t s e) h))
    go false e = omega arith

pub bit_minus : (s t X : ℕ) → bit t (minus s X) + cond (eqb t s) (bit s X) 0 ≡ bit t X
bit_minus s t X = rw (← count_has t (minus s X), has_minus s t X) (go (eqb t s) refl)
  where
    go : (b : Bool) → eqb t s ≡ b → count (not b && has t X) + cond b (bit s X) 0 ≡ bit t X
    go true e = rw (eqb-true t s e) (omega arith)
    go false e = omega (arith, count_has t X)

pub minus_bit : (t X : ℕ) → minus t X ≡ X - bit t X * only t
unfolding minus
minus_bit t X = go (has t X) (count_has t X)
  where
    go : (b : Bool) → count b ≡ bit t X → cond b (X - only t) X ≡ X - bit t X * only t
    go true e = rw (← e) (omega arith)
    go false e = rw (← e) (omega arith)

-- ---- a size is a sum of bits

pub size_upto : (S X : ℕ) → size_in S X ≡ upto S (λ t. bit t X)
unfolding size_in upto
size_upto zero X = refl
size_upto (suc S) X = omega (arith, size_upto S X, count_has S X, upto_last S (λ t. bit t X))

-- at most S sites are counted
pub size_most : (S X : ℕ) → size_in S X ≤ S
unfolding size_in
size_most zero X = omega arith
size_most (suc S) X = omega (arith, size_most S X, count_has S X, bit_small X S)

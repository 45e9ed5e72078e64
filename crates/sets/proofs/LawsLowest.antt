-- The lowest member of a set within S sites, S at most 64. Assumes nothing.
use mathlib.Core.Path.{◌≡◌, refl, sym, ◌∙◌}
use mathlib.Core.Bool.{true, false}
use Prim.Native.Nat.{ℕ, zero, suc, ◌/◌, ◌%◌, ◌^◌, ◌≤◌, ◌<◌}
use native.Mathlib.Nat.{pow-suc, lt_of_lt_of_le}
use native.Mathlib.Omega.{arith}
use borrow.Author.Tests.{eq-eqb, ne_eqb}
use lib.Count.{count_trailing_zeros, under}
use lib.Pow.{pow_mono}
use Rattle.base.specs.Bools.{clash}
use Rattle.base.specs.Sizes.{set_bits}
use Rattle.sets.specs.Sets.{has, minus, lowest}
use Rattle.sets.proofs.Laws.{has_zero, has_suc, has_within, minus_has}

trailing_has : (S X : ℕ) → 0 < X → X < 2 ^ S → has (count_trailing_zeros S X) X ≡ true
unfolding count_trailing_zeros
trailing_has zero X p h = absurd (omega arith)
trailing_has (suc S) X p h = go (X % 2) refl (λ q. trailing_has S (X / 2) q (omega (arith, pow-suc 2 S)))
  where
    go : (d : ℕ) → X % 2 ≡ d → (0 < X / 2 → has (count_trailing_zeros S (X / 2)) (X / 2) ≡ true)
        → has (under d (count_trailing_zeros S (X / 2))) X ≡ true
    go zero e ih = has_suc (count_trailing_zeros S (X / 2)) X ∙ ih (omega arith)
    go (suc d) e ih = has_zero X ∙ eq-eqb (X % 2) 1 (omega arith)

trailing_below : (S X u : ℕ) → u < count_trailing_zeros S X → has u X ≡ false
unfolding count_trailing_zeros
trailing_below zero X u h = absurd (omega arith)
trailing_below (suc S) X u h = go (X % 2) refl u h (trailing_below S (X / 2))
  where
    go : (d : ℕ) → X % 2 ≡ d → (u : ℕ) → u < under d (count_trailing_zeros S (X / 2))
        → ((v : ℕ) → v < count_trailing_zeros S (X / 2) → has v (X / 2) ≡ false) → has u X ≡ false
    go zero e zero l ih = has_zero X ∙ ne_eqb (X % 2) 1 (omega arith)
    go zero e (suc u) l ih = has_suc u X ∙ ih u (omega arith)
    go (suc d) e u l ih = absurd (omega arith)

-- a member
pub lowest_has : (S X : ℕ) → S ≤ set_bits → 0 < X → X < 2 ^ S → has (lowest X) X ≡ true
unfolding lowest
lowest_has S X l p h = trailing_has set_bits X p (lt_of_lt_of_le h (pow_mono l))

-- none below it is one
pub lowest_below : (X u : ℕ) → u < lowest X → has u X ≡ false
unfolding lowest
lowest_below X u h = trailing_below set_bits X u h

pub lowest_lt : (S X : ℕ) → S ≤ set_bits → 0 < X → X < 2 ^ S → lowest X < S
lowest_lt S X l p h = has_within S X (lowest X) h (lowest_has S X l p h)

-- the lowest target other than s is not s
pub lowest_other : (S s X : ℕ) → S ≤ set_bits → 0 < minus s X → minus s X < 2 ^ S → lowest (minus s X) ≡ s → ⊥
lowest_other S s X l p h e =
    let a : has s (minus s X) ≡ true = rw e at (lowest_has S (minus s X) l p h) in
    clash (sym a ∙ minus_has s X)

-- Sets of sites as numbers: site t is in X where bit t of X, the lowest being bit 0, is 1. Assumes nothing.
use Rattle.std.specs.Prelude.{Bool, cond, not, ◌&&◌, ℕ, zero, suc, ◌+◌, ◌-◌, ◌/◌, ◌%◌, ◌^◌, eqb, ltb}
use Rattle.std.specs.Int.Count.{count_trailing_zeros}
use Rattle.base.specs.Bools.{count}
use Rattle.base.specs.Sizes.{set_bits}

-- 1 where t is in X, else 0
abbrev pub bit : ℕ → ℕ → ℕ
bit t X = X / 2 ^ t % 2

-- t is in X
unfoldable pub has : ℕ → ℕ → Bool
has t X = eqb (X / 2 ^ t % 2) 1

-- {t}
abbrev pub only : ℕ → ℕ
only t = 2 ^ t

-- X with t
unfoldable pub plus : ℕ → ℕ → ℕ
plus t X = cond (has t X) X (X + only t)

-- X without t
unfoldable pub minus : ℕ → ℕ → ℕ
minus t X = cond (has t X) (X - only t) X

-- how many of the sites 0 to S - 1 are in X
unfoldable pub size_in : ℕ → ℕ → ℕ
size_in zero X = 0
size_in (suc S) X = size_in S X + count (has S X)

-- how many sites are in X
abbrev pub size : ℕ → ℕ
size X = size_in set_bits X

-- the lowest site in X; 64 for the empty set
unfoldable pub lowest : ℕ → ℕ
lowest X = count_trailing_zeros set_bits X

-- every site in X is below S
abbrev pub within : ℕ → ℕ → Bool
within S X = ltb X (2 ^ S)

-- the numbers below k of which f holds
unfoldable pub those : (ℕ → Bool) → ℕ → ℕ
those f zero = 0
those f (suc k) = let fewer = those f k in cond (f k) (plus k fewer) fewer

-- a target set: not empty, and every site in it below S
abbrev pub targets : ℕ → ℕ → Bool
targets S X = not (eqb X 0) && within S X

-- A number below n x n as a row and a place there. Assumes nothing.
use Prim.Native.Nat.{ℕ, zero, suc, ◌*◌, ◌/◌, ◌%◌, ◌<◌}
use native.Mathlib.Nat.{not-suc-le-zero, zero-lt-suc, mod-lt, div-lt_iff_lt-mul}

-- there are rows, if there is a place
pub some_rows : (n k : ℕ) → k < n * n → 0 < n
some_rows zero k h = absurd (not-suc-le-zero h)
some_rows (suc n) k h = zero-lt-suc n

pub row_below : (n k : ℕ) → k < n * n → k / n < n
row_below n k h = (div-lt_iff_lt-mul (some_rows n k h)).1 h

pub rest_below : (n k : ℕ) → k < n * n → k % n < n
rest_below n k h = mod-lt k (some_rows n k h)

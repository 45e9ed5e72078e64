-- Rows of one length laid end to end in one list. Assumes nothing.
use Rattle.std.specs.Prelude.{ℕ, suc, ◌+◌, ◌*◌, ◌≤◌, ◌<◌}
use Rattle.std.proofs.Common.{mul-le-mul, suc-mul, arith}

-- entry t of row s, of n rows of n entries, in room for m x m
pub place_below : (s t n m : ℕ) → s < n → t < n → n ≤ m → s * n + t < m * m
place_below s t n m hs ht hn = let a : suc s * n ≤ m * m = mul-le-mul (omega arith) hn in omega (arith, suc-mul s n)

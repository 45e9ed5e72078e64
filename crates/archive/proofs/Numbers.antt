-- Numbers as bytes: what two, four and eight bytes of a number are, read again, and what the parts of a number that was
-- read are. Four bytes are taken as two and two, eight as four and four. Assumes nothing.
use mathlib.Core.Path.{◌≡◌}
use mathlib.Core.List.{◌++◌}
use Prim.Native.Nat.{ℕ, ◌+◌, ◌*◌, ◌/◌, ◌%◌, ◌<◌}
use native.Mathlib.Omega.{arith}
use Rattle.format.specs.Format.{word_bytes, quad_bytes}

-- four bytes are two of the higher half and two of the lower
pub quad_halves : (x : ℕ) → quad_bytes x ≡ word_bytes (x / 65536) ++ word_bytes x
quad_halves x =
    let e : x / 16777216 ≡ x / 65536 / 256 = omega arith in
    rw e

-- ---- the bytes of a number, read again

pub two : (x a c : ℕ) → a ≡ x / 256 % 256 → c ≡ x % 256 → a * 256 + c ≡ x % 65536
two x a c ea ec = omega arith

pub four : (x a c : ℕ) → a ≡ x / 65536 % 65536 → c ≡ x % 65536 → a * 65536 + c ≡ x % 4294967296
four x a c ea ec = omega arith

pub eight : (x a c : ℕ) → a ≡ x / 4294967296 % 4294967296 → c ≡ x % 4294967296
    → a * 4294967296 + c ≡ x % 18446744073709551616
eight x a c ea ec = omega arith

-- ---- the parts of a number that was read

pub of_two : (x a c : ℕ) → a < 256 → c < 256 → x % 65536 ≡ a * 256 + c → (a ≡ x / 256 % 256) × (c ≡ x % 256)
of_two x a c ha hc e = (omega arith, omega arith)

pub of_four : (x a c : ℕ) → a < 65536 → c < 65536 → x % 4294967296 ≡ a * 65536 + c
    → (x / 65536 % 65536 ≡ a) × (x % 65536 ≡ c)
of_four x a c ha hc e = (omega arith, omega arith)

pub of_eight : (x a c : ℕ) → a < 4294967296 → c < 4294967296 → x % 18446744073709551616 ≡ a * 4294967296 + c
    → (x / 4294967296 % 4294967296 ≡ a) × (x % 4294967296 ≡ c)
of_eight x a c ha hc e = (omega arith, omega arith)

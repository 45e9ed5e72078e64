-- Numbers in decimal: how many digits there are, and that they are those which `io::decimal` puts. Assumes nothing.
use mathlib.Core.Path.{◌≡◌, refl, ap, ◌∙◌}
use mathlib.Core.List.{[], ◌∷◌}
use Prim.Native.Nat.{ℕ, zero, suc, ◌-◌, ◌/◌, ◌%◌, ◌^◌, ◌≤◌, ◌<◌, suc-le-suc}
use native.Mathlib.Nat.{pow-suc, one-le-pow}
use native.Mathlib.Omega.{arith}
use lib.Dec.{ltb}
use lib.ListN.{length, length-append}
use borrow.Author.Tests.{lt-ltb, le-ltb}
use Rattle.base.specs.Bools.{cond_ok}
use Rattle.io.specs.Digits.{hex_digit_ascii, last_digits, IsDigitCount}
use Rattle.lines.specs.Text.{places, decimal}

length_digits : (b k n : ℕ) → length (last_digits b k n) ≡ k
length_digits b zero n = refl
length_digits b (suc k) n =
    length-append (last_digits b k (n / b)) (hex_digit_ascii (n % b) ∷ []) ∙ omega (arith, length_digits b k (n / b))

pub length_decimal : (n : ℕ) → length (decimal n) ≡ places 19 n
unfolding decimal
length_decimal n = length_digits 10 (places 19 n) n

-- ---- one digit fewer

shorter : (n k : ℕ) → n < 10 ^ suc (suc k) → n / 10 < 10 ^ suc k
shorter n k h = omega (arith, pow-suc 10 (suc k))

still : (n k : ℕ) → 10 ^ suc k ≤ n → 10 ^ k ≤ n / 10
still n k h = omega (arith, pow-suc 10 k)

-- ---- at most so many digits

places_within : (f k n : ℕ) → n < 10 ^ suc k → places f n ≤ suc k
unfolding places
places_within zero k n h = omega arith
places_within (suc f) zero n h = rw (lt-ltb n 10 h) (omega arith)
places_within (suc f) (suc k) n h =
    cond_ok (λ (r : ℕ). r ≤ suc (suc k)) (ltb n 10) 1 (suc (places f (n / 10)))
    (λ e. omega arith) (λ e. suc-le-suc (places_within f k (n / 10) (shorter n k h)))

places_most : (f n : ℕ) → places f n ≤ suc f
unfolding places
places_most zero n = omega arith
places_most (suc f) n =
    cond_ok (λ (r : ℕ). r ≤ suc (suc f)) (ltb n 10) 1 (suc (places f (n / 10)))
    (λ e. omega arith) (λ e. suc-le-suc (places_most f (n / 10)))

pub decimal_most : (n : ℕ) → length (decimal n) ≤ 20
decimal_most n = rw (length_decimal n) (places_most 19 n)

pub decimal_within : (k n : ℕ) → n < 10 ^ suc k → length (decimal n) ≤ suc k
decimal_within k n h = rw (length_decimal n) (places_within 19 k n h)

-- ---- the digits that `io::decimal` puts: the fewest that hold the number

ten_below : (n k : ℕ) → 10 ^ suc k ≤ n → 10 ≤ n
ten_below n k h = omega (arith, pow-suc 10 k, one-le-pow k 10 (omega arith))

-- what two digits and more say of the number
low : (n k : ℕ) → IsDigitCount 10 1 n (suc (suc k)) → 10 ^ suc k ≤ n
low n k h = let e : suc (suc k) - 1 ≡ suc k = omega arith in rw e at (h.2 (omega arith))

fewest_shorter : (n k : ℕ) → IsDigitCount 10 1 n (suc (suc k)) → IsDigitCount 10 1 (n / 10) (suc k)
fewest_shorter n k h =
    let e : suc k - 1 ≡ k = omega arith in (omega arith, shorter n k h.1, λ m. rw e (still n k (low n k h)))

fewest_places : (f k n : ℕ) → n < 10 ^ suc f → IsDigitCount 10 1 n k → k ≡ places f n
unfolding places
fewest_places f zero n l h = absurd (omega (arith, h.0))
fewest_places zero (suc zero) n l h = refl
fewest_places zero (suc (suc k)) n l h = absurd (omega (arith, ten_below n k (low n k h)))
fewest_places (suc f) (suc zero) n l h = rw (lt-ltb n 10 h.1) refl
fewest_places (suc f) (suc (suc k)) n l h =
    rw (le-ltb n 10 (ten_below n k (low n k h)))
    (ap suc (fewest_places f (suc k) (n / 10) (shorter n f l) (fewest_shorter n k h)))

pub decimal_is : (k n : ℕ) → n < 10 ^ 20 → IsDigitCount 10 1 n k → last_digits 10 k n ≡ decimal n
unfolding decimal
decimal_is k n l h = ap (λ (j : ℕ). last_digits 10 j n) (fewest_places 19 k n l h)

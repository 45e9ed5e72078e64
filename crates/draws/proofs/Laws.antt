-- Draws stay in 32 bits and never reach 0 from another value; an event that is named lies within its limits.
-- Assumes nothing.
use mathlib.Core.Path.{◌≡◌, refl, sym, ap, ◌∙◌}
use Rattle.std.specs.Prelude.{Result, Ok, Err, IsOk}
use mathlib.Core.Bool.{false, ◌&&◌}
use Prim.Native.Nat.{ℕ, zero, suc, ◌+◌, ◌*◌, ◌/◌, ◌%◌, ◌^◌, ◌≤◌, ◌<◌}
use native.Mathlib.Nat.{mod-lt, lt_of_le_of_lt, mul_assoc, pow-suc, pow-succ'}
use native.Mathlib.Numerals.{add-one}
use native.Mathlib.Omega.{arith}
use borrow.Author.Tests.{le-leb}
use lib.Arith.{mod-mul}
use lib.Bits.{bit_xor, xor_lt, xor_add_and, and_le_l, and_le_r, shifted_half, shifted_even}
use lib.Dec.{leb, lit<}
use lib.Pow.{pow_pos, shr_le}
use Rattle.base.specs.Bools.{and, cond_ok}
use Rattle.base.specs.Sizes.{sites_most, code_count, split_code_count}
use Rattle.base.specs.declared.refusal.Refusal.{Refusal}
use Rattle.base.specs.Refusals.{number_nonzero}
use Rattle.draws.specs.declared.Event.{Event}
use Rattle.draws.specs.Draws.{DrawnEvent, told, left_xor, right_xor, drawn, value_after, restricted, codes_in, Shares, drawn_site, drawn_code, event_of}

-- ---- values

left_fits : (k x : ℕ) → x < 2 ^ 32 → left_xor k x < 2 ^ 32
left_fits k x h = xor_lt 32 x ((x * 2 ^ k) % 2 ^ 32) h (mod-lt (x * 2 ^ k) (lit< tt))

right_fits : (k x : ℕ) → x < 2 ^ 32 → right_xor k x < 2 ^ 32
right_fits k x h = xor_lt 32 x (x / 2 ^ k) h (lt_of_le_of_lt (shr_le x k) h)

pub drawn_fits : (x : ℕ) → x < 2 ^ 32 → drawn x < 2 ^ 32
unfolding drawn
drawn_fits x h = left_fits 5 (right_xor 17 (left_xor 13 x)) (right_fits 17 (left_xor 13 x) (left_fits 13 x h))

-- two numbers that xor to 0 are equal
xor_none : (a b : ℕ) → bit_xor a b ≡ 0 → a ≡ b
xor_none a b h = omega (arith, xor_add_and a b, and_le_l a b, and_le_r a b)

-- only 0 is what it is shifted left, in w bits: it is even, and so is its half
shift_alive : (w k y : ℕ) → y < 2 ^ w → y ≡ (y * 2 ^ suc k) % 2 ^ w → y ≡ 0
shift_alive zero k y h e = omega arith
shift_alive (suc w) k y h e =
    let m = mod-mul (y * 2 ^ suc k) {m = 2 ^ w} {c = 2} (pow_pos w) (lit< tt) in
    let f : y ≡ (y * 2 ^ k % 2 ^ w) * 2 + 0 =
    e ∙ ap (λ (n : ℕ). y * 2 ^ suc k % n) (pow-suc 2 w) ∙ (rw (shifted_half y k, shifted_even y k) at m) in
    let even : y / 2 * 2 ≡ y = omega arith in
    let z : y / 2 * 2 ^ suc k ≡ y * 2 ^ k =
    ap (λ (n : ℕ). y / 2 * n) (pow-succ' 2 k) ∙ sym (mul_assoc (y / 2) 2 (2 ^ k)) ∙ ap (λ (n : ℕ). n * 2 ^ k) even in
    let g : y / 2 ≡ (y / 2 * 2 ^ suc k) % 2 ^ w = rw z (omega arith) in
    omega (arith, shift_alive w k (y / 2) (omega (arith, pow-suc 2 w)) g)

left_alive : (k x : ℕ) → x < 2 ^ 32 → left_xor (suc k) x ≡ 0 → x ≡ 0
left_alive k x h e = shift_alive 32 k x h (xor_none x ((x * 2 ^ suc k) % 2 ^ 32) e)

right_alive : (x : ℕ) → right_xor 17 x ≡ 0 → x ≡ 0
right_alive x e = omega (arith, xor_none x (x / 2 ^ 17) e)

-- only 0 draws 0
pub drawn_alive : (x : ℕ) → x < 2 ^ 32 → drawn x ≡ 0 → x ≡ 0
unfolding drawn
drawn_alive x h e =
    let a = left_xor 13 x in
    left_alive 12 x h (right_alive a (left_alive 4 (right_xor 17 a) (right_fits 17 a (left_fits 13 x h)) e))

pub value_none : (seed : ℕ) → value_after 0 seed ≡ seed
unfolding value_after
value_none seed = refl

pub value_more : (k seed : ℕ) → value_after (k + 1) seed ≡ drawn (value_after k seed)
unfolding value_after
value_more k seed = rw (add-one k) refl

-- ---- events

-- an edition has thirteen codes or fifteen: what holds of both numbers holds of an edition's
by_codes : (P : ℕ → Type 0) (edition : ℕ) → P code_count → P split_code_count → P (codes_in edition)
by_codes P edition a b = cond_ok P (restricted edition) split_code_count code_count (λ h. b) (λ h. a)

pub codes_some : (edition : ℕ) → code_count ≤ codes_in edition
codes_some edition = by_codes (λ n. code_count ≤ n) edition (omega arith) (omega arith)

pub codes_most : (edition : ℕ) → codes_in edition ≤ split_code_count
codes_most edition = by_codes (λ n. n ≤ split_code_count) edition (omega arith) (omega arith)

-- thirteen codes and fifteen, with their shares
pub thirteen : Shares code_count 5042
thirteen = record { small = omega arith; divides = λ m h. omega arith; rests = λ m. omega arith }

pub fifteen : Shares split_code_count 4370
fifteen = record { small = omega arith; divides = λ m h. omega arith; rests = λ m. omega arith }

pub site_below : (edition S value : ℕ) → 1 ≤ S → drawn_site edition S value < S
site_below edition S value h =
    by_codes (λ n. value % (n * S) / n < S) edition (omega (arith, mod-lt value {m = code_count * S} (omega arith)))
    (omega (arith, mod-lt value {m = split_code_count * S} (omega arith)))

pub code_below : (edition S value : ℕ) → drawn_code edition S value < codes_in edition
code_below edition S value =
    by_codes (λ n. value % (n * S) % n < n) edition (mod-lt (value % (code_count * S)) (lit< tt)) (mod-lt (value % (split_code_count * S)) (lit< tt))

pub event_named : (edition S value : ℕ) → 1 ≤ S → S ≤ sites_most
    → event_of edition S value ≡ record { refusal = 0; site = drawn_site edition S value; code = drawn_code edition S value }
unfolding event_of
event_named edition S value h k = rw (and (leb 1 S) (leb S sites_most) (le-leb 1 S h) (le-leb S sites_most k)) refl

pub event_refused : (edition S value : ℕ) → leb 1 S && leb S sites_most ≡ false
    → event_of edition S value ≡ record { refusal = 3; site = 0; code = 0 }
unfolding event_of
event_refused edition S value h = rw h refl

-- what names an event is no refusal
pub event_ok : (E S v : ℕ) (r : Result Event Refusal) → told r ≡ event_of E S v → 1 ≤ S → S ≤ sites_most → IsOk r
event_ok E S v (Ok e) h some few = refl
event_ok E S v (Err e) h some few =
    absurd (number_nonzero e (ap (λ (d : DrawnEvent). d.refusal) (h ∙ event_named E S v some few)))

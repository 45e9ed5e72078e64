-- A word read digit by digit, and what its number says of it. Assumes nothing.
use mathlib.Core.Path.{◌≡◌, refl, sym, ap}
use mathlib.Core.Bool.{Bool, true, false, cond, ◌&&◌}
use mathlib.Core.List.{List, ◌∷◌}
use Prim.Native.Nat.{ℕ, zero, suc, ◌+◌, ◌-◌, ◌*◌, ◌≤◌, ◌<◌, min}
use native.Mathlib.Decide.{dec_lt}
use native.Mathlib.Numerals.{add-one}
use native.Mathlib.Omega.{arith}
use lib.Dec.{leb}
use lib.ListN.{length, get_or}
use borrow.Author.Tests.{le-leb, lt-leb, leb-true}
use Rattle.base.specs.All.{all, all_none, all_more, all_fails}
use Rattle.base.specs.Bools.{clash, both}
use Rattle.latency.specs.Latency.{argument_most, argument_ok}
use Rattle.quote.specs.Words.{is_digit, all_digits, value_to, value_of, beyond, number_of}

-- ---- digit by digit

-- The first i bytes are digits, and `value` is what they say, or `beyond` where that is less.
pub record Reading (word : List ℕ) (value i : ℕ) : Type 0 where
  pub within : i ≤ length word
  pub digits : all (λ k. is_digit (get_or word k 0)) i ≡ true
  pub capped : value ≡ min beyond (value_to word i)

pub nothing_read : (word : List ℕ) → Reading word 0 0
unfolding value_to
nothing_read word = record { within = omega arith; digits = all_none _; capped = refl }

-- one digit more
pub digit_read : {word : List ℕ} {value i : ℕ} (r : ℕ) → Reading word value i → i < length word
    → is_digit (get_or word i 0) ≡ true → r ≡ min beyond (10 * value + (get_or word i 0 - 48)) → Reading word r (i + 1)
unfolding value_to
digit_read {word} {value} {i} r h l d e =
    record {
      within = omega arith;
      digits = all_more _ i h.digits d;
      capped = rw (add-one i) (omega (arith, h.capped));
    }

pub all_read : {word : List ℕ} {value i : ℕ} → Reading word value i → length word ≤ i → value ≡ number_of word
unfolding number_of
all_read {word} {value} {i} h l =
    let e : i ≡ length word = omega (arith, h.within) in
    let d : all_digits word ≡ true = rw e at h.digits in rw d (rw e at h.capped)

-- a byte that is no digit
pub no_number : (word : List ℕ) (i : ℕ) → i < length word → is_digit (get_or word i 0) ≡ false → 0 ≡ number_of word
unfolding number_of
no_number word i l e = rw (all_fails (λ k. is_digit (get_or word k 0)) i (length word) l e) refl

-- ---- what the number says of the word

capped_ok : (b : Bool) (v : ℕ) → argument_ok (cond b (min beyond v) 0) ≡ b && argument_ok v
capped_ok false v = refl
capped_ok true v = go (dec_lt v beyond)
  where
    go : Dec (v < beyond) → argument_ok (min beyond v) ≡ argument_ok v
    go (yes h) = let e : min beyond v ≡ v = omega arith in ap argument_ok e
    go (no h) =
        let e : min beyond v ≡ beyond = omega arith in
        rw (e, le-leb 1 v (omega arith), lt-leb v argument_most (omega arith)) refl

-- it is within the range of an argument exactly if the word is of digits alone and their value is
pub argument_read : (word : List ℕ) → argument_ok (number_of word) ≡ all_digits word && argument_ok (value_of word)
unfolding number_of
argument_read word = capped_ok (all_digits word) (value_of word)

capped_is : (b : Bool) (v : ℕ) → argument_ok (cond b (min beyond v) 0) ≡ true → cond b (min beyond v) 0 ≡ v
capped_is false v e = absurd (clash (sym e))
capped_is true v e = omega (arith, leb-true (min beyond v) argument_most (both (leb 1 (min beyond v)) _ e).1)

-- and then it is their value
pub value_read : (word : List ℕ) → argument_ok (number_of word) ≡ true → number_of word ≡ value_of word
unfolding number_of
value_read word e = capped_is (all_digits word) (value_of word) e

-- ---- a zero in front changes nothing, and so no number of them does

zero_digit : (word : List ℕ) (n : ℕ) → all (λ i. is_digit (get_or (48 ∷ word) i 0)) (suc n) ≡ all (λ i. is_digit (get_or word i 0)) n
unfolding all
zero_digit word zero = refl
zero_digit word (suc n) = ap (λ (b : Bool). b && is_digit (get_or word n 0)) (zero_digit word n)

zero_value : (word : List ℕ) (k : ℕ) → value_to (48 ∷ word) (suc k) ≡ value_to word k
unfolding value_to
zero_value word zero = refl
zero_value word (suc k) = ap (λ (v : ℕ). 10 * v + (get_or word k 0 - 48)) (zero_value word k)

pub zero_first : (word : List ℕ) → number_of (48 ∷ word) ≡ number_of word
unfolding number_of
zero_first word = rw (zero_digit word (length word), zero_value word (length word)) refl

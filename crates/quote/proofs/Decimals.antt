-- A number in decimal is read as itself. Assumes nothing.
use mathlib.Core.Path.{◌≡◌, refl, sym, ap, ◌∙◌}
use mathlib.Core.Bool.{true}
use mathlib.Core.List.{List, [], ◌∷◌, ◌++◌}
use Prim.Native.Nat.{ℕ, zero, suc, ◌+◌, ◌/◌, ◌%◌, ◌^◌, ◌≤◌, ◌<◌, min}
use native.Mathlib.Nat.{pow-suc}
use native.Mathlib.Numerals.{add-one}
use native.Mathlib.Omega.{arith}
use lib.Dec.{ltb}
use lib.ListN.{length, get_or, length-append, get_or-append}
use lib.Seq.{get_or-append-add}
use borrow.Author.Tests.{lt-ltb, le-leb, ltb-true}
use Rattle.base.specs.All.{all_same}
use Rattle.base.specs.Bools.{and, cond_ok}
use Rattle.io.specs.Digits.{hex_digit_ascii, last_digits}
use Rattle.lines.specs.Text.{places, decimal}
use Rattle.latency.specs.Latency.{argument_most}
use Rattle.quote.specs.Words.{is_digit, value_to, beyond, number_of}
use Rattle.quote.proofs.Numbers.{Reading, nothing_read, digit_read, all_read}

-- ---- bytes behind those that were read

same_byte : (xs ys : List ℕ) (k : ℕ) → k < length xs → get_or xs k 0 ≡ get_or (xs ++ ys) k 0
same_byte xs ys k l = sym (get_or-append xs ys 0 k l)

same_value : (xs ys : List ℕ) (k : ℕ) → k ≤ length xs → value_to xs k ≡ value_to (xs ++ ys) k
unfolding value_to
same_value xs ys zero l = refl
same_value xs ys (suc k) l = rw (same_value xs ys k (omega arith), same_byte xs ys k (omega arith)) refl

then_more : {xs : List ℕ} {value i : ℕ} (ys : List ℕ) → Reading xs value i → Reading (xs ++ ys) value i
then_more {xs} {value} {i} ys h =
    record {
      within = omega (arith, h.within, length-append xs ys);
      digits = sym (all_same _ _ i (λ k l. ap is_digit (same_byte xs ys k (omega (arith, h.within))))) ∙ h.digits;
      capped = h.capped ∙ ap (min beyond) (same_value xs ys i h.within);
    }

-- ---- digits

glyph_is : (d : ℕ) → d < 10 → (hex_digit_ascii d ≡ 48 + d) × (is_digit (hex_digit_ascii d) ≡ true)
glyph_is d h =
    let e : hex_digit_ascii d ≡ 48 + d = rw (lt-ltb d 10 h) refl in
    (e, rw e (and _ _ (le-leb 48 (48 + d) (omega arith)) (le-leb (48 + d) 57 (omega arith))))

digits_read : (k n : ℕ) → n < 10 ^ k → (length (last_digits 10 k n) ≡ k) × Reading (last_digits 10 k n) (min beyond n) k
digits_read zero n h = let e : min beyond n ≡ 0 = omega arith in (refl, rw e (nothing_read []))
digits_read (suc k) n h =
    let xs = last_digits 10 k (n / 10) in
    let g = hex_digit_ascii (n % 10) in
    let before = digits_read k (n / 10) (omega (arith, pow-suc 10 k)) in
    let d = glyph_is (n % 10) (omega arith) in
    let l : length (xs ++ (g ∷ [])) ≡ k + 1 = length-append xs (g ∷ []) ∙ omega (arith, before.0) in
    let i : k ≡ length xs + 0 = omega (arith, before.0) in
    let last : get_or (xs ++ (g ∷ [])) k 0 ≡ g
    = ap (λ (j : ℕ). get_or (xs ++ (g ∷ [])) j 0) i ∙ get_or-append-add xs (g ∷ []) 0 0 in
    let r = digit_read (min beyond n) (then_more (g ∷ []) before.1) (omega arith) (ap is_digit last ∙ d.1)
    (omega (arith, last, d.0)) in (l ∙ add-one k, rw (add-one k) at r)

-- as many digits as `decimal` takes are enough
places_hold : (f n : ℕ) → n < 10 ^ suc f → n < 10 ^ places f n
unfolding places
places_hold zero n h = h
places_hold (suc f) n h =
    cond_ok (λ (k : ℕ). n < 10 ^ k) (ltb n 10) 1 (suc (places f (n / 10))) (λ e. ltb-true n 10 e)
    (λ e. omega (arith, pow-suc 10 (places f (n / 10)), places_hold f (n / 10) (omega (arith, pow-suc 10 (suc f)))))

pub read_back : (n : ℕ) → n ≤ argument_most → number_of (decimal n) ≡ n
unfolding decimal
read_back n h =
    let r = digits_read (places 19 n) n (places_hold 19 n (omega arith)) in
    sym (all_read r.1 (omega (arith, r.0))) ∙ omega arith

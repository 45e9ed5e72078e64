-- Bytes added to a line: what fits is put, one text behind another is both, and the line can be lent on. Assumes nothing.
use mathlib.Core.Path.{◌≡◌, refl, sym, ap, ◌∙◌}
use mathlib.Core.List.{List, [], ◌++◌}
use Prim.Native.Nat.{ℕ, zero, suc, ◌+◌, ◌-◌, ◌^◌, ◌≤◌, ◌<◌, min}
use native.Mathlib.Decide.{dec_lt}
use native.Mathlib.Nat.{pow-suc, one-le-pow}
use native.Mathlib.Numerals.{add-one}
use native.Mathlib.Omega.{arith}
use lib.ListN.{length, get_or, take, drop, length-append, length-drop, length-take}
use lib.Seq.{length-take-le, take_all, take-append-le, take-append-add, take-append_seam}
use Rattle.base.specs.Answers.{at_front}
use Rattle.base.specs.Put.{put, put_none, put_append}
use Rattle.io.specs.Counts.{IsPrefixLen}
use Rattle.io.specs.Digits.{last_digits, IsDigitCount}
use Rattle.io.proofs.Counting.{prefix_len_of_le}
use Rattle.report.specs.Put.{Put}
use Rattle.lines.specs.Add.{Added, shown_byte, shown_to}

-- ---- lengths

length_put : (out : List ℕ) (p : ℕ) (xs : List ℕ) → p + length xs ≤ length out → length (put out p xs) ≡ length out
unfolding put
length_put out p xs h =
    length-append (take p out ++ xs) (drop (p + length xs) out)
    ∙ omega (
      arith,
      length-append (take p out) xs,
      length-take-le p out (omega arith),
      length-drop (p + length xs) out,
    )

pub length_added : {room after xs : List ℕ} {p r : ℕ} → Added room p xs r after → length after ≡ length room
length_added {room} {xs = xs} {p = p} a =
    let n = length room in
    ap length a.bytes
    ∙ length_put room (min p n) (take (n - p) xs) (omega (arith, length-take (n - p) xs))

pub added_counts : {room after xs : List ℕ} {p r : ℕ} → Added room p xs r after → IsPrefixLen r after
added_counts {after = after} {r = r} a = prefix_len_of_le r after (omega (arith, a.place, length_added a))

-- ---- one addition

-- as much of a list as it has, and no more
take_most : (k : ℕ) (l : List ℕ) → take (min (length l) k) l ≡ take k l
take_most k l = go (dec_lt (length l) k)
  where
    go : Dec (length l < k) → take (min (length l) k) l ≡ take k l
    go (yes h) =
        let e : min (length l) k ≡ length l = omega arith in
        ap (λ (n : ℕ). take n l) e ∙ take_all (length l) l (omega arith) ∙ sym (take_all k l (omega arith))
    go (no h) = let e : min (length l) k ≡ k = omega arith in ap (λ (n : ℕ). take n l) e

-- what fits, put at the place or at the end of the room
pub added : {room after : List ℕ} (bs : List ℕ) (p f n : ℕ) {r : ℕ} → f ≡ min p (length room)
    → n ≡ min (length bs) (length room - f) → Put room f (take n bs) r after → Added room p bs r after
added {room} bs p f n ef en a =
    let l : length (take n bs) ≡ n = length-take-le n bs (omega arith) in
    let k : length room - f ≡ length room - p = omega arith in
    let e : take n bs ≡ take (length room - p) bs
    = ap (λ (m : ℕ). take m bs) (en ∙ ap (min (length bs)) k) ∙ take_most (length room - p) bs in
    record {
      place = a.place ∙ omega arith;
      bytes = a.bytes ∙ ap (λ (g : ℕ). put room g (take n bs)) ef ∙ ap (put room (min p (length room))) e;
    }

-- ---- one behind another

pub added_none : (room : List ℕ) (p r : ℕ) → r ≡ min p (length room) → Added room p [] r room
added_none room p r e =
    record {
      place = e ∙ omega arith;
      bytes = sym (ap (put room (min p (length room))) (take_all (length room - p) [] (omega arith)) ∙ put_none room _);
    }

pub added_then : {room mid after xs ys : List ℕ} {p q r : ℕ} → Added room p xs q mid → Added mid q ys r after
    → Added room p (xs ++ ys) r after
added_then {room} {mid} {after} {xs} {ys} {p} {q} {r} a b = go (dec_lt (length room) (p + length xs))
  where
    n : ℕ
    n = length room

    m : length mid ≡ n
    m = length_added a

    -- the place is the same either way
    behind : r ≡ min (p + length (xs ++ ys)) n
    behind = b.place ∙ omega (arith, a.place, m, length-append xs ys)

    go : Dec (n < p + length xs) → Added room p (xs ++ ys) r after
    -- the first text fills the room
    go (yes h) =
        let full : q ≡ n = a.place ∙ omega arith in
        let zero_left : length mid - q ≡ 0 = omega (arith, full, m) in
        let none : take (length mid - q) ys ≡ [] = ap (λ (k : ℕ). take k ys) zero_left in
        let all : take (n - p) (xs ++ ys) ≡ take (n - p) xs = take-append-le (n - p) xs ys (omega arith) in
        record {
          place = behind;
          bytes = b.bytes ∙ ap (put mid (min q (length mid))) none ∙ put_none mid _ ∙ a.bytes
              ∙ ap (put room (min p n)) (sym all);
        }
    -- the first text fits
    go (no h) =
        let whole : take (n - p) xs ≡ xs = take_all (n - p) xs (omega arith) in
        let here : min p n ≡ p = omega arith in
        let there : min q (length mid) ≡ q = omega (arith, a.place, m) in
        let left : length mid - q ≡ n - p - length xs = omega (arith, a.place, m) in
        let behind-xs : n - p ≡ length xs + (n - p - length xs) = omega arith in
        let first : mid ≡ put room p xs = a.bytes ∙ ap (put room (min p n)) whole ∙ ap (λ (k : ℕ). put room k xs) here in
        let both : take (n - p) (xs ++ ys) ≡ xs ++ take (n - p - length xs) ys
        = ap (λ (k : ℕ). take k (xs ++ ys)) behind-xs ∙ take-append-add xs ys (n - p - length xs) in
        record {
          place = behind;
          bytes = b.bytes ∙ ap (λ (k : ℕ). put mid k (take (length mid - q) ys)) there
              ∙ ap (λ (k : ℕ). put mid q (take k ys)) left
              ∙ put_append room mid p q xs (take (n - p - length xs) ys) (omega arith) first (a.place ∙ omega arith)
              ∙ ap (put room p) (sym both) ∙ ap (λ (k : ℕ). put room k (take (n - p) (xs ++ ys))) (sym here);
        }

-- a byte more of a name
pub shown_more : (name : List ℕ) (k b : ℕ) {room mid after : List ℕ} {p q r : ℕ} → Added room p (shown_to name k) q mid
    → Added mid q (shown_byte b) r after → b ≡ get_or name k 0 → Added room p (shown_to name (k + 1)) r after
unfolding shown_to
shown_more name k b a c e = rw (add-one k) (rw e at (added_then a c))

-- none of it yet
pub added_start : (room name : List ℕ) (p r : ℕ) → r ≡ min p (length room) → Added room p (shown_to name 0) r room
unfolding shown_to
added_start room name p r e = added_none room p r e

-- ---- what is added

-- a text at the front of a room
pub front_is : (xs room after : List ℕ) (r : ℕ) → r ≡ length xs → after ≡ at_front xs room → take r after ≡ xs
unfolding at_front
front_is xs room after r e f = rw (e, f) (take-append_seam xs (drop (length xs) room))

-- a byte has two hexadecimal digits
pub two_digits : (b k : ℕ) (text : List ℕ) → b < 256 → IsDigitCount 16 2 b k → text ≡ last_digits 16 k b → text ≡ last_digits 16 2 b
two_digits b k text h f e = e ∙ ap (λ (j : ℕ). last_digits 16 j b) (two k f)
  where
    two : (k : ℕ) → IsDigitCount 16 2 b k → k ≡ 2
    two zero g = absurd (omega (arith, g.0))
    two (suc zero) g = absurd (omega (arith, g.0))
    two (suc (suc zero)) g = refl
    two (suc (suc (suc j))) g =
        let e : suc (suc (suc j)) - 1 ≡ suc (suc j) = omega arith in
        let l : 16 ^ suc (suc j) ≤ b = rw e at (g.2 (omega arith)) in
        absurd (omega (arith, l, pow-suc 16 (suc j), pow-suc 16 j, one-le-pow j 16 (omega arith)))

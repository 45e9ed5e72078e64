-- The text in its room: each line as it is added, and all of it, for which there is room. Assumes nothing.
use mathlib.Core.Path.{◌≡◌, refl, sym, ap, ◌∙◌}
use mathlib.Core.Bool.{Bool, true, false}
use mathlib.Core.List.{List, [], ◌++◌, append_assoc}
use Prim.Native.Nat.{ℕ, ◌-◌, ◌/◌, ◌%◌, ◌≤◌, min}
use native.Mathlib.Omega.{arith}
use lib.Dec.{eqb}
use lib.ListN.{length, take, length-append}
use lib.Seq.{take_all}
use borrow.Author.Tests.{eq-eqb, ne_eqb}
use Rattle.base.specs.Answers.{at_front}
use Rattle.base.specs.Bools.{cond_ok}
use Rattle.base.specs.Put.{put, put_front}
use Rattle.io.specs.Counts.{IsPrefixLen as Front}
use Rattle.types.specs.declared.Counts.{Counts}
use Rattle.lines.specs.Add.{Added}
use Rattle.lines.specs.Text.{ascii, decimal, answer_line, refused_line}
use Rattle.report.proofs.Numbers.{decimal_most}
use Rattle.report.proofs.Puts.{front_counts}
use Rattle.latency.specs.Latency.{Latencies}
use Rattle.quote.specs.Text.{half_line, whole_line, value_line, value_lines, latencies_text, text_most}
use Rattle.quote.specs.Text.{latencies_of, quote_text, quote_of}
use Rattle.quote.specs.Text.{Quoted}

-- ---- a line

pub as_whole : (v : ℕ) → decimal v ++ ascii "\n" ≡ value_line true v
unfolding value_line whole_line
as_whole v = refl

pub as_even : (v : ℕ) → v % 2 ≡ 0 → decimal (v / 2) ++ ascii "\n" ≡ value_line false v
unfolding value_line half_line
as_even v e = rw (eq-eqb (v % 2) 0 e) (sym (append_assoc (decimal (v / 2)) [] (ascii "\n")))

pub as_odd : (v : ℕ) → (v % 2 ≡ 0 → ⊥) → decimal (v / 2) ++ ascii ".5\n" ≡ value_line false v
unfolding value_line half_line
as_odd v e = rw (ne_eqb (v % 2) 0 e) (sym (append_assoc (decimal (v / 2)) (ascii ".5") (ascii "\n")))

-- ---- room for it

line_most : (doubled : Bool) (v : ℕ) → length (value_line doubled v) ≤ 23
unfolding value_line whole_line half_line
line_most true v = omega (arith, length-append (decimal v) (ascii "\n"), decimal_most v)
line_most false v =
    let d = decimal (v / 2) in
    let n = ascii "\n" in
    cond_ok (λ (l : List ℕ). length (d ++ l ++ n) ≤ 23) (eqb (v % 2) 0) [] (ascii ".5")
    (λ e. omega (arith, length-append (d ++ []) n, length-append d [], decimal_most (v / 2)))
    (λ e. omega (arith, length-append (d ++ ascii ".5") n, length-append d (ascii ".5"), decimal_most (v / 2)))

lines_most : (doubled : Bool) (x : Latencies) → length (value_lines doubled x) ≤ text_most
unfolding value_lines
lines_most doubled x =
    let a = value_line doubled x.unicast in
    let b = value_line doubled x.multi in
    let c = value_line doubled x.resumable in
    let d = value_line doubled x.restricted in
    omega (
      arith,
      length-append (a ++ b ++ c) d,
      length-append (a ++ b) c,
      length-append a b,
      line_most doubled x.unicast,
      line_most doubled x.multi,
      line_most doubled x.resumable,
      line_most doubled x.restricted,
    )

refused_most : (e : ℕ) → length (refused_line e) ≤ text_most
unfolding refused_line
refused_most e =
    omega (
      arith,
      length-append (ascii "refused " ++ decimal e) (ascii "\n"),
      length-append (ascii "refused ") (decimal e),
      decimal_most e,
    )

-- ---- all of it

-- what is added from place 0 on, where there is room for it
whole : {room after xs : List ℕ} {r : ℕ} → Added room 0 xs r after → length xs ≤ length room
    → (r ≡ length xs) × (after ≡ at_front xs room)
whole {room} {xs = xs} a h =
    let here : min 0 (length room) ≡ 0 = omega arith in
    let all : take (length room - 0) xs ≡ xs = take_all (length room - 0) xs (omega arith) in (
      a.place ∙ omega arith,
      a.bytes ∙ ap (put room (min 0 (length room))) all ∙ ap (λ (p : ℕ). put room p xs) here ∙ put_front room xs,
    )

pub values_whole : (doubled : Bool) (x : Latencies) {room after : List ℕ} {r : ℕ} → text_most ≡ length room
    → x.refusal ≡ 0 → Added room 0 (value_lines doubled x) r after
    → (r ≡ length (latencies_text doubled x)) × (after ≡ at_front (latencies_text doubled x) room)
unfolding latencies_text
values_whole doubled x l e a = rw (eq-eqb x.refusal 0 e) (whole a (omega (arith, lines_most doubled x)))

pub refusal_whole : (doubled : Bool) (x : Latencies) (counts : Counts) {room after : List ℕ} {r : ℕ}
    → text_most ≡ length room → (x.refusal ≡ 0 → ⊥) → Added room 0 (answer_line x.refusal counts) r after
    → (r ≡ length (latencies_text doubled x)) × (after ≡ at_front (latencies_text doubled x) room)
unfolding latencies_text answer_line
refusal_whole doubled x counts l e a =
    let t = ne_eqb x.refusal 0 e in rw t (whole (rw t at a) (omega (arith, refused_most x.refusal)))

-- ---- of five numbers

-- by their latencies
pub quoted : (doubled : Bool) (numbers room : List ℕ) (x : Latencies) {after : List ℕ} {n : ℕ} → x ≡ latencies_of numbers
    → (n ≡ length (latencies_text doubled x)) × (after ≡ at_front (latencies_text doubled x) room)
    → (◌≡◌ {A = Quoted} (record { refusal = x.refusal; count = n }) (quote_of doubled numbers))
    × (after ≡ at_front (quote_text doubled numbers) room)
unfolding quote_text quote_of
quoted doubled numbers room x e h = (rw (h.0, e) refl, rw e at h.1)

-- it can be lent on
pub quote_counts : (doubled : Bool) (numbers room after : List ℕ) (r : Quoted) → r ≡ quote_of doubled numbers
    → after ≡ at_front (quote_text doubled numbers) room → Front r.count after
unfolding quote_of
quote_counts doubled numbers room after r e f =
    front_counts (quote_text doubled numbers) room after r.count (ap (λ (q : Quoted). q.count) e) f

-- Bytes put into a room one behind the other. Assumes nothing.
use mathlib.Core.Path.{◌≡◌, refl, sym, ap, ◌∙◌}
use mathlib.Core.List.{List, [], ◌++◌, append_assoc}
use Prim.Native.Nat.{ℕ, ◌+◌, ◌≤◌}
use native.Mathlib.Nat.{zero-add}
use native.Mathlib.Numerals.{add-one}
use native.Mathlib.Omega.{arith}
use lib.ListN.{length, drop, length-append}
use Rattle.io.specs.Counts.{IsPrefixLen}
use Rattle.io.proofs.Counting.{prefix_len_of_le}
use Rattle.lines.specs.declared.Lines.{Lines}
use Rattle.base.specs.Answers.{at_front}
use Rattle.base.specs.Put.{put_none as none, put_front, put_append}
use Rattle.lines.specs.Text.{line_at, service_lines, fitting, lines_answer, lines_after}
use Rattle.report.specs.Put.{Put}

-- nothing is put
pub put_none : (room : List ℕ) → Put room 0 [] 0 room
put_none room = record { place = refl; bytes = sym (none room 0) }

-- one text behind another
pub then : {room mid after xs ys : List ℕ} {p q r : ℕ} → p ≤ length room → Put room p xs q mid → Put mid q ys r after
    → Put room p (xs ++ ys) r after
then {room} {mid} {xs = xs} {ys = ys} {p = p} {q = q} h a b =
    record {
      place = b.place ∙ omega (arith, a.place, length-append xs ys);
      bytes = b.bytes ∙ put_append room mid p q xs ys h a.bytes a.place;
    }

-- the same, where the second is two texts
pub then_two : (ys zs : List ℕ) {room mid after xs : List ℕ} {p q r : ℕ} → p ≤ length room → Put room p xs q mid
    → Put mid q (ys ++ zs) r after → Put room p (xs ++ ys ++ zs) r after
then_two ys zs {xs = xs} h a b = rw (append_assoc xs ys zs) (then h a b)

-- where two texts end
pub behind_two : (xs ys : List ℕ) {room after : List ℕ} {p r : ℕ} → Put room p (xs ++ ys) r after
    → r ≡ p + length xs + length ys
behind_two xs ys a = a.place ∙ omega (arith, length-append xs ys)

-- what is put from place 0 on stands at the front
pub at_front_lem : {room after xs : List ℕ} {r : ℕ} → Put room 0 xs r after → (r ≡ length xs) × (after ≡ at_front xs room)
at_front_lem {room} {xs = xs} a = (a.place ∙ zero-add (length xs), a.bytes ∙ put_front room xs)

-- and can be lent on
pub front_counts : (xs room after : List ℕ) (r : ℕ) → r ≡ length xs → after ≡ at_front xs room → IsPrefixLen r after
unfolding at_front
front_counts xs room after r e f =
    rw (e, f) (prefix_len_of_le (length xs) (xs ++ drop (length xs) room) (omega (arith, length-append xs (drop (length xs) room))))

-- one service more
pub line_more : (book : List ℕ) (k : ℕ) {room mid after : List ℕ} {q r : ℕ} → Put room 0 (service_lines book k) q mid
    → Put mid q (line_at book k) r after → Put room 0 (service_lines book (k + 1)) r after
unfolding service_lines
line_more book k a b = rw (add-one k) (then (omega arith) a b)

pub no_lines : (book room : List ℕ) → Put room 0 (service_lines book 0) 0 room
unfolding service_lines
no_lines book room = put_none room

-- all that fit
pub lines_all : (book : List ℕ) (n k : ℕ) {room after : List ℕ} {q : ℕ} → n ≡ fitting book (length room) → k ≡ n
    → Put room 0 (service_lines book k) q after
    → (◌≡◌ {A = Lines} (record { services = n; bytes = q }) (lines_answer book (length room)))
    × (after ≡ lines_after book room)
unfolding lines_answer lines_after
lines_all book n k {room} {after} {q} e f p =
    let h = at_front_lem (rw (f ∙ e) at p) in (rw (e, h.0), h.1)

pub lines_counts : (book room after : List ℕ) (l : Lines) → l ≡ lines_answer book (length room)
    → after ≡ lines_after book room → IsPrefixLen l.bytes after × (l.services ≡ fitting book (length room))
unfolding lines_answer lines_after
lines_counts book room after l e f = (
  front_counts (service_lines book (fitting book (length room))) room after l.bytes (ap (λ (l : Lines). l.bytes) e) f,
  ap (λ (l : Lines). l.services) e,
)

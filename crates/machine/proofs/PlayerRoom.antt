-- The room that a book may take, summed send by send. Assumes what each law names.
use Prim.Native.Nat.{ℕ, zero, suc, ◌+◌, ◌*◌, ◌≤◌, ◌<◌, min}
use mathlib.Core.Path.{◌≡◌, refl, sym, ap, ◌∙◌}
use mathlib.Core.List.{List}
use mathlib.Core.Logic.{⊎_elim}
use native.Mathlib.Nat.{le_of_suc-le-suc, eq-or-lt_of_le}
use native.Mathlib.Numerals.{add-one}
use native.Mathlib.Omega.{arith}
use borrow.Author.Tests.{ltb-true, ltb-false}
use lib.Dec.{ltb}
use lib.ListN.{length, take, get_or}
use lib.Seq.{length-take-le, get_or-take}
use Rattle.std.proofs.lemmas.List.{length-take}
use Rattle.base.specs.Sizes.{set_bits, sends_most}
use Rattle.base.specs.Bools.{either_way}
use Rattle.base.specs.Sums.{sum, sum_upto, upto, upto_last, upto_ext}
use Rattle.sets.specs.Sets.{size}
use Rattle.sets.proofs.LawsBit.{size_most}
use Rattle.types.specs.declared.StoredSend.{StoredSend}
use Rattle.types.specs.declared.Run.{Run}
use Rattle.model.specs.Types.{send_d}
use Rattle.model.specs.Runs.{book_room}
use Rattle.machine.specs.Play.{room_of, book_space}

-- ---- the sizes of the first k sends' sets

abbrev pub sizes_to : List StoredSend → ℕ → ℕ
sizes_to l k = upto k (λ j. size (get_or l j send_d).set)

pub sizes_none : (l : List StoredSend) → 0 ≡ sizes_to l 0
unfolding upto
sizes_none l = refl

pub sizes_next : (l : List StoredSend) (k : ℕ) → sizes_to l (k + 1) ≡ sizes_to l k + size (get_or l k send_d).set
sizes_next l k = rw (add-one k) (upto_last k (λ j. size (get_or l j send_d).set))

-- one send more of the first m
pub sizes_more : (l : List StoredSend) (m k : ℕ) → k < length (take m l) → {n a : ℕ} → n ≡ sizes_to l k → a ≡ size (get_or (take m l) k send_d).set
    → n + a ≡ sizes_to l (k + 1)
sizes_more l m k h e q =
    let below : k < m = omega (arith, length-take m l) in
    rw (e, q, get_or-take m l k send_d below) (sym (sizes_next l k))

pub sizes_most : (l : List StoredSend) (k : ℕ) → sizes_to l k ≤ set_bits * k
unfolding upto
sizes_most l zero = omega arith
sizes_most l (suc k) =
    omega (
      arith,
      sizes_most l k,
      upto_last k (λ j. size (get_or l j send_d).set),
      size_most set_bits (get_or l k send_d).set,
    )

pub sizes_grow : (l : List StoredSend) (k m : ℕ) → k ≤ m → sizes_to l k ≤ sizes_to l m
sizes_grow l k zero h = let e : k ≡ 0 = omega arith in rw e (omega arith)
sizes_grow l k (suc m) h =
    ⊎_elim (λ e. rw e (omega arith))
    (λ p. omega (arith, sizes_grow l k m (le_of_suc-le-suc p), upto_last m (λ j. size (get_or l j send_d).set)))
    (eq-or-lt_of_le h)

pub room_is : (r : Run) → r.count ≤ length r.sends → room_of r.sends r.count ≡ book_room r
room_is r h =
    let l = take r.count r.sends in
    let e : sum (λ (e : StoredSend). size e.set) l ≡ sizes_to r.sends r.count =
    sum_upto (λ (e : StoredSend). size e.set) l send_d
    ∙ rw (length-take-le r.count r.sends h)
    (upto_ext r.count _ (λ j. size (get_or r.sends j send_d).set)
    (λ j i. ap (λ (e : StoredSend). size e.set) (get_or-take r.count r.sends j send_d i))) in
    ap (λ (k : ℕ). 4 * k) (sym e)

-- for any count that there are places for
pub space_is : (l : List StoredSend) (k : ℕ) → k ≤ sends_most → book_space l k ≡ room_of l k
unfolding book_space
space_is l k h =
    either_way (ltb k sends_most) (λ e. rw e refl)
    (λ e. let f = ltb-false k sends_most e in let g : sends_most ≡ k = omega arith in rw e (ap (room_of l) g))

-- summed to the end of the places that there are
pub space_by : (l : List StoredSend) (k m n : ℕ) → m ≡ min k sends_most → n ≡ sizes_to l m → 4 * n ≡ book_space l k
unfolding book_space
space_by l k m n e f =
    either_way (ltb k sends_most)
    (λ b. let g : m ≡ k = omega (arith, e, ltb-true k sends_most b) in rw (b, f, g) refl)
    (λ b. let g : m ≡ sends_most = omega (arith, e, ltb-false k sends_most b) in rw (b, f, g) refl)

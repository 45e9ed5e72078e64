-- A net-input that is free is in range exactly where it is empty, and room beyond S where it is a site with T, D and
-- counter 0. Assumes nothing.
use mathlib.Core.Path.{◌≡◌, refl, sym, ap, ap₂, ◌∙◌}
use mathlib.Core.Bool.{Bool, true, false, not, ◌&&◌, ◌||◌, and-true, and-false, or-false, and_assoc}
use mathlib.Core.List.{List}
use Prim.Native.Nat.{ℕ, zero, suc, ◌+◌}
use native.Mathlib.Omega.{arith}
use native.Mathlib.Numerals.{add-one}
use borrow.Author.Tests.{le-ltb, le-leb, lt-leb, ne_eqb, eqb-true, not-true}
use lib.Dec.{eqb, leb}
use Rattle.base.specs.Sizes.{input_count, output_count, split_port, in_queue_count, queue_room}
use Rattle.base.specs.Bools.{implies, pick, alike, clash, cond_ok, either_way, both3, implies_by}
use Rattle.base.specs.All.{all, all_by, all_same, any_at}
use Rattle.types.specs.Phases.{is_free, connected, splitting, branching, aborting}
use Rattle.draws.specs.Draws.{restricted}
use Rattle.model.specs.Types.{Phase, Free, Seek, Open, Wait, Done, Last, Aborted, FinAbort}
use Rattle.model.specs.Types.{Input, Output, InQueue, Site, mark, out_of, in_at, out_at, out_entry, queue_at, in_entry}
use Rattle.model.specs.Range.{tag_ok, any_mark, any_remote, zero_input, zero_output, zero_in_queue, fed_by, connection_in, input_ok, output_ok}
use Rattle.model.specs.Range.{out_entry_ok, in_entry_ok, out_queue_ok, in_queue_ok, depth_of, site_ok, zero_site}
use Rattle.checks.specs.Range.{connection_ok, net_places_ok, in_queues_ok}

-- ---- two tests of each number, and the second once more

middle : (a b c d : Bool) → (a && b) && (c && d) ≡ (a && c) && (b && d)
middle true true c d = refl
middle true false true d = refl
middle true false false d = refl
middle false b c d = refl

both_of : (p q : ℕ → Bool) (n : ℕ) → all (λ i. p i && q i) n ≡ all p n && all q n
unfolding all
both_of p q zero = refl
both_of p q (suc n) = rw (both_of p q n) (middle (all p n) (all q n) (p n) (q n))

pub all_two : (p q : ℕ → Bool) (n : ℕ) (ok last : Bool) → ok ≡ all (λ i. p i && q i) n → last ≡ q n
    → ok && last ≡ all p n && all q (n + 1)
unfolding all
all_two p q n ok last e f = rw (e, f, both_of p q n, add-one n) (and_assoc (all p n) (all q n) (q n))

-- ---- a place in use, an empty one

pub pick_first : (c a b r : Bool) → c ≡ true → r ≡ a → r ≡ pick c a b
pick_first c a b r h e = rw h (e ∙ sym (or-false a))

pub pick_second : (c a b r : Bool) → c ≡ false → r ≡ b → r ≡ pick c a b
pick_second c a b r h e = rw h e

-- ---- a net-input

by_parts : (a b c d e f g h : Bool) → a && b && c && d && e && f && g && h ≡ a && b && (c && d && e && f && (g && h))
by_parts true true c d e f g h = and_assoc (c && d && e && f) g h
by_parts true false c d e f g h = refl
by_parts false b c d e f g h = refl

between : (a b c : Bool) → a ≡ true → c ≡ true → a && b && c ≡ b
between a b c h k = rw (h, k) (and-true b)

fails : (a b c : Bool) → b ≡ false → a && b && c ≡ false
fails a b c h = rw (h, and-false a) refl

-- its second clause
abbrev tag : ℕ → ℕ → Input → Bool
tag S k y = pick (is_free y.phase) (zero_input y) (tag_ok S k y.packet y.set)

at_rest : (ph : Phase) → is_free ph ≡ true
    → (connected ph ≡ false) × (splitting ph ≡ false) × (aborting ph ≡ false) × (branching ph ≡ false)
at_rest Free h = (refl, refl, refl, refl)
at_rest Seek h = absurd (clash (sym h))
at_rest (Open c) h = absurd (clash (sym h))
at_rest (Wait c) h = absurd (clash (sym h))
at_rest (Done c r) h = absurd (clash (sym h))
at_rest (Last c r) h = absurd (clash (sym h))
at_rest (Aborted c) h = absurd (clash (sym h))
at_rest (FinAbort c r) h = absurd (clash (sym h))

-- an input without marks that is free passes every other clause
unmarked : (edition : ℕ) (os : List Output) (i : ℕ) (ph : Phase) (bs : List Bool) → is_free ph ≡ true → any_mark bs ≡ false
    → connection_ok edition os i ph bs ≡ true
unmarked edition os i ph bs free none =
    let r = at_rest ph free in
    let split : mark bs split_port ≡ false = any_at (mark bs) split_port output_count (omega arith) none in
    let marks =
    all_by (λ j. implies (mark bs j) (fed_by i (out_of os j))) output_count
    (λ j h. implies_by (mark bs j) _ (λ e. absurd (clash (sym e ∙ any_at (mark bs) j output_count h none)))) in
    rw (none, r.0, marks, r.1, r.2, split, r.3) (either_way (restricted edition) (λ e. rw e refl) (λ e. rw e refl))

in_parts : (edition S T k : ℕ) (os : List Output) (i : ℕ) (y : Input)
    → input_ok edition S T k os i y ≡ leb y.tries T && tag S k y && connection_ok edition os i y.phase y.outputs
in_parts edition S T k os i y =
    let bs = y.outputs in
    let ph = y.phase in
    by_parts (leb y.tries T) (tag S k y) (alike (any_mark bs) (connected ph))
    (all (λ j. implies (mark bs j) (fed_by i (out_of os j))) output_count) (implies (splitting ph) (mark bs 0))
    (implies (aborting ph) (splitting ph && not (any_remote bs))) (alike (mark bs split_port) (branching ph)) (connection_in edition ph)

pub free_input : (edition S T k : ℕ) (os : List Output) (i : ℕ) (y : Input) → is_free y.phase ≡ true
    → input_ok edition S T k os i y ≡ zero_input y
free_input edition S T k os i y free = in_parts edition S T k os i y ∙ either_way (zero_input y) empty used
  where
    rest : Bool
    rest = connection_ok edition os i y.phase y.outputs

    same : tag S k y ≡ zero_input y
    same = sym (pick_first (is_free y.phase) (zero_input y) (tag_ok S k y.packet y.set) (zero_input y) free refl)

    empty : zero_input y ≡ true → leb y.tries T && tag S k y && rest ≡ zero_input y
    empty e =
        let first = is_free y.phase && eqb y.packet 0 && eqb y.set 0 in
        let a = both3 first (not (any_mark y.outputs)) (eqb y.tries 0) e in
        let none = not-true (any_mark y.outputs) a.1 in
        let t = eqb-true y.tries 0 a.2 in
        let few = le-leb y.tries T (omega arith) in
        between (leb y.tries T) (tag S k y) rest few (unmarked edition os i y.phase y.outputs free none) ∙ same

    used : zero_input y ≡ false → leb y.tries T && tag S k y && rest ≡ zero_input y
    used e = fails (leb y.tries T) (tag S k y) rest (same ∙ e) ∙ sym e

pub used_input : (edition S T k : ℕ) (os : List Output) (i : ℕ) (y : Input) → is_free y.phase ≡ false
    → input_ok edition S T k os i y
    ≡ leb y.tries T && tag_ok S k y.packet y.set && connection_ok edition os i y.phase y.outputs
used_input edition S T k os i y used =
    let t = tag_ok S k y.packet y.set in
    let same = pick_second (is_free y.phase) (zero_input y) t t used refl in
    in_parts edition S T k os i y
    ∙ ap (λ (b : Bool). leb y.tries T && b && connection_ok edition os i y.phase y.outputs) (sym same)

-- ---- a site

pub site_parts : (edition S T D k : ℕ) (x : Site)
    → net_places_ok edition S T k x.inputs x.outputs
    && (out_queue_ok S D k x.outgoing && in_queues_ok edition S D k x.incoming)
    ≡ site_ok edition S T D k x
site_parts edition S T D k x =
    sym
    (and_assoc (net_places_ok edition S T k x.inputs x.outputs) (out_queue_ok S D k x.outgoing)
    (in_queues_ok edition S D k x.incoming))

-- ---- room beyond S

no_tag : (S q X : ℕ) → tag_ok S 0 q X ≡ false
no_tag S q X = rw (le-ltb q 0 (omega arith)) refl

room_input : (edition S : ℕ) (os : List Output) (i : ℕ) (y : Input) → input_ok edition S 0 0 os i y ≡ zero_input y
room_input edition S os i y = either_way (is_free y.phase) (λ free. free_input edition S 0 0 os i y free) used
  where
    used : is_free y.phase ≡ false → input_ok edition S 0 0 os i y ≡ zero_input y
    used e =
        used_input edition S 0 0 os i y e
        ∙ fails (leb y.tries 0) _ (connection_ok edition os i y.phase y.outputs) (no_tag S y.packet y.set)
        ∙ rw e refl

room_output : (edition S j : ℕ) (o : Output) → output_ok edition S 0 j o ≡ zero_output o
room_output edition S j o = rw (no_tag S o.packet o.set) (either_way o.used (λ e. rw e refl) (λ e. rw e refl))

-- a queue of depth 0: no entry is in use
room_queue : (c : ℕ) (f : ℕ → ℕ → Bool) (z : ℕ → Bool) → ((m : ℕ) → f 0 m ≡ z m)
    → leb c 0 && all (f c) queue_room ≡ eqb c 0 && all z queue_room
room_queue zero f z h = all_same (f 0) z queue_room (λ m l. h m)
room_queue (suc c) f z h = rw (lt-leb (suc c) 0 (omega arith), ne_eqb (suc c) 0 (λ e. omega arith)) refl

-- no in-queue has room where D is 0
no_depth : (edition m : ℕ) → depth_of edition 0 m ≡ 0
no_depth edition m = cond_ok (λ (d : ℕ). d ≡ 0) (eqb m 0 || restricted edition) 0 0 (λ e. refl) (λ e. refl)

room_in_queue : (edition S m : ℕ) (iq : InQueue) → in_queue_ok S (depth_of edition 0 m) 0 iq ≡ zero_in_queue iq
room_in_queue edition S m iq =
    ap (λ (d : ℕ). in_queue_ok S d 0 iq) (no_depth edition m)
    ∙ room_queue iq.count (λ c k. in_entry_ok S 0 c k (in_entry iq k)) _ (λ k. rw (le-ltb k 0 (omega arith)) refl)

pub room : (edition S : ℕ) (x : Site) → site_ok edition S 0 0 0 x ≡ zero_site x
room edition S x =
    ap₂ ◌&&◌
    (ap₂ ◌&&◌
    (ap₂ ◌&&◌
    (all_same _ _ input_count (λ i l. room_input edition S x.outputs i (in_at x i)))
    (all_same _ _ output_count (λ j l. room_output edition S j (out_at x j))))
    (room_queue x.outgoing.count (λ c m. out_entry_ok S 0 c m (out_entry x.outgoing m)) _
    (λ m. rw (le-ltb m 0 (omega arith)) refl)))
    (all_same _ _ in_queue_count (λ m l. room_in_queue edition S m (queue_at x m)))

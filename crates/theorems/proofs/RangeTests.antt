-- In range as facts of a place: what the tests of specs/Range.antt say of an input and of an output, and that the facts
-- give the tests back. Assumes nothing.
use Prim.Native.Nat.{ℕ, ◌^◌, ◌≤◌, ◌<◌}
use mathlib.Core.Path.{◌≡◌, refl, sym, ap, ◌∙◌}
use mathlib.Core.List.{List}
use mathlib.Core.Bool.{Bool, true, false, not, ◌&&◌}
use borrow.Author.Tests.{lt-ltb, le-leb, eq-eqb, ltb-true, leb-true, eqb-true, not-true}
use lib.Dec.{eqb, ltb, leb}
use lib.ListN.{length}
use Rattle.base.specs.Sizes.{input_count, output_count, split_port}
use Rattle.base.specs.Bools.{implies, pick, alike, clash, and, both, and3, both3, implies_at, implies_by, pick_at, pick_by}
use Rattle.base.specs.Bools.{alike_at, alike_by}
use Rattle.base.specs.All.{all, any, all_at, all_by, any_at}
use Rattle.sets.specs.Sets.{targets}
use Rattle.sets.proofs.Laws.{targets_at, targets_by}
use Rattle.theorems.specs.Names.{Terminator, t_none, t_end, t_abort, t_keep, Phase, Input, Output}
use Rattle.theorems.specs.Names.{Network}
use Rattle.model.specs.Types.{no_marks, out_of, mark, carries}
use Rattle.types.specs.Phases.{is_free, connected, splitting, branching, aborting, is_none, is_keep}
use Rattle.draws.specs.Draws.{restricted}
use Rattle.model.specs.Range.{tag_ok, any_mark, any_remote, zero_input, zero_output, fed_by, connection_in, input_ok}
use Rattle.model.specs.Range.{closing_ok, output_ok}
use Rattle.theorems.proofs.Invariant.{Fed}
use Rattle.theorems.proofs.ConnectionLaws.{free_is}

-- ---- the facts

-- a place in use: packet q below the counter k, and a target set z
pub record Tagged (n : Network) (k q z : ℕ) : Type 0 where
  pub under : q < k
  pub some : 0 < z
  pub within : z < 2 ^ n.sites

-- net-input i by what its state tells: whether it is free, has a connection, has connection 3 or 4, has connection 6, is abort or
-- fin-abort. packet q, set z, tries t, marks bs; o are the site's outputs
pub record InputAt (n : Network) (k i : ℕ) (free conn split part alone : Bool) (q z t : ℕ) (bs : List Bool) (o : ℕ → Output)
    : Type 0 where
  pub full : i < input_count → length bs ≡ output_count
  pub tries : t ≤ n.tries
  pub blank : free ≡ true → (q ≡ 0) × (z ≡ 0) × (t ≡ 0)
  pub tagged : free ≡ false → Tagged n k q z
  pub marks : any_mark bs ≡ conn
  pub fed : (j : ℕ) → j < output_count → mark bs j ≡ true → Fed i (o j)
  pub zeroth : split ≡ true → mark bs 0 ≡ true
  pub sole : alone ≡ true → (split ≡ true) × (any_remote bs ≡ false)
  pub parted : mark bs split_port ≡ part
  pub kind : pick (restricted n.edition) (not split) (not part) ≡ true

abbrev pub InputBy : Network → ℕ → ℕ → Phase → ℕ → ℕ → ℕ → List Bool → (ℕ → Output) → Type 0
InputBy n k i ph q z t bs o = InputAt n k i (is_free ph) (connected ph) (splitting ph) (branching ph) (aborting ph) q z t bs o

abbrev pub InputIn : Network → ℕ → ℕ → (ℕ → Output) → Input → Type 0
InputIn n k i o y = InputBy n k i y.phase y.packet y.set y.tries y.outputs o

pub record OutputIn (n : Network) (k j : ℕ) (o : Output) : Type 0 where
  pub tagged : o.used ≡ true → Tagged n k o.packet o.set
  pub from : o.used ≡ true → o.input < input_count
  pub keep : o.used ≡ true → is_keep o.terminator ≡ true → j ≡ 0
  pub closing : o.used ≡ true → o.closing ≡ true → closing_ok n.edition j o ≡ true
  pub split : o.used ≡ true → j ≡ split_port → restricted n.edition ≡ true
  pub blank : o.used ≡ false → zero_output o ≡ true

-- ---- tags

pub tag_at : (n : Network) (k q z : ℕ) → tag_ok n.sites k q z ≡ true → Tagged n k q z
tag_at n k q z h =
    let a = both (ltb q k) (targets n.sites z) h in
    let t = targets_at n.sites z a.1 in
    record { under = ltb-true q k a.0; some = t.0; within = t.1 }

pub tag_by : (n : Network) (k q z : ℕ) → Tagged n k q z → tag_ok n.sites k q z ≡ true
tag_by n k q z h =
    and (ltb q k) (targets n.sites z) (lt-ltb q k h.under) (targets_by n.sites z h.some h.within)

-- ---- outputs that an input feeds

none_is : (t : Terminator) → is_none t ≡ true → t ≡ t_none
none_is t_none h = refl
none_is t_end h = absurd (clash (sym h))
none_is t_abort h = absurd (clash (sym h))
none_is t_keep h = absurd (clash (sym h))

fed_at : (i : ℕ) (o : Output) → fed_by i o ≡ true → Fed i o
fed_at i o h =
    let a = both3 (carries o) (is_none o.terminator) (eqb o.input i) h in
    let b = both o.used (not o.closing) a.0 in
    record {
      used = b.0;
      from = eqb-true o.input i a.2;
      bare = none_is o.terminator a.1;
      stays = not-true o.closing b.1;
    }

fed_by_lem : (i : ℕ) (o : Output) → Fed i o → fed_by i o ≡ true
fed_by_lem i o h =
    and3 (carries o) (is_none o.terminator) (eqb o.input i)
    (and o.used (not o.closing) h.used (ap not h.stays)) (ap is_none h.bare)
    (eq-eqb o.input i h.from)

-- ---- marks

pub unmarked : (bs : List Bool) → any_mark bs ≡ false → (j : ℕ) → j < output_count → mark bs j ≡ true → ⊥
unmarked bs h j l m = clash (sym m ∙ any_at (mark bs) j output_count l h)

pub no_marks_lem : any_mark no_marks ≡ false
unfolding any
no_marks_lem = refl

-- ---- an input

module _ (n : Network) (k : ℕ) (os : List Output) (i : ℕ) (y : Input) where
  abbrev ph : Phase
  ph = y.phase

  abbrev bs : List Bool
  bs = y.outputs

  abbrev zeros : Bool
  zeros = is_free ph && eqb y.packet 0 && eqb y.set 0

  abbrev feeds : ℕ → Bool
  feeds j = implies (mark bs j) (fed_by i (out_of os j))

  abbrev numbers_ok : Bool
  numbers_ok = pick (is_free ph) (zero_input y) (tag_ok n.sites k y.packet y.set)

  abbrev marks_ok : Bool
  marks_ok = alike (any_mark bs) (connected ph)

  abbrev split_ok : Bool
  split_ok = implies (splitting ph) (mark bs 0)

  abbrev alone_ok : Bool
  alone_ok = implies (aborting ph) (splitting ph && not (any_remote bs))

  abbrev part_ok : Bool
  part_ok = alike (mark bs split_port) (branching ph)

  -- the tests before those of connections 3, 4 and 6
  abbrev place_ok : Bool
  place_ok = leb y.tries n.tries && numbers_ok && marks_ok && all feeds output_count

  pub input_at_lem : (i < input_count → length bs ≡ output_count) → input_ok n.edition n.sites n.tries k os i y ≡ true
      → InputIn n k i (out_of os) y
  input_at_lem full h =
      let p = both3 (place_ok && split_ok && alone_ok) part_ok (connection_in n.edition ph) h in
      let w = both3 place_ok split_ok alone_ok p.0 in
      let u = both (leb y.tries n.tries && numbers_ok && marks_ok) (all feeds output_count) w.0 in
      let v = both3 (leb y.tries n.tries) numbers_ok marks_ok u.0 in
      let c = pick_at (is_free ph) (zero_input y) (tag_ok n.sites k y.packet y.set) v.1 in
      record {
        full = full;
        tries = leb-true y.tries n.tries v.0;
        blank =
            λ e.
            let a = both3 zeros (not (any_mark bs)) (eqb y.tries 0) (c.0 e) in
            let b = both3 (is_free ph) (eqb y.packet 0) (eqb y.set 0) a.0 in
            (eqb-true y.packet 0 b.1, eqb-true y.set 0 b.2, eqb-true y.tries 0 a.2);
        tagged = λ e. tag_at n k y.packet y.set (c.1 e);
        marks = alike_at (any_mark bs) (connected ph) v.2;
        fed =
            λ j l m.
            fed_at i (out_of os j)
            (implies_at (mark bs j) (fed_by i (out_of os j)) (all_at feeds j output_count l u.1) m);
        zeroth = implies_at (splitting ph) (mark bs 0) w.1;
        sole =
            λ e.
            let a =
            both (splitting ph) (not (any_remote bs))
            (implies_at (aborting ph) (splitting ph && not (any_remote bs)) w.2 e) in
            (a.0, not-true (any_remote bs) a.1);
        parted = alike_at (mark bs split_port) (branching ph) p.1;
        kind = p.2;
      }

  pub input_by : InputIn n k i (out_of os) y → input_ok n.edition n.sites n.tries k os i y ≡ true
  input_by h =
      and3 (place_ok && split_ok && alone_ok) part_ok (connection_in n.edition ph)
      (and3 place_ok split_ok alone_ok
      (and (leb y.tries n.tries && numbers_ok && marks_ok) (all feeds output_count)
      (and3 (leb y.tries n.tries) numbers_ok marks_ok (le-leb y.tries n.tries h.tries)
      (pick_by (is_free ph) (zero_input y) (tag_ok n.sites k y.packet y.set)
      (λ e.
      let b = h.blank e in
      and3 zeros (not (any_mark bs)) (eqb y.tries 0)
      (and3 (is_free ph) (eqb y.packet 0) (eqb y.set 0) e (eq-eqb y.packet 0 b.0) (eq-eqb y.set 0 b.1))
      (ap not (h.marks ∙ ap connected (free_is ph e))) (eq-eqb y.tries 0 b.2))
      (λ e. tag_by n k y.packet y.set (h.tagged e)))
      (alike_by (any_mark bs) (connected ph) h.marks))
      (all_by feeds output_count
      (λ j l. implies_by (mark bs j) (fed_by i (out_of os j)) (λ m. fed_by_lem i (out_of os j) (h.fed j l m)))))
      (implies_by (splitting ph) (mark bs 0) h.zeroth)
      (implies_by (aborting ph) (splitting ph && not (any_remote bs))
      (λ e. let a = h.sole e in and (splitting ph) (not (any_remote bs)) a.0 (ap not a.1))))
      (alike_by (mark bs split_port) (branching ph) h.parted) h.kind

-- ---- an output

module _ (n : Network) (k j : ℕ) (o : Output) where
  abbrev tagged : Bool
  tagged = tag_ok n.sites k o.packet o.set

  abbrev keep_ok : Bool
  keep_ok = implies (is_keep o.terminator) (eqb j 0)

  abbrev held_ok : Bool
  held_ok = implies o.closing (closing_ok n.edition j o)

  abbrev edition_ok : Bool
  edition_ok = implies (eqb j split_port) (restricted n.edition)

  abbrev used_ok : Bool
  used_ok = tagged && ltb o.input input_count && keep_ok && held_ok && edition_ok

  pub output_at_lem : output_ok n.edition n.sites k j o ≡ true → OutputIn n k j o
  output_at_lem h =
      let c = pick_at o.used used_ok (zero_output o) h in
      let w : o.used ≡ true
      → (tagged && ltb o.input input_count && keep_ok ≡ true) × (held_ok ≡ true) × (edition_ok ≡ true) =
      λ e. both3 (tagged && ltb o.input input_count && keep_ok) held_ok edition_ok (c.0 e) in
      let u : o.used ≡ true → (tagged ≡ true) × (ltb o.input input_count ≡ true) × (keep_ok ≡ true) =
      λ e. both3 tagged (ltb o.input input_count) keep_ok (w e).0 in
      record {
        tagged = λ e. tag_at n k o.packet o.set (u e).0;
        from = λ e. ltb-true o.input input_count (u e).1;
        keep = λ e m. eqb-true j 0 (implies_at (is_keep o.terminator) (eqb j 0) (u e).2 m);
        closing = λ e. implies_at o.closing (closing_ok n.edition j o) (w e).1;
        split = λ e p. implies_at (eqb j split_port) (restricted n.edition) (w e).2 (eq-eqb j split_port p);
        blank = c.1;
      }

  pub output_by : OutputIn n k j o → output_ok n.edition n.sites k j o ≡ true
  output_by h =
      pick_by o.used used_ok (zero_output o)
      (λ e.
      and3 (tagged && ltb o.input input_count && keep_ok) held_ok edition_ok
      (and3 tagged (ltb o.input input_count) keep_ok (tag_by n k o.packet o.set (h.tagged e))
      (lt-ltb o.input input_count (h.from e))
      (implies_by (is_keep o.terminator) (eqb j 0) (λ m. eq-eqb j 0 (h.keep e m))))
      (implies_by o.closing (closing_ok n.edition j o) (h.closing e))
      (implies_by (eqb j split_port) (restricted n.edition) (λ p. h.split e (eqb-true j split_port p))))
      h.blank

-- The router's answer with the outputs in the way, and what a net-input passes on of it, as the branches of the code come to them. Assumes
-- nothing.
use mathlib.Core.Path.{◌≡◌, refl, sym, ap, ◌∙◌}
use mathlib.Core.Bool.{Bool, true, false, cond, not, ◌&&◌, ◌||◌}
use mathlib.Core.List.{List}
use Prim.Native.Nat.{ℕ, ◌*◌, ◌^◌, ◌≤◌, ◌<◌}
use native.Mathlib.Omega.{arith}
use lib.Dec.{eqb, ltb}
use lib.ListN.{length, get_or}
use Rattle.std.specs.Prelude.{None, Some, Result, Ok, Err}
use Rattle.std.specs.List.{list_any}
use Rattle.base.specs.Sizes.{output_count, sites_most}
use Rattle.base.specs.Bools.{either_way}
use Rattle.base.specs.All.{any}
use Rattle.base.specs.Rows.{spelled}
use Rattle.sets.specs.Sets.{has, only, plus, minus, lowest, those}
use Rattle.sets.proofs.Laws.{minus_le}
use Rattle.sets.proofs.LawsLowest.{lowest_lt}
use Rattle.sets.proofs.LawsThose.{those_same}
use Rattle.types.specs.Phases.{seeks}
use Rattle.types.specs.declared.Phase.TheVariants.{the_data as Phase, Free, Seek, Open, Wait, Done, Last, Abort as Aborted, FinAbort}
use Rattle.types.specs.declared.Input.{Input}
use Rattle.types.specs.declared.Output.{Output}
use Rattle.types.specs.declared.Network.{Network}
use Rattle.model.specs.Types.{out_of}
use Rattle.model.specs.Network.{list_of}
use Rattle.model.specs.Router.{Choice as ModelChoice, Chosen, Unserved, finds, route, ask, is_port, listed, ways}
use Rattle.model.specs.NetInput.{failed, passes_on}
use Rattle.model.proofs.Blocking.{some_other, asked_ways, ask_same, passes_idle, passes_same}
use Rattle.rules.specs.declared.router.Choice.{Choice}
use Rattle.rules.specs.Router.{of_choice, or_blocked, of_answered, seek_only, routes_only, proper, askable, answered_by, passed_of, passed_by}
use Rattle.rules.proofs.Asked.{asked, asked_whole, route_same}

-- ---- the ways

-- the method `contains` of a list of four ports
among : (a b c d : Bool) → (a || (b || (c || (d || false)))) ≡ (false || a || b || c || d)
among true b c d = refl
among false true c d = refl
among false false true d = refl
among false false false true = refl
among false false false false = refl

pub listed_by : (l : List ℕ) (j : ℕ) → length l ≡ 4 → list_any (λ y. eqb y j) l ≡ listed l j
unfolding any
listed_by l j e =
    ap (list_any (λ y. eqb y j)) (spelled 4 0 l e)
    ∙ among (eqb (get_or l 0 0) j) (eqb (get_or l 1 0) j) (eqb (get_or l 2 0) j) (eqb (get_or l 3 0) j)

module _ (n : Network) (s X : ℕ) where
  pub own_ways : eqb X (only s) ≡ true → those (ways n s X) output_count ≡ 1
  unfolding ways those plus has
  own_ways e = rw e refl

  pub other_ways : eqb X (only s) ≡ false
      → those (ways n s X) output_count ≡ those (λ j. is_port j && listed (list_of n s (lowest (minus s X))) j) output_count
  unfolding ways
  other_ways e =
      those_same (ways n s X) (λ j. is_port j && listed (list_of n s (lowest (minus s X))) j) output_count (λ j l. rw e refl)

  -- the lowest target other than s lies within the network
  pub other_within : n.sites ≤ sites_most → s < n.sites → 0 < X → X < 2 ^ n.sites → eqb X (only s) ≡ false
      → lowest (minus s X) < n.sites
  other_within few hs pos hX e =
      lowest_lt n.sites (minus s X) (omega arith) (some_other n s X (omega arith) hs pos hX e) (omega (arith, minus_le s X))

-- ---- the router's answer

choice_finds : (c : ModelChoice) (a : Choice) → of_choice c ≡ Some a → (finds c ≡ true) × ((B : ℕ) → Ok a ≡ or_blocked c B)
choice_finds (Chosen g sets) a e = (refl, λ B. cc)
choice_finds Unserved a e = absurd (cc)

none_finds : (c : ModelChoice) → of_choice c ≡ None → (finds c ≡ false) × ((B : ℕ) → or_blocked c B ≡ Err B)
none_finds (Chosen g sets) e = absurd (cc)
none_finds Unserved e = (refl, λ B. refl)

module _ (edition : ℕ) (l : List ℕ) (S s : ℕ) (os : List Output) (X : ℕ) where
  abbrev net : Network
  net = routes_only edition S l

  pub answer_found : askable l S s X ≡ true → (a : Choice) → of_choice (route net s os X) ≡ Some a
      → Ok a ≡ of_answered (answered_by edition l S s os X)
  unfolding ask
  answer_found h a e = rw h ((choice_finds (route net s os X) a e).1 (ask net s os X).blocking)

  pub answer_blocked : askable l S s X ≡ true → of_choice (route net s os X) ≡ None
      → (B : ℕ) → B ≡ those (ways net s X) output_count → Err B ≡ of_answered (answered_by edition l S s os X)
  unfolding ask
  answer_blocked h e B f =
      let w = asked l S s X h in
      let few = w.0.few in
      let c = none_finds (route net s os X) e in
      let g = asked_ways net s X (omega arith) w.0.site w.1.0 w.1.1 os c.0 in
      rw h (ap (λ (k : ℕ). Err k) (f ∙ sym g) ∙ sym (c.1 (ask net s os X).blocking))

  pub answer_none : askable l S s X ≡ false → Err 0 ≡ of_answered (answered_by edition l S s os X)
  answer_none a = rw a refl

-- ---- what a net-input passes on

pub unsought : (ph : Phase) → (ph ≡ Seek → ⊥) → seeks ph ≡ false
unsought Free h = refl
unsought Seek h = absurd (h refl)
unsought (Open c) h = refl
unsought (Wait c) h = refl
unsought (Done c r) h = refl
unsought (Last c r) h = refl
unsought (Aborted c) h = refl
unsought (FinAbort c r) h = refl

twice : (b : Bool) → not (not b) ≡ b
twice true = refl
twice false = refl

either_zero : (b : Bool) → ◌≡◌ {A = ℕ} (cond b 0 0) 0
either_zero true = refl
either_zero false = refl

choice_of : (n : Network) (s X : ℕ) (os : List Output) → (ask n s os X).found ≡ route n s os X
unfolding ask
choice_of n s X os = refl

-- by what the router answers
passed_on : (T : ℕ) (y : Input) (os : List Output) (c : ModelChoice) (B : ℕ)
    → passed_of T y os (or_blocked c B) ≡ cond (not (finds c) && (ltb y.tries T || (out_of os 0).used)) B 0
passed_on T y os (Chosen g sets) B = refl
passed_on T y os Unserved B = refl

module _ (edition : ℕ) (l : List ℕ) (S T s : ℕ) (y : Input) (os : List Output) where
  pub passes_unasked : seeks y.phase ≡ false → 0 ≡ passed_by edition l S T s y os
  passes_unasked e =
      rw (passes_idle (seek_only edition S T l) s y os e) (sym (either_zero (askable l S s y.set)))

  pub passes_asked : seeks y.phase ≡ true → (r : Result Choice ℕ) → r ≡ of_answered (answered_by edition l S s os y.set)
      → passed_of T y os r ≡ passed_by edition l S T s y os
  unfolding passes_on failed
  passes_asked e r f =
      let X = y.set in
      let n = seek_only edition S T l in
      let m = routes_only edition S l in
      let same : (us : List Output) → route n s us X ≡ route m s us X = λ us. route_same n m refl refl s us refl X in
      rw f
      (either_way (askable l S s X)
      (λ a.
      rw (
        a,
        e,
        same os,
        ask_same n m s X os same,
        passed_on T y os (ask m s os X).found (ask m s os X).blocking,
        choice_of m s X os,
        twice (out_of os 0).used,
      ) refl)
      (λ a. rw a (either_zero (ltb y.tries T || (out_of os 0).used))))

-- over the routes of a network
pub passes_whole : (n : Network) (s : ℕ) (y : Input) (os : List Output) → length n.routes ≡ sites_most * sites_most
    → passed_by n.edition n.routes n.sites n.tries s y os ≡ cond (proper n.sites s y.set) (passes_on n s y os) 0
passes_whole n s y os e =
    let m = seek_only n.edition n.sites n.tries n.routes in
    rw (
      asked_whole n.routes n.sites s y.set e,
      passes_same m n s y os refl (λ a us. route_same m n refl refl s us refl y.set),
    ) refl

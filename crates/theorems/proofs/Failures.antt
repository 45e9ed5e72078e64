-- Document 02, L7: why the router failed, in every edition. Of a RUN that is not refused, so from any state in range of a valid
-- network: at every failure it names an output, and nowhere else; output 0 only for a packet whose single target is its own site, the
-- split output never; exactly the outputs in use in the list of the lowest target other than s, or output 0. Assumes nothing beyond
-- each statement.
use Prim.Native.Nat.{ℕ, ◌+◌, ◌-◌, ◌^◌, ◌≤◌, ◌<◌}
use mathlib.Core.Path.{◌≡◌, refl, sym, ap, ◌∙◌}
use mathlib.Core.List.{List}
use mathlib.Core.Bool.{Bool, true, false, not, ◌&&◌, ◌||◌}
use mathlib.Core.Logic.{⊎_elim}
use native.Mathlib.Omega.{arith}
use borrow.Author.Tests.{eqb-true, eqb-false, lt-ltb, ltb-true, leb-true, le-leb, eq-eqb, not-true}
use lib.Dec.{eqb, ltb, leb}
use Rattle.base.specs.Sizes.{input_count, output_count, port_count, split_port}
use Rattle.base.specs.Bools.{implies, cond_ok, either_way, clash, both, both3, either, and}
use Rattle.base.specs.All.{all, all_at, any}
use Rattle.sets.specs.Sets.{has, only, minus, lowest, those}
use Rattle.sets.proofs.Laws.{has_empty, minus_le}
use Rattle.sets.proofs.LawsLowest.{lowest_lt, lowest_other}
use Rattle.sets.proofs.LawsThose.{those_in, those_some}
use Rattle.types.specs.Phases.{seeks}
use Rattle.theorems.specs.Names.{Phase, Seek, Input, Output, Site, State, Network, AfterRun}
use Rattle.model.specs.Types.{site_at, in_at}
use Rattle.model.specs.Network.{joined, route_of, list_of, choice, port_ok, differs, list_ok, route_ok, routes_ok, network_refusal}
use Rattle.model.specs.Router.{Choice, Chosen, Unserved, is_empty, finds, route, blocks, is_port, listed, ways}
use Rattle.model.specs.NetInput.{Turn, Stay, To, seek, in_state, net_input, failed, passes_on}
use Rattle.model.specs.Steps.{blocking_at}
use Rattle.model.specs.Events.{run_refusal, ran}
use Rattle.model.proofs.Blocking.{some_other, blocks_ways, asked_ways, seeks_at}
use Rattle.theorems.proofs.Networks.{valid_ok, passed}
use Rattle.theorems.proofs.Refusals.{run_passes}
use Rattle.theorems.proofs.Demand3.{seek_set}

-- ---- a failure: the net-input asks, and after its step it still seeks

abbrev phase_after : Input → Turn Input (List Output) → Phase
phase_after y Stay = y.phase
phase_after y (To z os) = z.phase

pub still_seeks : (n : Network) (s i : ℕ) (y : Input) (os : List Output) (isReady : ℕ → Bool) → y.phase ≡ Seek
    → seeks (phase_after y (net_input n s i y os isReady)) ≡ failed n s y os
unfolding in_state seek failed
still_seeks n s i y os isReady e =
    let w = route n s os y.set in
    ap (λ (ph : Phase). seeks (phase_after y (in_state n s i y os isReady ph))) e ∙ go w
    ∙ sym (ap (λ (ph : Phase). seeks ph && not (finds w) && (ltb y.tries n.tries || not (is_empty os 0))) e)
  where
    go : (c : Choice) → seeks (phase_after y (seek n.tries i y os c))
        ≡ (not (finds c) && (ltb y.tries n.tries || not (is_empty os 0)))
    go (Chosen c sets) = refl
    go Unserved =
        either_way (ltb y.tries n.tries) (λ a. rw a (ap seeks e))
        (λ a. either_way (is_empty os 0) (λ b. rw (a, b) refl) (λ b. rw (a, b) (ap seeks e)))

-- what a failure tells of the net-input and of the router
asked_at : (n : Network) (s : ℕ) (y : Input) (os : List Output) → failed n s y os ≡ true
    → (y.phase ≡ Seek) × (finds (route n s os y.set) ≡ false)
unfolding failed
asked_at n s y os h =
    let w = both3 (seeks y.phase) (not (finds (route n s os y.set))) _ h in
    (seeks_at y.phase w.0, not-true (finds (route n s os y.set)) w.1)

-- ---- a list of a valid network begins with a port

first_port_lem : (n : Network) (s t : ℕ) → routes_ok n ≡ true → s < n.sites → t < n.sites → (t ≡ s → ⊥)
    → let j = choice (list_of n s t) 0 in (1 ≤ j) × (j ≤ port_count)
first_port_lem n s t h hs ht ne =
    ⊎_elim (λ a. absurd (ne (sym (eqb-true s t (both (eqb s t) (eqb (route_of n s t) 0) a).0))))
    (λ a. ports (both (not (eqb s t)) (list_ok n s l) a).1)
    (either (eqb s t && eqb (route_of n s t) 0) (not (eqb s t) && list_ok n s l)
    (all_at (route_ok n s) t n.sites ht (all_at (λ u. all (route_ok n u) n.sites) s n.sites hs h)))
  where
    l : List ℕ
    l = list_of n s t

    ports : list_ok n s l ≡ true → (1 ≤ choice l 0) × (choice l 0 ≤ port_count)
    ports a =
        let j = choice l 0 in
        let some = not (eqb j 0) in
        let joins = all (λ m. port_ok n s (choice l m)) port_count in
        let ends = all (λ m. implies (eqb (choice l m) 0) (eqb (choice l (m + 1)) 0)) (port_count - 1) in
        let w = both some joins (both (some && joins) ends (both (some && joins && ends) (all (differs l) port_count) a).0).0 in
        let ne = eqb-false j 0 (not-true (eqb j 0) w.0) in
        ⊎_elim (λ e. absurd (ne (eqb-true j 0 e)))
        (λ e. (omega arith, leb-true j port_count (both (leb j port_count) (joined n s j) e).0))
        (either (eqb j 0) (leb j port_count && joined n s j)
        (all_at (λ m. port_ok n s (choice l m)) 0 port_count (omega arith) w.1))

first_listed : (l : List ℕ) → listed l (choice l 0) ≡ true
unfolding any
first_listed l = rw (eq-eqb (choice l 0) (choice l 0) refl) refl

-- ---- the outputs in the way: never the split output; output 0 for X = {s} alone

pub ways_split : (n : Network) (s X : ℕ) → ways n s X split_port ≡ false
unfolding ways
ways_split n s X = cond_ok (λ (b : Bool). b ≡ false) (eqb X (only s)) _ _ (λ e. refl) (λ e. refl)

pub ways_zero : (n : Network) (s X : ℕ) → ways n s X 0 ≡ true → X ≡ only s
unfolding ways
ways_zero n s X =
    cond_ok (λ (b : Bool). b ≡ true → X ≡ only s) (eqb X (only s)) _ _ (λ e h. eqb-true X (only s) e) (λ e h. absurd (clash (sym h)))

-- there is one for every target set of a valid network
some_way : (n : Network) → network_refusal n ≡ 0 → (s X : ℕ) → s < n.sites → 0 < X → X < 2 ^ n.sites
    → those (ways n s X) output_count ≡ 0 → ⊥
unfolding ways
some_way n val s X hs pos hX =
    let few = (valid_ok n val).few in
    either_way (eqb X (only s)) (λ e. those_some (ways n s X) output_count 0 (omega arith) (rw e refl))
    (λ e.
    let Y = minus s X in
    let t = lowest Y in
    let some = some_other n s X (omega arith) hs pos hX e in
    let within : Y < 2 ^ n.sites = omega (arith, minus_le s X) in
    let low = lowest_lt n.sites Y (omega arith) some within in
    let l = list_of n s t in
    let j = choice l 0 in
    let port = first_port_lem n s t (passed n val).2 hs low (lowest_other n.sites s X (omega arith) some within) in
    those_some (ways n s X) output_count j (omega (arith, port.1))
    (rw e (
    and (is_port j) (listed l j) (and (leb 1 j) (leb j port_count) (le-leb 1 j port.0) (le-leb j port_count port.1))
    (first_listed l))))

-- ---- RUN

module _ (n : Network) (st : State) (s code : ℕ) where
  abbrev own : Site
  own = site_at st.sites s

  -- the net-input that this code names, and the outputs beside it
  abbrev asker : Input
  asker = in_at own code

  -- code is that of a net-input, and this RUN of it is a failure
  abbrev pub Fails : Type 0
  Fails = (code < input_count) × (failed n s asker own.outputs ≡ true)

  named : run_refusal n st s code ≡ 0 → (ran n st s code).blocking ≡ blocking_at n s own code
  unfolding ran
  named h = rw h refl

  module _ (passes : run_refusal n st s code ≡ 0) (fails : Fails) where
    ways_named : (ran n st s code).blocking ≡ those (ways n s asker.set) output_count
    unfolding blocking_at passes_on
    ways_named =
        let w = run_passes n st s code passes in
        let a = asked_at n s asker own.outputs fails.1 in
        let few = (valid_ok n w.network).few in
        let X = seek_set n st s few w.range w.site code fails.0 a.0 in
        let set = asked_ways n s asker.set (omega arith) w.site X.0 X.1 own.outputs a.1 in
        named passes ∙ rw (lt-ltb code 5 fails.0, fails.1) set

    -- "at every failure the set is not empty"
    pub blamed : (ran n st s code).blocking ≡ 0 → ⊥
    blamed e =
        let w = run_passes n st s code passes in
        let a = asked_at n s asker own.outputs fails.1 in
        let X = seek_set n st s (valid_ok n w.network).few w.range w.site code fails.0 a.0 in
        some_way n w.network s asker.set w.site X.0 X.1 (sym ways_named ∙ e)

    -- exactly: the outputs in use in the list of the lowest target other than s, or output 0 for X = {s}
    pub blamed_exactly : (j : ℕ) → j < output_count
        → has j (ran n st s code).blocking ≡ (not (is_empty own.outputs j) && ways n s asker.set j)
    unfolding blocks
    blamed_exactly j hj =
        let w = run_passes n st s code passes in
        let os = own.outputs in
        let a = asked_at n s asker os fails.1 in
        let few = (valid_ok n w.network).few in
        let X = seek_set n st s few w.range w.site code fails.0 a.0 in
        let same = blocks_ways n s asker.set (omega arith) w.site X.0 X.1 os a.1 j in
        ap (has j) ways_named ∙ those_in (ways n s asker.set) output_count j hj
        ∙ either_way (is_empty os j) (λ e. rw e (sym same ∙ rw e refl)) (λ e. rw e refl)

  -- "empty where the router was not asked or did not fail", or where RUN is refused
  pub blameless : (Fails → ⊥) → (ran n st s code).blocking ≡ 0
  unfolding ran blocking_at passes_on
  blameless no-failure =
      cond_ok (λ (w : AfterRun). w.blocking ≡ 0) (eqb (run_refusal n st s code) 0) _ _
      (λ h.
      cond_ok (λ (B : ℕ). B ≡ 0) (ltb code 5) _ 0
      (λ c. cond_ok (λ (B : ℕ). B ≡ 0) (failed n s asker own.outputs) _ 0 (λ f. absurd (no-failure (ltb-true code 5 c, f))) (λ f. refl))
      (λ c. refl))
      (λ h. refl)

  refused : eqb (run_refusal n st s code) 0 ≡ false → (ran n st s code).blocking ≡ 0
  unfolding ran
  refused h = rw h refl

  -- an output that is named is named at a failure, and is one of the ways
  way_named : (j : ℕ) → j < output_count → has j (ran n st s code).blocking ≡ true → Fails × (ways n s asker.set j ≡ true)
  way_named j hj h = go (ltb code 5) refl (failed n s asker own.outputs) refl
    where
      empty : (ran n st s code).blocking ≡ 0 → ⊥
      empty e = clash (sym h ∙ ap (has j) e ∙ has_empty j)

      go : (b : Bool) → ltb code 5 ≡ b → (f : Bool) → failed n s asker own.outputs ≡ f → Fails × (ways n s asker.set j ≡ true)
      go false c f e = absurd (empty (blameless (λ w. clash (sym (lt-ltb code 5 w.0) ∙ c))))
      go true c false e = absurd (empty (blameless (λ w. clash (sym w.1 ∙ e))))
      go true c true e =
          let fails : Fails = (ltb-true code 5 c, e) in
          either_way (eqb (run_refusal n st s code) 0)
          (λ p.
          let named = ways_named (eqb-true (run_refusal n st s code) 0 p) fails in
          (fails, sym (those_in (ways n s asker.set) output_count j hj) ∙ sym (ap (has j) named) ∙ h))
          (λ p. absurd (empty (refused p)))

  -- "output 0 stands in it only for a packet whose single target is its own site"
  pub zero_alone : has 0 (ran n st s code).blocking ≡ true → Fails × (asker.set ≡ only s)
  zero_alone h = let w = way_named 0 (omega arith) h in (w.0, ways_zero n s asker.set w.1)

  -- the split output never does
  pub split_never : has split_port (ran n st s code).blocking ≡ false
  split_never = go (has split_port (ran n st s code).blocking) refl
    where
      go : (b : Bool) → has split_port (ran n st s code).blocking ≡ b → b ≡ false
      go true h = absurd (clash (sym (way_named split_port (omega arith) h).1 ∙ ways_split n s asker.set))
      go false h = refl

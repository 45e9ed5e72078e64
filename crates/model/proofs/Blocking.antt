-- L7: what stands in the way of a packet for which the router finds nothing: output 0 where X is {s}, else the ports in the list of the
-- lowest target other than s. Assumes a target set of at most 64 sites; the network and the outputs may be any.
use Prim.Native.Nat.{ℕ, zero, suc, ◌+◌, ◌^◌, ◌≤◌, ◌<◌}
use mathlib.Core.Path.{◌≡◌, refl, sym, ap, ap₂, ◌∙◌}
use mathlib.Core.List.{List, [], ◌∷◌}
use mathlib.Core.Bool.{Bool, true, false, cond, not, ◌&&◌, ◌||◌, or-true, and-false}
use native.Mathlib.Decide.{ℕ_discrete}
use native.Mathlib.Omega.{arith}
use borrow.Author.Tests.{eqb-true, eqb-false, eq-eqb, ne_eqb, lt-ltb}
use lib.Dec.{eqb}
use lib.Seq.{get_or-set_other}
use Rattle.base.specs.Sizes.{input_count, output_count, split_port, set_bits}
use Rattle.base.specs.Bools.{cond_ok, either_way, clash, neither}
use Rattle.base.specs.All.{any}
use Rattle.sets.specs.Sets.{has, only, minus, size, lowest, those}
use Rattle.sets.proofs.Laws.{minus_in, minus_out, minus_le, has_le}
use Rattle.sets.proofs.LawsLowest.{lowest_has, lowest_below, lowest_lt}
use Rattle.sets.proofs.LawsSize.{size_minus}
use Rattle.sets.proofs.LawsThose.{those_same}
use Rattle.draws.specs.Draws.{restricted}
use Rattle.model.specs.Types.{Connection, Unicast, Passthru, Phase, Free, Seek, Open, Wait, Done, Last, Aborted, FinAbort}
use Rattle.model.specs.Types.{Input, Output, Site, Network, no_output, out_of, in_at}
use Rattle.types.specs.Numbers.{state_number}
use Rattle.model.specs.Network.{choice, list_of, choices, route_of}
use Rattle.model.specs.Router.{Choice, Chosen, Unserved, Missing, unchosen, is_chosen, is_empty, serves, first_port}
use Rattle.model.specs.Router.{first_empty, one_output, on_port, gather_from, gather, spread, parted, branch, or_else, route}
use Rattle.model.specs.Router.{finds, emptied, blocks, ask, listed, is_port, ways}
use Rattle.types.specs.Phases.{seeks}
use Rattle.model.specs.NetInput.{failed, passes_on}
use Rattle.model.specs.Steps.{blocking_at}

-- ---- what is empty where output j is emptied: j, and what was

emptied_own : (os : List Output) (j : ℕ) → out_of (emptied os j) j ≡ no_output
emptied_own [] j = refl
emptied_own (o ∷ os) zero = refl
emptied_own (o ∷ os) (suc j) = emptied_own os j

emptied_at : (os : List Output) (j k : ℕ) → is_empty (emptied os j) k ≡ (eqb k j || is_empty os k)
emptied_at os j k = go (ℕ_discrete k j)
  where
    go : Dec (k ≡ j) → is_empty (emptied os j) k ≡ (eqb k j || is_empty os k)
    go (yes e) = rw (e, emptied_own os j, eq-eqb j j refl) refl
    go (no e) = rw (get_or-set_other os j k no_output no_output e, ne_eqb k j e) refl

-- ---- whether there is a choice

finds_on : (c : Connection) (X j : ℕ) → finds (on_port c X j) ≡ not (eqb j 0)
finds_on c X j = cond_ok (λ (r : Choice). finds r ≡ not (eqb j 0)) (eqb j 0) Unserved (one_output c X j) (λ e. rw e refl) (λ e. rw e refl)

finds_branch : (s X j : ℕ) (os : List Output) → finds (branch s os X j) ≡ not (eqb j 0)
unfolding branch
finds_branch s X j os =
    let P : Choice → Type 0 = λ r. finds r ≡ not (eqb j 0) in
    cond_ok P (has s X && is_empty os split_port) (parted s X j) (on_port Passthru X j)
    (λ a. cond_ok P (eqb j 0) Unserved _ (λ e. rw e refl) (λ e. rw e refl)) (λ a. finds_on Passthru X j)

finds_or : (a b : Choice) → finds (or_else a b) ≡ (finds a || finds b)
unfolding or_else
finds_or (Chosen c sets) b = refl
finds_or Unserved b = refl

-- the targets of Y are not gathered where no output in the list of the lowest is empty
module _ (n : Network) (s : ℕ) (os : List Output) (Y : ℕ) (none : first_empty os (list_of n s (lowest Y)) ≡ 0)
    (own : has (lowest Y) Y ≡ true) where
  gather_none : (more t : ℕ) → t ≤ lowest Y → lowest Y < t + more → gather_from n s os Y more t unchosen ≡ Missing
  unfolding gather_from
  gather_none zero t a b = absurd (omega arith)
  gather_none (suc more) t a b = go (ℕ_discrete t (lowest Y)) (gather_none more (t + 1))
    where
      go : Dec (t ≡ lowest Y)
          → (t + 1 ≤ lowest Y → lowest Y < t + 1 + more → gather_from n s os Y more (t + 1) unchosen ≡ Missing)
          → gather_from n s os Y (suc more) t unchosen ≡ Missing
      go (yes e) ih = rw (e, own, none) refl
      go (no e) ih = rw (lowest_below Y t (omega arith)) (ih (omega arith) (omega arith))

-- ---- a target set X of the network's sites

-- a port in the list is empty
abbrev reaches : List Output → List ℕ → Bool
reaches os l = not (eqb (first_empty os l) 0)

module _ (n : Network) (s X : ℕ) (few : n.sites ≤ set_bits) (hs : s < n.sites) (pos : 0 < X) (hX : X < 2 ^ n.sites) where
  -- another target than s
  abbrev other : ℕ
  other = lowest (minus s X)

  finds_own : eqb X (only s) ≡ true → (os : List Output) → finds (route n s os X) ≡ is_empty os 0
  unfolding route
  finds_own e os =
      rw e (
      cond_ok (λ (r : Choice). finds r ≡ is_empty os 0) (is_empty os 0) _ Unserved (λ a. sym a) (λ a. sym a))

  pub some_other : eqb X (only s) ≡ false → 0 < minus s X
  some_other e = go (has s X) refl
    where
      go : (b : Bool) → has s X ≡ b → 0 < minus s X
      go true h = omega (arith, minus_in s X h, has_le s X h, eqb-false X (only s) e)
      go false h = omega (arith, minus_out s X h)

  within : minus s X < 2 ^ n.sites
  within = omega (arith, minus_le s X)

  single_other : eqb X (only s) ≡ false → eqb (size X) 1 ≡ true → minus s X ≡ X
  single_other e f = go (has s X) refl
    where
      go : (b : Bool) → has s X ≡ b → minus s X ≡ X
      go true h =
          let Y = minus s X in
          let m = lowest_has n.sites Y few (some_other e) within in
          let low = lowest_lt n.sites Y few (some_other e) within in
          absurd (
          omega (arith, eqb-true (size X) 1 f, size_minus set_bits s X (omega arith) h, size_minus set_bits (lowest Y) Y (omega arith) m))
      go false h = minus_out s X h

  finds_other : eqb X (only s) ≡ false → (os : List Output) → finds (route n s os X) ≡ reaches os (list_of n s other)
  unfolding route gather spread
  finds_other e os =
      either_way (eqb (size X) 1)
      (λ f. rw (e, f, single_other e f) (finds_on Unicast X (first_empty os (list_of n s (lowest X)))))
      (λ f.
      either_way (restricted n.edition) (λ r. rw (e, f, r) (finds_branch s X (first_empty os (list_of n s other)) os))
      (λ r. rw (e, f, r) (finds_or _ _ ∙ ap (λ b. finds spreads || b) (finds_on Passthru X port) ∙ go (eqb port 0) refl)))
    where
      port : ℕ
      port = first_empty os (list_of n s other)

      spreads : Choice
      spreads = cond (is_empty os 0) (spread s X (gather_from n s os (minus s X) n.sites 0 unchosen)) Unserved

      go : (b : Bool) → eqb port 0 ≡ b → (finds spreads || not b) ≡ not b
      go true a =
          let Y = minus s X in
          let m = gather_none n s os Y (eqb-true port 0 a) (lowest_has n.sites Y few (some_other e) within) n.sites 0
          (omega arith) (omega (arith, lowest_lt n.sites Y few (some_other e) within)) in
          rw m (cond_ok (λ (r : Choice). (finds r || false) ≡ false) (is_empty os 0) Unserved Unserved (λ c. refl) (λ c. refl))
      go false a = or-true (finds spreads)

-- ---- the ports of a list

-- ok holds of one of them
unfoldable one : (ℕ → Bool) → List ℕ → Bool
one ok [] = false
one ok (p ∷ ps) = ok p || one ok ps

-- a port is found exactly where one is there
first_one : (ok : ℕ → Bool) → ok 0 ≡ false → (l : List ℕ) → not (eqb (first_port ok l) 0) ≡ one ok l
unfolding first_port one
first_one ok z [] = refl
first_one ok z (p ∷ ps) =
    either_way (ok p) (λ e. rw e (ap not (ne_eqb p 0 (λ a. clash (sym e ∙ ap ok a ∙ z))))) (λ e. rw e (first_one ok z ps))

-- none of ok, and where ok does not hold the one test says what the other does
one_by : (ok f g : ℕ → Bool) → ((p : ℕ) → ok p ≡ false → f p ≡ g p) → (l : List ℕ) → one ok l ≡ false → one f l ≡ one g l
unfolding one
one_by ok f g h [] e = refl
one_by ok f g h (p ∷ ps) e =
    let w = neither (ok p) (one ok ps) e in
    ap₂ ◌||◌ (h p w.0) (one_by ok f g h ps w.1)

one_and : (b : Bool) (f : ℕ → Bool) (l : List ℕ) → one (λ p. b && f p) l ≡ (b && one f l)
unfolding one
one_and true f [] = refl
one_and true f (p ∷ ps) = ap (λ (a : Bool). f p || a) (one_and true f ps)
one_and false f [] = refl
one_and false f (p ∷ ps) = one_and false f ps

-- the four ports of a route
one_listed : (route j : ℕ) → one (λ p. eqb p j) (choices route) ≡ listed (choices route) j
unfolding one any
one_listed route j = go (eqb (choice l 0) j) (eqb (choice l 1) j) (eqb (choice l 2) j) (eqb (choice l 3) j)
  where
    l : List ℕ
    l = choices route

    go : (a b c d : Bool) → (a || (b || (c || (d || false)))) ≡ ((((false || a) || b) || c) || d)
    go true b c d = refl
    go false true c d = refl
    go false false true d = refl
    go false false false true = refl
    go false false false false = refl

-- with j emptied a port serves where it did, and port j
serves_emptied : (os : List Output) (j p : ℕ) → serves os unchosen p ≡ false
    → serves (emptied os j) unchosen p ≡ (is_port j && eqb p j)
serves_emptied os j p h = rw (emptied_at os j p) (go (ℕ_discrete p j))
  where
    chosen : Bool
    chosen = is_chosen unchosen p

    go : Dec (p ≡ j) → (is_port p && ((eqb p j || is_empty os p) || chosen)) ≡ (is_port j && eqb p j)
    go (yes e) = rw (e, eq-eqb j j refl) refl
    go (no e) = rw (ne_eqb p j e) (h ∙ sym (and-false (is_port j)))

reaches_emptied : (os : List Output) (route j : ℕ) → reaches os (choices route) ≡ false
    → reaches (emptied os j) (choices route) ≡ (is_port j && listed (choices route) j)
reaches_emptied os route j h =
    let l = choices route in
    first_one (serves (emptied os j) unchosen) refl l
    ∙ one_by (serves os unchosen) (serves (emptied os j) unchosen) (λ p. is_port j && eqb p j) (serves_emptied os j) l
    (sym (first_one (serves os unchosen) refl l) ∙ h)
    ∙ one_and (is_port j) (λ p. eqb p j) l ∙ ap (λ (b : Bool). is_port j && b) (one_listed route j)

-- an empty port is not in the list
empty_unlisted : (os : List Output) (route j : ℕ) → is_empty os j ≡ true → reaches os (choices route) ≡ false
    → (is_port j && listed (choices route) j) ≡ false
empty_unlisted os route j a h =
    let l = choices route in
    let none : one (serves os unchosen) l ≡ false = sym (first_one (serves os unchosen) refl l) ∙ h in
    sym (
    sym none ∙ one_by (serves os unchosen) (serves os unchosen) (λ p. is_port j && eqb p j) (λ p e. go p e (ℕ_discrete p j)) l none
    ∙ one_and (is_port j) (λ p. eqb p j) l ∙ ap (λ (b : Bool). is_port j && b) (one_listed route j))
  where
    go : (p : ℕ) → serves os unchosen p ≡ false → Dec (p ≡ j) → serves os unchosen p ≡ (is_port j && eqb p j)
    go p e (yes q) = rw (q, a, eq-eqb j j refl) refl
    go p e (no q) = rw (ne_eqb p j q) (e ∙ sym (and-false (is_port j)))

-- ---- the outputs in the way

module _ (n : Network) (s X : ℕ) (few : n.sites ≤ set_bits) (hs : s < n.sites) (pos : 0 < X) (hX : X < 2 ^ n.sites)
    (os : List Output) (fails : finds (route n s os X) ≡ false) where
  pub blocks_ways : (j : ℕ) → blocks n s os X j ≡ ways n s X j
  unfolding blocks ways
  blocks_ways j = either_way (eqb X (only s)) own beside
    where
      own : eqb X (only s) ≡ true
          → (not (is_empty os j) && finds (route n s (emptied os j) X))
          ≡ cond (eqb X (only s)) (eqb j 0) (is_port j && listed (list_of n s (lowest (minus s X))) j)
      own e =
          let zero-busy : is_empty os 0 ≡ false = sym (finds_own n s X few hs pos hX e os) ∙ fails in
          rw (finds_own n s X few hs pos hX e (emptied os j), emptied_at os j 0, zero-busy, e) (go (ℕ_discrete j 0) zero-busy)
        where
          go : Dec (j ≡ 0) → is_empty os 0 ≡ false → (not (is_empty os j) && (eqb 0 j || false)) ≡ eqb j 0
          go (yes q) b = rw (q, b) refl
          go (no q) b = rw (ne_eqb j 0 q, ne_eqb 0 j (λ z. q (sym z))) (and-false (not (is_empty os j)))

      beside : eqb X (only s) ≡ false
          → (not (is_empty os j) && finds (route n s (emptied os j) X))
          ≡ cond (eqb X (only s)) (eqb j 0) (is_port j && listed (list_of n s (lowest (minus s X))) j)
      beside e =
          let t = lowest (minus s X) in
          let busy : reaches os (list_of n s t) ≡ false = sym (finds_other n s X few hs pos hX e os) ∙ fails in
          rw (finds_other n s X few hs pos hX e (emptied os j), reaches_emptied os (route_of n s t) j busy, e)
          (go (is_empty os j) refl busy)
        where
          go : (b : Bool) → is_empty os j ≡ b → reaches os (list_of n s (lowest (minus s X))) ≡ false
              → (not b && (is_port j && listed (list_of n s (lowest (minus s X))) j))
              ≡ (is_port j && listed (list_of n s (lowest (minus s X))) j)
          go true a busy = sym (empty_unlisted os (route_of n s (lowest (minus s X))) j a busy)
          go false a busy = refl

  pub asked_ways : (ask n s os X).blocking ≡ those (ways n s X) output_count
  unfolding ask
  asked_ways = rw fails (those_same (blocks n s os X) (ways n s X) output_count (λ j l. blocks_ways j))

-- ---- the state in which a net-input asks

pub seeks_at : (ph : Phase) → seeks ph ≡ true → ph ≡ Seek
seeks_at Free e = absurd (clash (sym e))
seeks_at Seek e = refl
seeks_at (Open c) e = absurd (clash (sym e))
seeks_at (Wait c) e = absurd (clash (sym e))
seeks_at (Done c r) e = absurd (clash (sym e))
seeks_at (Last c r) e = absurd (clash (sym e))
seeks_at (Aborted c) e = absurd (clash (sym e))
seeks_at (FinAbort c r) e = absurd (clash (sym e))

pub seeks_number : (ph : Phase) → eqb (state_number ph) 1 ≡ seeks ph
seeks_number Free = refl
seeks_number Seek = refl
seeks_number (Open c) = refl
seeks_number (Wait c) = refl
seeks_number (Done c r) = refl
seeks_number (Last c r) = refl
seeks_number (Aborted c) = refl
seeks_number (FinAbort c r) = refl

-- in any other nothing is passed on
pub passes_idle : (n : Network) (s : ℕ) (y : Input) (os : List Output) → seeks y.phase ≡ false → passes_on n s y os ≡ 0
unfolding passes_on failed
passes_idle n s y os e = rw e refl

-- what code below 5 names, where the test b holds of a net-input that asks
pub passes_where : (n : Network) (s : ℕ) (x : Site) (code : ℕ) (b : Bool) → code < input_count
    → (seeks (in_at x code).phase ≡ true → b ≡ true) → cond b (passes_on n s (in_at x code) x.outputs) 0 ≡ blocking_at n s x code
unfolding blocking_at
passes_where n s x code b hc asks =
    let y = in_at x code in
    rw (lt-ltb code 5 hc)
    (either_way (seeks y.phase) (λ e. rw (asks e) refl)
    (λ e.
    rw (passes_idle n s y x.outputs e) (cond_ok (λ (B : ℕ). B ≡ 0) b 0 0 (λ a. refl) (λ a. refl))))

-- ---- two networks whose routers say the same: the same answer, and with the same tries the same set is passed on

pub ask_same : (n m : Network) (s X : ℕ) (os : List Output) → ((us : List Output) → route n s us X ≡ route m s us X)
    → ask n s os X ≡ ask m s os X
unfolding ask blocks
ask_same n m s X os same =
    let f = those_same (λ j. not (is_empty os j) && finds (route n s (emptied os j) X))
    (λ j. not (is_empty os j) && finds (route m s (emptied os j) X)) output_count
    (λ j l. ap (λ (c : Choice). not (is_empty os j) && finds c) (same (emptied os j))) in
    rw (same os, f) refl

pub passes_same : (n m : Network) (s : ℕ) (y : Input) (os : List Output) → n.tries ≡ m.tries
    → (seeks y.phase ≡ true → (us : List Output) → route n s us y.set ≡ route m s us y.set)
    → passes_on n s y os ≡ passes_on m s y os
unfolding passes_on failed
passes_same n m s y os e same =
    either_way (seeks y.phase) (λ a. rw (same a os, ask_same n m s y.set os (same a), e) refl) (λ a. rw a refl)

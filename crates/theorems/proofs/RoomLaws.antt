-- Two networks of the same sizes and edition, stored in any versions, whose channels and routes agree within S sites: the
-- tests of both say the same, and RUN decides and writes the same. Assumes for RUN a site of the network, and sets within its sites.
use Prim.Native.Nat.{ℕ, zero, suc, ◌+◌, ◌-◌, ◌*◌, ◌^◌, ◌≤◌, ◌<◌}
use mathlib.Core.Path.{◌≡◌, refl, sym, ap, ap₂, ◌∙◌, fun_ext}
use mathlib.Core.List.{List}
use mathlib.Core.Bool.{Bool, true, false, cond, not, ◌&&◌, ◌||◌, and-false}
use native.Mathlib.Nat.{le_refl}
use native.Mathlib.Omega.{arith}
use borrow.Author.Tests.{ltb-true, leb-true, eqb-false}
use lib.Dec.{eqb, ltb, leb}
use lib.ListN.{get_or}
use Rattle.base.specs.Sizes.{sites_most, input_count, port_count, no_channel}
use Rattle.base.specs.Bools.{cond_ok, either_way}
use Rattle.base.specs.All.{all, all_same}
use Rattle.base.specs.Flat.{place_below}
use Rattle.sets.specs.Sets.{minus, size, lowest}
use Rattle.sets.proofs.Laws.{minus_le}
use Rattle.sets.proofs.LawsLowest.{lowest_lt}
use Rattle.sets.proofs.LawsSize.{minus_pos, size_within}
use Rattle.theorems.specs.Names.{Phase, Free, Seek, Open, Wait, Done, Last, Aborted, FinAbort}
use Rattle.theorems.specs.Names.{Input, Output, Site, Network}
use Rattle.model.specs.Types.{no_input, site_at, in_at, out_of, out_at, queue_at, queue_port, is_local, carries, with_out_queue, set_in}
use Rattle.model.specs.Types.{set_out, set_queue}
use Rattle.model.specs.Network.{channel_at, channel, joined, route_of, choices, list_of, channel_ok, channels_ok}
use Rattle.model.specs.Network.{choice, port_ok, list_ok, route_ok, routes_ok, joins_then}
use Rattle.types.specs.Phases.{listening}
use Rattle.model.specs.Router.{serves, first_port, gets, unchosen, gather_from, gather, route}
use Rattle.model.specs.NetInput.{Turn, Stay, To, hears, ready, in_state, net_input}
use Rattle.model.specs.Places.{local_output, channel_output, out_queue, Work, Rest, Cleared, Service, operator, timeout}
use Rattle.model.specs.Steps.{far_end, Act, Idle, Own, Serve, Pass, own_turn, pass_turn, work_done, operator_at, set_both, local_at}
use Rattle.model.specs.Steps.{net_output, act, ends, patch, run, blocking_at}
use Rattle.model.proofs.Blocking.{passes_same, seeks_at}

-- ---- what is passed on goes over one of the four channels

abbrev OnPort : Act → Type 0
OnPort Idle = Unit {0}
OnPort (Own x) = Unit {0}
OnPort (Serve x q) = Unit {0}
OnPort (Pass x zero y) = ⊥
OnPort (Pass x (suc j) y) = j < port_count

own_on : {A B : Type 0} (site : A → B → Site) (r : Turn A B) → OnPort (own_turn site r)
own_on site Stay = tt
own_on site (To a b) = tt

pass_on : (x : Site) (j : ℕ) → j < port_count → (r : Turn Output Input) → OnPort (pass_turn x (suc j) r)
pass_on x j hj Stay = tt
pass_on x j hj (To o y) = hj

work_on : (x : Site) (m : ℕ) (w : Work) → OnPort (work_done x m w)
work_on x m Rest = tt
work_on x m (Cleared iq oq) = tt
work_on x m (Service iq oq q) = tt

-- in-queue m: its output, and its operator
local_on : (D : ℕ) (x : Site) (m : ℕ) → OnPort (local_at D x m)
local_on D x m =
    own_on (λ o iq. set_out (set_queue x m iq) (queue_port m) o) (local_output D (out_at x (queue_port m)) (queue_at x m))

operator_on : (D s : ℕ) (x : Site) (m : ℕ) → OnPort (operator_at D s x m)
operator_on D s x m = work_on x m (operator D s (queue_at x m) x.outgoing)

output_on : (n : Network) (s : ℕ) (x : Site) (far : ℕ → Input) (j : ℕ) → j ≤ port_count → OnPort (net_output n s x far j)
unfolding net_output
output_on n s x far zero hj = local_on n.depth x 0
output_on n s x far (suc j) hj = pass_on x j hj (channel_output n.edition (joined n s (suc j)) (out_at x (suc j)) (far (suc j)))

act_on : (n : Network) (s : ℕ) (x : Site) (far : ℕ → Input) (code : ℕ) → OnPort (act n s x far code)
unfolding act
act_on n s x far code =
    let i = (out_at x 0).input in
    cond_ok OnPort (ltb code 5) _ _
    (λ a. own_on (set_both x code) (net_input n s code (in_at x code) x.outputs (ready (joined n s) far x.outputs)))
    (λ a.
    cond_ok OnPort (ltb code 10) _ _ (λ b. output_on n s x far (code - 5) (omega (arith, ltb-true code 10 b)))
    (λ b.
    cond_ok OnPort (eqb code 10) _ _
    (λ c. own_on (λ oq y. set_in (with_out_queue x oq) 0 y) (out_queue x.outgoing (in_at x 0)))
    (λ c.
    cond_ok OnPort (eqb code 11) _ _ (λ d. operator_on n.depth s x 0)
    (λ d.
    cond_ok OnPort (eqb code 12) _ _
    (λ e. own_on (set_both x i) (timeout n.edition (queue_at x 0) x.outputs (in_at x i)))
    (λ e.
    cond_ok OnPort (eqb code 13) _ _ (λ f. local_on n.depth x 1)
    (λ f. cond_ok OnPort (eqb code 14) _ _ (λ g. operator_on n.depth s x 1) (λ g. tt)))))))

-- ---- a network of another version, with other channels and routes

abbrev pub other_than : Network → ℕ → List ℕ → List ℕ → Network
other_than n v cs rs =
    record {
      sites = n.sites;
      depth = n.depth;
      tries = n.tries;
      version = v;
      edition = n.edition;
      channels = cs;
      routes = rs;
    }

-- ---- its channels agree on the places below 4S

module _ (n : Network) (v : ℕ) (cs rs : List ℕ) (hc : (m : ℕ) → m < port_count * n.sites → get_or cs m 0 ≡ channel_at n m) where
  abbrev other : Network
  other = other_than n v cs rs

  channel_at_lem : (s j : ℕ) → s < n.sites → j < port_count → channel other s (suc j) ≡ channel n s (suc j)
  channel_at_lem s j hs hj = hc (port_count * s + j) (omega arith)

  channel_same : (m : ℕ) → m < port_count * n.sites → channel_ok other m ≡ channel_ok n m
  channel_same m l =
      let a = all_same (λ m'. not (eqb (channel_at other m') (channel_at other m)))
      (λ m'. not (eqb (channel_at n m') (channel_at n m))) m
      (λ m' k. ap₂ (λ (b c : ℕ). not (eqb b c)) (hc m' (omega arith)) (hc m l)) in
      ap₂ (λ (b : ℕ) (y : Bool). eqb b no_channel || ltb b (port_count * n.sites) && y) (hc m l) a

  channels_same : channels_ok other ≡ channels_ok n
  channels_same = all_same (channel_ok other) (channel_ok n) (port_count * n.sites) channel_same

  port_same : (s j : ℕ) → s < n.sites → port_ok other s j ≡ port_ok n s j
  port_same s zero h = refl
  port_same s (suc j) h =
      either_way (leb (suc j) port_count) (λ e. rw (channel_at_lem s j h (leb-true (suc j) port_count e)) refl) (λ e. rw e refl)

  list_same : (s : ℕ) (l : List ℕ) → s < n.sites → list_ok other s l ≡ list_ok n s l
  list_same s l h =
      let a = all_same (λ m. port_ok other s (choice l m)) (λ m. port_ok n s (choice l m)) port_count
      (λ m k. port_same s (choice l m) h) in
      rw a refl

  -- ---- and its routes on the places below S x S

  module _ (hr : (m : ℕ) → m < n.sites * n.sites → get_or rs m 0 ≡ get_or n.routes m 0) where
    route_at : (s t : ℕ) → s < n.sites → t < n.sites → route_of other s t ≡ route_of n s t
    route_at s t hs ht = hr (s * n.sites + t) (place_below s t n.sites n.sites hs ht (le_refl n.sites))

    route_same : (s t : ℕ) → s < n.sites → t < n.sites → route_ok other s t ≡ route_ok n s t
    route_same s t hs ht =
        ap (λ (y : Bool). eqb s t && eqb (route_of other s t) 0 || not (eqb s t) && y) (list_same s (list_of other s t) hs)
        ∙ ap (λ (r : ℕ). eqb s t && eqb r 0 || not (eqb s t) && list_ok n s (choices r)) (route_at s t hs ht)

    routes_same : routes_ok other ≡ routes_ok n
    routes_same =
        all_same (λ s. all (route_ok other s) n.sites) (λ s. all (route_ok n s) n.sites) n.sites
        (λ s hs. all_same (route_ok other s) (route_ok n s) n.sites (λ t ht. route_same s t hs ht))

    pub joins_same : (next : ℕ) → joins_then other next ≡ joins_then n next
    joins_same next = rw (channels_same, routes_same) refl

    -- ---- what an event at site s sees

    module _ (s : ℕ) (hs : s < n.sites) where
      gather_same : (os : List Output) (Y more t : ℕ) (sets : List ℕ) → t + more ≤ n.sites
          → gather_from other s os Y more t sets ≡ gather_from n s os Y more t sets
      unfolding gather_from
      gather_same os Y zero t sets h = refl
      gather_same os Y (suc more) t sets h =
          let found = gets sets (first_port (serves os sets) (list_of n s t)) t in
          rw (
            route_at s t hs (omega arith),
            gather_same os Y more (t + 1) found (omega arith),
            gather_same os Y more (t + 1) sets (omega arith),
          ) refl

      -- the router, for a set of the network's sites
      router_same : (os : List Output) (X : ℕ) → n.sites ≤ sites_most → 0 < X → X < 2 ^ n.sites
          → route other s os X ≡ route n s os X
      unfolding route gather
      router_same os X few pos hX = go (eqb (size X) 1) refl
        where
          go : (b : Bool) → eqb (size X) 1 ≡ b → route other s os X ≡ route n s os X
          go true e = rw (e, route_at s (lowest X) hs (lowest_lt n.sites X (omega arith) pos hX)) refl
          go false e =
              let Y = minus s X in
              let within = size_within n.sites X (omega arith) hX in
              let some : 0 < Y = minus_pos n.sites s X hs pos (λ q. eqb-false (size X) 1 e (within ∙ q)) in
              let low = lowest_lt n.sites Y (omega arith) some (omega (arith, minus_le s X)) in
              rw (e, route_at s (lowest Y) hs low, gather_same os Y n.sites 0 unchosen (omega arith)) refl

      -- the inputs at the ends of its channels, and which outputs are ready
      module _ (xs : List Site) where
        ends_same : (j : ℕ) → ends other xs s j ≡ ends n xs s j
        ends_same zero = refl
        ends_same (suc j) =
            either_way (leb (suc j) port_count)
            (λ e.
            rw e
            (ap (λ (b : ℕ). cond (not (eqb b no_channel)) (far_end xs b) no_input)
            (channel_at_lem s j hs (leb-true (suc j) port_count e))))
            (λ e. rw e refl)

        -- the split output hears without a channel; beyond output 4 there is no input that listens
        hears_same : (j : ℕ) → hears (joined other s) (ends n xs s) j ≡ hears (joined n s) (ends n xs s) j
        unfolding hears
        hears_same zero = refl
        hears_same (suc j) =
            either_way (leb (suc j) port_count)
            (λ e.
            ap (λ (b : ℕ). is_local (suc j) || not (eqb b no_channel) && listening (ends n xs s (suc j)).phase)
            (channel_at_lem s j hs (leb-true (suc j) port_count e)))
            (λ e.
            rw e
            (ap (λ (b : Bool). is_local (suc j) || b)
            (and-false (joined other s (suc j)) ∙ sym (and-false (joined n s (suc j))))))

        ready_same : (os : List Output)
            → ready (joined other s) (ends other xs s) os ≡ ready (joined n s) (ends n xs s) os
        ready_same os =
            ap (λ (far : ℕ → Input). ready (joined other s) far os) (fun_ext ends_same)
            ∙ fun_ext (λ j. ap (λ (b : Bool). carries (out_of os j) && (out_of os j).head && b) (hears_same j))

        -- the state of a net-input matters to the router alone
        state_same : (i : ℕ) (y : Input) (os : List Output) (isReady : ℕ → Bool) (ph : Phase)
            → (ph ≡ Seek → route other s os y.set ≡ route n s os y.set)
            → in_state other s i y os isReady ph ≡ in_state n s i y os isReady ph
        unfolding in_state
        state_same i y os isReady Free h = refl
        state_same i y os isReady Seek h = rw (h refl) refl
        state_same i y os isReady (Open c) h = refl
        state_same i y os isReady (Wait c) h = refl
        state_same i y os isReady (Done c r) h = refl
        state_same i y os isReady (Last c r) h = refl
        state_same i y os isReady (Aborted c) h = refl
        state_same i y os isReady (FinAbort c r) h = refl

        output_same : (x : Site) (j : ℕ) → j ≤ port_count
            → net_output other s x (ends other xs s) j ≡ net_output n s x (ends n xs s) j
        unfolding net_output
        output_same x zero hj = refl
        output_same x (suc j) hj = rw (channel_at_lem s j hs (omega arith)) refl

        -- what RUN decides, where the router says the same to an input in seek
        act_same : (x : Site) → ((i : ℕ) → i < input_count → (in_at x i).phase ≡ Seek
            → route other s x.outputs (in_at x i).set ≡ route n s x.outputs (in_at x i).set)
            → (code : ℕ) → act other s x (ends other xs s) code ≡ act n s x (ends n xs s) code
        unfolding act
        act_same x h code =
            either_way (ltb code 5)
            (λ e.
            rw (e, ready_same x.outputs)
            (ap (own_turn (set_both x code))
            (state_same code (in_at x code) x.outputs (ready (joined n s) (ends n xs s) x.outputs)
            (in_at x code).phase (h code (ltb-true code 5 e)))))
            (λ e.
            either_way (ltb code 10)
            (λ f. rw (e, f) (output_same x (code - 5) (omega (arith, ltb-true code 10 f)))) (λ f. rw (e, f) refl))

        -- and what it writes
        patch_same : (a : Act) → OnPort a → patch other xs s a ≡ patch n xs s a
        patch_same Idle h = refl
        patch_same (Own x) h = refl
        patch_same (Serve x q) h = refl
        patch_same (Pass x zero y) h = absurd h
        patch_same (Pass x (suc j) y) h = rw (channel_at_lem s j hs h) refl

        pub run_same : n.sites ≤ sites_most
            → ((i : ℕ) → i < input_count → let y = in_at (site_at xs s) i in
            y.phase ≡ Seek → (0 < y.set) × (y.set < 2 ^ n.sites))
            → (code : ℕ) → run other xs s code ≡ run n xs s code
        unfolding run
        run_same few sets code =
            let x = site_at xs s in
            let w =
            act_same x
            (λ i hi e. let X = sets i hi e in router_same x.outputs (in_at x i).set few X.0 X.1) code in
            ap (patch other xs s) w ∙ patch_same (act n s x (ends n xs s) code) (act_on n s x (ends n xs s) code)

        -- and the outputs that it names
        pub blocking_same : n.sites ≤ sites_most
            → ((i : ℕ) → i < input_count → let y = in_at (site_at xs s) i in
            y.phase ≡ Seek → (0 < y.set) × (y.set < 2 ^ n.sites))
            → (code : ℕ) → blocking_at other s (site_at xs s) code ≡ blocking_at n s (site_at xs s) code
        unfolding blocking_at
        blocking_same few sets code =
            let x = site_at xs s in
            let y = in_at x code in
            either_way (ltb code 5)
            (λ e.
            rw e
            (passes_same other n s y x.outputs refl
            (λ a us. let X = sets code (ltb-true code 5 e) (seeks_at y.phase a) in router_same us y.set few X.0 X.1)))
            (λ e. rw e refl)

-- Demand 3: whatever the network and the events, each accepted packet is, for each site of its set, serviced there or
-- owed exactly once, and for no other site. Assumes nothing: a network that is not valid refuses every event.
use Prim.Native.Nat.{ℕ, zero, suc, ◌+◌, ◌^◌, ◌≤◌, ◌<◌}
use mathlib.Core.Path.{◌≡◌, refl, sym, ap, ◌∙◌}
use mathlib.Core.List.{List, [], ◌∷◌}
use mathlib.Core.Bool.{true, false, cond, not, ◌&&◌}
use native.Mathlib.Omega.{arith}
use native.Mathlib.Decide.{ℕ_discrete}
use borrow.Author.Tests.{lt-ltb, ne_eqb, eq-eqb}
use lib.Dec.{eqb, ltb, leb}
use lib.ListN.{get_or, replicate, get_or-replicate}
use Rattle.base.specs.Sizes.{sites_most, input_count, output_count, split_port, in_queue_count, queue_room}
use Rattle.base.specs.Bools.{implies, pick, alike, clash, both, both3, both6, pick_at}
use Rattle.base.specs.All.{all, all_at}
use Rattle.base.specs.Lists.{same_at}
use Rattle.base.specs.Sums.{sum, isum}
use Rattle.sets.specs.Sets.{bit, targets}
use Rattle.sets.proofs.Laws.{targets_at}
use Rattle.sets.proofs.LawsBit.{bit_none}
use Rattle.theorems.specs.Names.{Seek, Input, Output, OutEntry, Site, State, Network, AfterSend, AfterRun}
use Rattle.model.specs.Types.{no_input, input_d, no_output, no_out_entry, no_in_queue, in_queue_d, no_site, site_d, no_state}
use Rattle.model.specs.Types.{site_at, in_at, out_of, out_at, mark, queue_port}
use Rattle.types.specs.Phases.{is_free, connected, splitting, branching, aborting}
use Rattle.model.specs.Range.{tag_ok, any_mark, any_remote, zero_input, fed_by, connection_in, input_ok, place_ok, in_range}
use Rattle.model.specs.Events.{Event, Send, Run, ran, sent, after, final, answered, set_by, accepted_set, hits, serviced_by, serviced}
use Rattle.model.specs.Owing.{owed}
use Rattle.theorems.proofs.Networks.{valid_ok}
use Rattle.theorems.proofs.Refusals.{run_passes, send_passes, ran_ways, sent_ways}
use Rattle.theorems.proofs.Numbered.{below}
use Rattle.theorems.proofs.Invariant.{due, Conn, Landing, SiteOk, Inv, Kept, still}
use Rattle.theorems.proofs.StepLaws.{run_ok, send_inv, send_owed}

-- ---- out of "in range": the set of an input in seek

input_tag : (edition S T k : ℕ) (os : List Output) (i : ℕ) (y : Input) → input_ok edition S T k os i y ≡ true
    → is_free y.phase ≡ false → tag_ok S k y.packet y.set ≡ true
input_tag edition S T k os i y h f =
    let ph = y.phase in
    let bs = y.outputs in
    let used = tag_ok S k y.packet y.set in
    let v = both3 _ (alike (mark bs split_port) (branching ph)) (connection_in edition ph) h in
    let w =
    both6 (leb y.tries T) (pick (is_free ph) (zero_input y) used) (alike (any_mark bs) (connected ph))
    (all (λ j. implies (mark bs j) (fed_by i (out_of os j))) output_count) (implies (splitting ph) (mark bs 0))
    (implies (aborting ph) (splitting ph && not (any_remote bs))) v.0 in
    (pick_at (is_free ph) (zero_input y) used w.1).1 f

pub seek_set : (n : Network) (st : State) (s : ℕ) → n.sites ≤ sites_most → in_range n st ≡ true → s < n.sites → (i : ℕ)
    → i < input_count
    → let y = in_at (site_at st.sites s) i in
    y.phase ≡ Seek → (0 < y.set) × (y.set < 2 ^ n.sites)
unfolding in_range
seek_set n st s few h hs i hi e =
    let S = n.sites in
    let x = site_at st.sites s in
    let y = in_at x i in
    let k = st.counter in
    let a = all_at (λ s. place_ok n.edition S n.tries n.depth k s (site_at st.sites s)) s sites_most (omega arith) h in
    let b = (pick_at (ltb s S) _ _ a).0 (lt-ltb s S hs) in
    let c = (both _ _ (both _ _ (both _ _ b).0).0).0 in
    let d = all_at (λ i. input_ok n.edition S n.tries k x.outputs i (in_at x i)) i input_count hi c in
    let f = input_tag n.edition S n.tries k x.outputs i y d (ap is_free e) in
    targets_at S y.set (both (ltb y.packet k) (targets S y.set) f).1

-- ---- an accepted set of number k: what is owed more is what it asks, if k is not answered again

asked_even : (k p t X later a b : ℕ) → a ≡ b + cond (eqb p k) (bit t X) 0 → (p < k + 1 → later ≡ 0)
    → a + bit t later ≡ b + bit t (cond (eqb k p) X later)
asked_even k p t X later a b h z = go (ℕ_discrete p k)
  where
    go : Dec (p ≡ k) → a + bit t later ≡ b + bit t (cond (eqb k p) X later)
    go (yes e) =
        rw (eq-eqb k p (sym e))
        (omega (arith, rw (eq-eqb p k e) at h, ap (λ (Y : ℕ). bit t Y) (z (omega arith)), bit_none t))
    go (no e) = rw (ne_eqb k p (λ d. e (sym d))) (omega (arith, rw (ne_eqb p k e) at h))

-- ---- one event

module _ (n : Network) (st : State) (inv : Inv n st.sites) where
  abbrev RanOk : AfterRun → Type 0
  RanOk r =
      Kept n st.sites r.state.sites (λ p t. hits p t r.answer) × (r.state.counter ≡ st.counter)

  ran_ok : (s code : ℕ) → RanOk (ran n st s code)
  ran_ok s code =
      ran_ways RanOk n st s code
      (λ h.
      let w = run_passes n st s code h in
      let val = valid_ok n w.network in
      let sets = seek_set n st s val.few w.range w.site in
      (run_ok n val st.sites inv s w.site sets code, refl))
      (λ f. (still n st.sites inv, refl))

  -- X is asked where it was accepted
  abbrev SentOk : ℕ → AfterSend → Type 0
  SentOk X w =
      Inv n w.state.sites
      × ((p t later : ℕ) → (p < w.state.counter → later ≡ 0)
      → owed w.state.sites p t + bit t later ≡ owed st.sites p t + bit t (cond (answered p w.answer) X later))

  sent_ok : (s X : ℕ) → SentOk X (sent n st s X)
  sent_ok s X =
      sent_ways (SentOk X) n st s X
      (λ h.
      let w = send_passes n st s X h in
      let val = valid_ok n w.network in
      let k = st.counter in
      let room : (site_at st.sites s).outgoing.count < queue_room = omega (arith, w.room, val.deep) in (
        send_inv n val st.sites inv s w.site k X room,
        λ p t later z. asked_even k p t X later _ _ (send_owed n val st.sites inv s w.site k X room p t) z,
      ))
      (λ f e. (inv, λ p t later z. rw e refl))

  after_inv : (e : Event) → Inv n (after n st e).sites
  after_inv (Send s X) = (sent_ok s X).0
  after_inv (Run s code) = (ran_ok s code).0.inv

  even : (e : Event) (p t later : ℕ) → (p < (after n st e).counter → later ≡ 0)
      → serviced_by n st e p t + owed (after n st e).sites p t + bit t later ≡ owed st.sites p t + bit t (set_by n st e p later)
  even (Send s X) p t later z = omega (arith, (sent_ok s X).1 p t later z)
  even (Run s code) p t later z = omega (arith, (ran_ok s code).0.total p t)

-- ---- all events

conserved : (n : Network) (es : List Event) (st : State) (p t : ℕ) → Inv n st.sites
    → serviced n st es p t + owed (final n st es).sites p t ≡ owed st.sites p t + bit t (accepted_set n st es p)
unfolding serviced final accepted_set
conserved n [] st p t inv = omega (arith, bit_none t)
conserved n (e ∷ es) st p t inv =
    let st₁ = after n st e in
    omega (
      arith,
      conserved n es st₁ p t (after_inv n st inv e),
      even n st inv e p t (accepted_set n st₁ es p) (λ h. (below n es st₁ p h).0),
    )

-- ---- the empty state

all_alike : {A : Type 0} (P : A → Type 0) (k : ℕ) (a d : A) → P a → P d → (i : ℕ) → P (get_or (replicate k a) i d)
all_alike P zero a d h e i = e
all_alike P (suc k) a d h e zero = h
all_alike P (suc k) a d h e (suc i) = all_alike P k a d h e i

empty_landing : (m : ℕ) → Landing no_in_queue (out_at no_site (queue_port m))
empty_landing m =
    record {
      fits = record { room = refl; few = omega arith };
      last = λ h. absurd (clash (sym h ∙ ap due (same_at output_count (queue_port m) no_output)));
    }

empty_site : (s : ℕ) → SiteOk s no_site
empty_site s =
    record {
      ins = refl;
      outs = refl;
      leaving =
          record {
            fits = record { room = refl; few = omega arith };
            front = λ h. absurd (clash (sym h));
            rest = λ k. ap (λ (d : OutEntry). d.started) (same_at queue_room (suc k) no_out_entry);
          };
      queues = refl;
      landing = λ m hm. rw (get_or-replicate in_queue_count m no_in_queue in_queue_d hm) (empty_landing m);
      conn = λ i. all_alike (λ (y : Input). Conn s i y (out_at no_site)) input_count no_input input_d tt tt i;
      quiet = λ j h. ap (λ (o : Output). o.terminator) (same_at output_count j no_output);
    }

empty_inv : (n : Network) → Inv n no_state.sites
empty_inv n =
    record {
      all_sites = refl;
      site = λ s h. rw (get_or-replicate sites_most s no_site site_d h) (empty_site s);
      link = λ s j hs hj hb h. absurd (clash (sym h ∙ quiet s j));
    }
  where
    quiet : (s j : ℕ) → due (out_at (site_at no_state.sites s) (suc j)) ≡ false
    quiet s j =
        all_alike (λ (x : Site). due (out_at x (suc j)) ≡ false) sites_most no_site site_d
        (ap due (same_at output_count (suc j) no_output)) refl s

empty_owed : (p t : ℕ) → owed no_state.sites p t ≡ 0
unfolding owed isum sum
empty_owed p t = refl

-- demand 3: one for each site of the set under which number p was accepted, zero for every other site, and for a number that no
-- SEND answered
pub once : (n : Network) (es : List Event) (p t : ℕ)
    → serviced n no_state es p t + owed (final n no_state es).sites p t ≡ bit t (accepted_set n no_state es p)
once n es p t = omega (arith, conserved n es no_state p t (empty_inv n), empty_owed p t)

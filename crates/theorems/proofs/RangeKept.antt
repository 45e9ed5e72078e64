-- RANGE KEPT: every event, refused or not, of every network, from any state in range, leaves a state in range. So every
-- state that events reach from the empty one is in range, and none of them is refused with 13.
-- Assumes the arrays' lengths, which the types give.
use Prim.Native.Nat.{ℕ, ◌<◌}
use mathlib.Core.Path.{◌≡◌, refl, ap}
use mathlib.Core.List.{List, [], ◌∷◌}
use mathlib.Core.Bool.{true, ◌&&◌}
use native.Mathlib.Omega.{arith}
use borrow.Author.Tests.{le-leb, eqb-true}
use lib.Dec.{eqb, ltb, leb}
use lib.ListN.{length, get_or-replicate}
use Rattle.base.specs.Sizes.{sites_most, input_count, output_count, in_queue_count, queue_room, packets_most}
use Rattle.base.specs.Bools.{cond_ok, either_way, pick_by}
use Rattle.base.specs.All.{all, any, all_by}
use Rattle.sets.specs.Sets.{targets}
use Rattle.sets.proofs.Laws.{targets_at}
use Rattle.theorems.specs.Names.{Input, InQueue, State, Network, AfterSend, AfterRun}
use Rattle.draws.specs.Draws.{restricted, codes_in}
use Rattle.model.specs.Types.{no_input, no_in_queue, no_site, no_state, input_d, in_queue_d, site_d, site_at, in_at, queue_at}
use Rattle.model.specs.Network.{version_ok, edition_ok, sizes_ok, channels_ok, routes_ok, network_refusal}
use Rattle.model.specs.Range.{site_ok, zero_site, place_ok, in_range}
use Rattle.model.specs.Steps.{run}
use Rattle.model.specs.Events.{refusal_then, run_fault, send_fault, run_refusal, send_refusal, runs, sends, ran, sent, Event, Send, Run}
use Rattle.model.specs.Events.{after, final}
use Rattle.theorems.proofs.Networks.{Valid, valid_ok}
use Rattle.theorems.proofs.Refusals.{run_passes, send_passes}
use Rattle.theorems.proofs.RangeSites.{SitesIn, sites_at, sites_by, sites_shaped}
use Rattle.theorems.proofs.RangeRun.{StepIn, run_in, send_in_lem}
use Rattle.model.specs.Shapes.{Shaped}

-- ---- the test and the facts, of a state

pub range_at : (n : Network) → Valid n → (st : State) → Shaped st → in_range n st ≡ true
    → SitesIn n st.counter st.sites
unfolding in_range
range_at n val st sh h = sites_at n st.counter st.sites sh.all_sites sh.site val.few val.deep h

pub range_by : (n : Network) (st : State) → SitesIn n st.counter st.sites → in_range n st ≡ true
unfolding in_range
range_by n st h = sites_by n st.counter st.sites h

pub shaped_by : (n : Network) (st : State) → SitesIn n st.counter st.sites → Shaped st
shaped_by n st h = record { all_sites = h.all_sites; site = sites_shaped n st.counter st.sites h }

-- ---- the empty state

pub empty_shaped : Shaped no_state
empty_shaped =
    record {
      all_sites = refl;
      site =
          λ s l.
          rw (get_or-replicate sites_most s no_site site_d l)
          (record { inputs = refl; marks = marks; outputs = refl; outgoing = refl; incoming = refl; arrived = arrived });
    }
  where
    marks : (i : ℕ) → i < input_count → length (in_at no_site i).outputs ≡ output_count
    marks i l = ap (λ (y : Input). length y.outputs) (get_or-replicate input_count i no_input input_d l)

    arrived : (m : ℕ) → m < in_queue_count → length (queue_at no_site m).entries ≡ queue_room
    arrived m l = ap (λ (iq : InQueue). length iq.entries) (get_or-replicate in_queue_count m no_in_queue in_queue_d l)

zero_site_lem : zero_site no_site ≡ true
unfolding all any
zero_site_lem = refl

zero_ok : (E S T D k : ℕ) → site_ok E S T D k no_site ≡ true
unfolding all any
zero_ok E S T D k =
    let few : leb 0 D ≡ true = le-leb 0 D (omega arith) in
    let some : leb 0 T ≡ true = le-leb 0 T (omega arith) in
    either_way (restricted E) (λ e. rw (e, few, some) refl) (λ e. rw (e, few, some) refl)

pub empty_in_range : (n : Network) → in_range n no_state ≡ true
unfolding in_range
empty_in_range n =
    all_by (λ s. place_ok n.edition n.sites n.tries n.depth 0 s (site_at no_state.sites s)) sites_most
    (λ s l.
    rw (get_or-replicate sites_most s no_site site_d l)
    (pick_by (ltb s n.sites) (site_ok n.edition n.sites n.tries n.depth 0 no_site) (zero_site no_site)
    (λ e. zero_ok n.edition n.sites n.tries n.depth 0) (λ e. zero_site_lem)))

-- ---- one event

-- a RUN that is not refused
pub run_step : (n : Network) (st : State) (s code : ℕ) → Shaped st → run_refusal n st s code ≡ 0
    → StepIn n s st.counter st.sites (run n st.sites s code)
run_step n st s code sh h =
    let p = run_passes n st s code h in
    let val = valid_ok n p.network in
    run_in n val st.counter st.sites (range_at n val st sh p.range) s p.site code

abbrev Kept : Network → State → State → Type 0
Kept n st st' = Shaped st' × (in_range n st ≡ true → in_range n st' ≡ true)

kept_by : (n : Network) (st st' : State) → SitesIn n st'.counter st'.sites → Kept n st st'
kept_by n st st' h = (shaped_by n st' h, λ e. range_by n st' h)

event_kept : (n : Network) (st : State) → Shaped st → (e : Event) → Kept n st (after n st e)
unfolding ran sent
event_kept n st sh (Run s code) =
    cond_ok (λ (a : AfterRun). Kept n st a.state) (eqb (run_refusal n st s code) 0) _ _
    (λ h.
    kept_by n st (runs n st s code).state (run_step n st s code sh (eqb-true (run_refusal n st s code) 0 h)).range)
    (λ h. (sh, λ e. e))
event_kept n st sh (Send s X) =
    cond_ok (λ (a : AfterSend). Kept n st a.state) (eqb (send_refusal n st s X) 0) _ _
    (λ h.
    let p = send_passes n st s X (eqb-true (send_refusal n st s X) 0 h) in
    let val = valid_ok n p.network in
    let t = targets_at n.sites X p.set in
    kept_by n st (sends st s X).state
    (send_in_lem n st.counter st.sites val.deep (range_at n val st sh p.range) s X p.site t.0 t.1
    p.room))
    (λ h. (sh, λ e. e))

pub shaped_kept : (n : Network) (st : State) → Shaped st → (e : Event) → Shaped (after n st e)
shaped_kept n st sh e = (event_kept n st sh e).0

pub range_kept : (n : Network) (st : State) → Shaped st → in_range n st ≡ true → (e : Event)
    → in_range n (after n st e) ≡ true
range_kept n st sh h e = (event_kept n st sh e).1 h

-- ---- lists of events

pub final_shaped : (n : Network) (es : List Event) (st : State) → Shaped st → Shaped (final n st es)
unfolding final
final_shaped n [] st sh = sh
final_shaped n (e ∷ es) st sh = final_shaped n es (after n st e) (shaped_kept n st sh e)

pub final_in_range : (n : Network) (es : List Event) (st : State) → Shaped st → in_range n st ≡ true
    → in_range n (final n st es) ≡ true
unfolding final
final_in_range n [] st sh h = h
final_in_range n (e ∷ es) st sh h = final_in_range n es (after n st e) (shaped_kept n st sh e) (range_kept n st sh h e)

pub reached : (n : Network) (es : List Event) → in_range n (final n no_state es) ≡ true
reached n es = final_in_range n es no_state empty_shaped (empty_in_range n)

-- ---- refusal 13

abbrev Other : ℕ → Type 0
Other r = r ≡ 13 → ⊥

network_other : (n : Network) → Other (network_refusal n)
unfolding network_refusal
network_other n =
    cond_ok Other (version_ok n) _ 2
    (λ a.
    cond_ok Other (edition_ok n) _ 17
    (λ b.
    cond_ok Other (sizes_ok n) _ 3
    (λ c.
    cond_ok Other (channels_ok n) _ 6 (λ d. cond_ok Other (routes_ok n) 0 7 (λ f e. omega arith) (λ f e. omega arith))
    (λ d e. omega arith))
    (λ c e. omega arith))
    (λ b e. omega arith))
    (λ a e. omega arith)

run_other : (n : Network) (s code : ℕ) → Other (run_fault n s code)
run_other n s code =
    cond_ok Other (ltb s n.sites && ltb code (codes_in n.edition)) 0 9 (λ a e. omega arith) (λ a e. omega arith)

send_other : (n : Network) (st : State) (s X : ℕ) → Other (send_fault n st s X)
send_other n st s X =
    cond_ok Other (ltb s n.sites) _ 9
    (λ a.
    cond_ok Other (targets n.sites X) _ 10
    (λ b.
    cond_ok Other (ltb st.counter packets_most) _ 12
    (λ c.
    cond_ok Other (ltb (site_at st.sites s).outgoing.count n.depth) 0 11 (λ d e. omega arith) (λ d e. omega arith))
    (λ c e. omega arith))
    (λ b e. omega arith))
    (λ a e. omega arith)

refusal_other : (n : Network) (st : State) (own : ℕ) → in_range n st ≡ true → Other own → Other (refusal_then n st own)
refusal_other n st own h l =
    rw h (cond_ok Other (eqb (network_refusal n) 0) own (network_refusal n) (λ a. l) (λ a. network_other n))

-- no event after a list from the empty state is refused with 13
pub never_13 : (n : Network) (es : List Event)
    → ((s code : ℕ) → run_refusal n (final n no_state es) s code ≡ 13 → ⊥) ×
    ((s X : ℕ) → send_refusal n (final n no_state es) s X ≡ 13 → ⊥)
unfolding run_refusal send_refusal
never_13 n es =
    let st = final n no_state es in (
      λ s code h. refusal_other n st (run_fault n s code) (reached n es) (run_other n s code) h,
      λ s X h. refusal_other n st (send_fault n st s X) (reached n es) (send_other n st s X) h,
    )

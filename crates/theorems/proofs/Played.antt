-- A run is the single events in order: its state, book and counts are those of SEND and RUN, with all their refusals, applied one after the
-- other from the empty state. Assumes a valid network.
use Prim.Native.Nat.{ℕ, zero, suc, ◌+◌, ◌≤◌, ◌<◌}
use mathlib.Core.Path.{◌≡◌, refl, ap, ◌∙◌}
use mathlib.Core.List.{List, [], ◌∷◌, ◌++◌}
use mathlib.Core.Bool.{true, cond}
use native.Mathlib.Omega.{arith}
use borrow.Author.Tests.{lt-ltb}
use lib.Dec.{eqb}
use lib.ListN.{length}
use Rattle.base.specs.Bools.{cond_ok}
use Rattle.base.specs.Sums.{sum, sum_append}
use Rattle.sets.specs.Sets.{size, bit}
use Rattle.draws.specs.Draws.{value_after, codes_in}
use Rattle.draws.proofs.Laws.{site_below, code_below}
use Rattle.theorems.specs.Names.{State, Network, Run as StoredRun, StoredSend, Ran, Nothing, Changed, Serviced, RunRefused, AfterSend}
use Rattle.model.specs.Types.{no_state}
use Rattle.model.specs.Network.{network_refusal}
use Rattle.model.specs.Range.{in_range}
use Rattle.model.specs.Events.{Event, Send, Run, refusal_then, run_fault, send_fault, run_refusal, send_refusal, runs, ran, sent, after}
use Rattle.model.specs.Events.{final, accepted, if_accepted, accepted_by, accepted_set, hits, serviced_by, serviced}
use Rattle.model.specs.Owing.{owed}
use Rattle.model.specs.Runs.{Timed, Service, Played, events, in_book, unplayed, marked, at_draw, sends_at, draw_at, script_to, script}
use Rattle.model.specs.Runs.{stored_refusal, send_played, entered, run_played, try_send, advance, advance_singly, played}
use Rattle.model.specs.Runs.{played_run, played_singly}
use Rattle.theorems.proofs.Networks.{valid_ok}
use Rattle.theorems.proofs.SoundRuns.{sound}
use Rattle.theorems.proofs.Refusals.{sent_ways}
use Rattle.theorems.proofs.RangeKept.{empty_shaped, shaped_kept, empty_in_range, range_kept}
use Rattle.theorems.proofs.Demand3.{once}
use Rattle.model.specs.Shapes.{Shaped}

-- ---- what the single events leave behind, event by event

module _ (n : Network) where
  pub step_state : (p : Played) (d : ℕ) (e : Event) → (advance_singly n p d e).state ≡ after n p.state e
  step_state p d (Send s X) =
      sent_ways (λ w. (send_played p X w w.answer).state ≡ w.state) n p.state s X (λ h. refl) (λ f e. refl)
  step_state p d (Run s code) = refl

  -- the packets accepted and their pairs, with those of the events to come
  step_accepted : (p : Played) (d : ℕ) (e : Event) (l : List ℕ)
      → (advance_singly n p d e).accepted + length l ≡ p.accepted + length (accepted_by n p.state e l)
  step_accepted p d (Send s X) l =
      sent_ways (λ w. (send_played p X w w.answer).accepted + length l ≡ p.accepted + length (if_accepted w.answer X l)) n p.state
      s X (λ h. omega arith) (λ f e. rw e refl)
  step_accepted p d (Run s code) l = refl

  step_pairs : (p : Played) (d : ℕ) (e : Event) (l : List ℕ)
      → (advance_singly n p d e).pairs + sum size l ≡ p.pairs + sum size (accepted_by n p.state e l)
  unfolding sum
  step_pairs p d (Send s X) l =
      sent_ways (λ w. (send_played p X w w.answer).pairs + sum size l ≡ p.pairs + sum size (if_accepted w.answer X l)) n p.state s
      X (λ h. omega arith) (λ f e. rw e refl)
  step_pairs p d (Run s code) l = refl

  pub singly_state : (p : Played) (es : List Timed) → (played_singly n p es).state ≡ final n p.state (events es)
  unfolding played_singly final
  singly_state p [] = refl
  singly_state p (e ∷ es) =
      singly_state (advance_singly n p e.draw e.event) es
      ∙ ap (λ (st : State). final n st (events es)) (step_state p e.draw e.event)

  pub singly_accepted : (p : Played) (es : List Timed)
      → (played_singly n p es).accepted ≡ p.accepted + length (accepted n p.state (events es))
  unfolding played_singly accepted
  singly_accepted p [] = omega arith
  singly_accepted p (e ∷ es) =
      let q = advance_singly n p e.draw e.event in
      singly_accepted q es
      ∙ ap (λ (st : State). q.accepted + length (accepted n st (events es))) (step_state p e.draw e.event)
      ∙ step_accepted p e.draw e.event (accepted n (after n p.state e.event) (events es))

  pub singly_pairs : (p : Played) (es : List Timed) → (played_singly n p es).pairs ≡ p.pairs + sum size (accepted n p.state (events es))
  unfolding played_singly accepted sum
  singly_pairs p [] = omega arith
  singly_pairs p (e ∷ es) =
      let q = advance_singly n p e.draw e.event in
      singly_pairs q es
      ∙ ap (λ (st : State). q.pairs + sum size (accepted n st (events es))) (step_state p e.draw e.event)
      ∙ step_pairs p e.draw e.event (accepted n (after n p.state e.event) (events es))

-- ---- the book: how often packet p at site t stands in it

entered_hits : (p t d : ℕ) (a : Ran) (l : List Service) → in_book p t (entered d a l) ≡ in_book p t l + hits p t a
unfolding sum
entered_hits p t d Nothing l = omega arith
entered_hits p t d Changed l = omega arith
entered_hits p t d (Serviced q s) l =
    sum_append (λ e. cond (eqb p e.packet) (cond (eqb t e.site) 1 0) 0) l (record { draw = d; packet = q; site = s } ∷ [])
    ∙ omega arith
entered_hits p t d (RunRefused k) l = omega arith

module _ (n : Network) (a t : ℕ) where
  step_book : (p : Played) (d : ℕ) (e : Event)
      → in_book a t (advance_singly n p d e).book ≡ in_book a t p.book + serviced_by n p.state e a t
  step_book p d (Send s X) =
      sent_ways (λ w. in_book a t (send_played p X w w.answer).book ≡ in_book a t p.book + 0) n p.state s X (λ h. omega arith)
      (λ f e. omega arith)
  step_book p d (Run s code) = entered_hits a t d (ran n p.state s code).answer p.book

  pub singly_book : (p : Played) (es : List Timed)
      → in_book a t (played_singly n p es).book ≡ in_book a t p.book + serviced n p.state (events es) a t
  unfolding played_singly serviced
  singly_book p [] = omega arith
  singly_book p (e ∷ es) =
      let q = advance_singly n p e.draw e.event in
      omega (
        arith,
        singly_book q es,
        step_book p e.draw e.event,
        ap (λ (st : State). serviced n st (events es) a t) (step_state n p e.draw e.event),
      )

-- ---- the events of a run: what a draw names lies within the network

abbrev pub Named : Network → Event → Type 0
Named n (Send s X) = Unit {0}
Named n (Run s code) = (s < n.sites) × (code < codes_in n.edition)

abbrev pub AllNamed : Network → List Timed → Type 0
AllNamed n [] = Unit {0}
AllNamed n (e ∷ es) = Named n e.event × AllNamed n es

named_append : (n : Network) (k l : List Timed) → AllNamed n k → AllNamed n l → AllNamed n (k ++ l)
named_append n [] l a b = b
named_append n (e ∷ k) l a b = (a.0, named_append n k l a.1 b)

marked_named : (n : Network) (d c : ℕ) (l : List StoredSend) → AllNamed n (at_draw c (marked d l))
unfolding marked
marked_named n d c [] = tt
marked_named n d c (e ∷ l) =
    cond_ok (λ (m : List Event). AllNamed n (at_draw c m)) (eqb e.draw d) _ _ (λ h. (tt, marked_named n d c l))
    (λ h. marked_named n d c l)

at_append : (c : ℕ) (k l : List Event) → at_draw c (k ++ l) ≡ at_draw c k ++ at_draw c l
at_append c [] l = refl
at_append c (e ∷ k) l = ap (λ (m : List Timed). record { draw = c; event = e } ∷ m) (at_append c k l)

module _ (r : StoredRun) (some : 1 ≤ r.network.sites) where
  abbrev net : Network
  net = r.network

  upto_named : (d : ℕ) → AllNamed net (script_to r d)
  unfolding script_to
  upto_named zero = tt
  upto_named (suc d) =
      let v = value_after (d + 1) r.seed in
      named_append net (script_to r d) _ (upto_named d)
      (rw (at_append d (sends_at r d) (draw_at r d ∷ []))
      (named_append net (at_draw d (sends_at r d)) _ (marked_named net d d _)
      ((site_below net.edition net.sites v some, code_below net.edition net.sites v), tt)))

  pub script_named : AllNamed net (script r)
  unfolding script
  script_named = named_append net (script_to r r.draws) _ (upto_named r.draws) (marked_named net r.draws r.draws _)

-- ---- where a state is in range and the network valid, of the refusals only the event's own are left

module _ (n : Network) (v : network_refusal n ≡ 0) where
  only_own : (st : State) (k : ℕ) → in_range n st ≡ true → refusal_then n st k ≡ k
  only_own st k h = rw (v, h) refl

  same_send : (st : State) (s X : ℕ) → in_range n st ≡ true → try_send n st s X ≡ sent n st s X
  unfolding sent send_refusal
  same_send st s X h = rw (only_own st (send_fault n st s X) h) refl

  same_run : (st : State) (s code : ℕ) → in_range n st ≡ true → s < n.sites → code < codes_in n.edition
      → runs n st s code ≡ ran n st s code
  unfolding ran run_refusal
  same_run st s code h hs hc =
      rw (only_own st (run_fault n s code) h, lt-ltb s n.sites hs, lt-ltb code (codes_in n.edition) hc) refl

  same_step : (p : Played) (d : ℕ) (e : Event) → in_range n p.state ≡ true → Named n e → advance n p d e ≡ advance_singly n p d e
  same_step p d (Send s X) h m = ap (λ (a : AfterSend). send_played p X a a.answer) (same_send p.state s X h)
  same_step p d (Run s code) h m = ap (run_played p d) (same_run p.state s code h m.0 m.1)

  -- from a state in range on, step by step
  pub same_played : (p : Played) (es : List Timed) → Shaped p.state → in_range n p.state ≡ true → AllNamed n es
      → played n p es ≡ played_singly n p es
  unfolding played played_singly
  same_played p [] sh h m = refl
  same_played p (e ∷ es) sh h m =
      let q = advance_singly n p e.draw e.event in
      let at = step_state n p e.draw e.event in
      ap (λ (w : Played). played n w es) (same_step p e.draw e.event h m.0)
      ∙ same_played q es (rw at (shaped_kept n p.state sh e.event)) (rw at (range_kept n p.state sh h e.event)) m.1

-- ---- the theorem

-- a valid run has a valid network
pub stored_network : (r : StoredRun) → stored_refusal r ≡ 0 → network_refusal r.network ≡ 0
unfolding network_refusal
stored_network r h =
    let k = sound r h in rw (k.version, k.edition, k.sizes, k.channels, k.routes) refl

-- a run played, with its state, book and counts, is the public single events applied in order from the empty state
pub played_singly_lem : (r : StoredRun) → stored_refusal r ≡ 0 → played_run r ≡ played_singly r.network unplayed (script r)
unfolding played_run
played_singly_lem r h =
    let v = stored_network r h in
    same_played r.network v unplayed (script r) empty_shaped (empty_in_range r.network)
    (script_named r (valid_ok r.network v).some)

-- its state is the one that demand 3 and range kept speak of
pub played_final : (r : StoredRun) → stored_refusal r ≡ 0 → (played_run r).state ≡ final r.network no_state (events (script r))
played_final r h = ap (λ (p : Played). p.state) (played_singly_lem r h) ∙ singly_state r.network unplayed (script r)

-- demand 3 of a run: how often a packet stands in the book at a site, and the places that owe it there
pub played_once : (r : StoredRun) → stored_refusal r ≡ 0 → (p t : ℕ)
    → in_book p t (played_run r).book + owed (played_run r).state.sites p t ≡ bit t (accepted_set r.network no_state (events (script r)) p)
unfolding sum
played_once r h p t =
    omega (
      arith,
      once r.network (events (script r)) p t,
      singly_book r.network p t unplayed (script r),
      ap (λ (w : Played). in_book p t w.book) (played_singly_lem r h),
      ap (λ (w : State). owed w.sites p t) (played_final r h),
    )

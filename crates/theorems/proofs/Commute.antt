-- Document 02, L12: events far apart commute, in every edition. Two RUNs at different sites with no channel between them, from any state
-- in range, refused ones among them, leave the same state and are each answered the same, whichever comes first; so do RUN and SEND.
-- Assumes the arrays' lengths, which the types give.
use Prim.Native.Nat.{ℕ, zero, suc, ◌+◌, ◌<◌}
use mathlib.Core.Path.{◌≡◌, refl, sym, ap, ap₂, ◌∙◌}
use mathlib.Core.List.{List}
use mathlib.Core.Bool.{Bool, true, false, cond}
use native.Mathlib.Omega.{arith}
use borrow.Author.Tests.{eqb-true}
use lib.Dec.{eqb}
use Rattle.base.specs.Bools.{cond_ok, either_way, clash}
use Rattle.theorems.specs.Names.{Input, Site, State, Network, SendRefused, RunRefused, AfterRun}
use Rattle.model.specs.Types.{site_at, with_out_queue, push_out}
use Rattle.model.specs.Range.{in_range}
use Rattle.model.specs.Steps.{Act, Idle, Own, Serve, Pass, act, ends, patch, run, blocking_at, enqueue}
use Rattle.model.specs.Events.{Event, Send, Run, run_refusal, send_refusal, runs, sends, ran, sent, after}
use Rattle.model.specs.Apart.{far_apart, events_apart, ToSend, ToRun, answer_to}
use Rattle.model.specs.Shapes.{Shaped}
use Rattle.theorems.proofs.Networks.{Valid, valid_ok}
use Rattle.theorems.proofs.Refusals.{run_passes, ran_counter}
use Rattle.theorems.proofs.RangeActs.{ActIn, act_in}
use Rattle.theorems.proofs.RangeKept.{range_at, range_kept}
use Rattle.theorems.proofs.FarApart.{Along, Apart, apart_at, apart_back, written, site_kept, ends_kept, written_both}

-- ---- an event as an act at its site, and what it adds to the counter

abbrev site_of : Event → ℕ
site_of (Send s X) = s
site_of (Run s c) = s

-- the site x with a packet of number q to the set X behind its out-queue
abbrev queued : Site → ℕ → ℕ → Site
queued x q X = with_out_queue x (push_out x.outgoing (record { set = X; packet = q; started = false }))

-- what RUN and SEND decide; nothing where they are refused
abbrev deed : Network → State → Event → Act
deed n st (Run s c) = cond (eqb (run_refusal n st s c) 0) (act n s (site_at st.sites s) (ends n st.sites s) c) Idle
deed n st (Send s X) = cond (eqb (send_refusal n st s X) 0) (Own (queued (site_at st.sites s) st.counter X)) Idle

abbrev numbered : Network → State → Event → ℕ
numbered n st (Run s c) = 0
numbered n st (Send s X) = cond (eqb (send_refusal n st s X) 0) 1 0

module _ (n : Network) where
  abbrev done : State → ℕ → Act → ℕ → State
  done st s a k = record { sites = written n st.sites s a; counter = st.counter + k }

  none_more : (xs : List Site) (k : ℕ) → let w : State = record { sites = xs; counter = k } in w ≡ record { sites = xs; counter = k + 0 }
  none_more xs k = ap (λ (m : ℕ). let w : State = record { sites = xs; counter = m } in w) (omega arith)

  -- RUN and SEND, by whether they are accepted
  run_done : (st : State) (s c f : ℕ) (b : Bool)
      → (cond b (runs n st s c) (record { answer = RunRefused f; blocking = 0; state = st })).state
      ≡ done st s (cond b (act n s (site_at st.sites s) (ends n st.sites s) c) Idle) 0
  unfolding run
  run_done st s c f true = none_more (run n st.sites s c).sites st.counter
  run_done st s c f false = none_more st.sites st.counter

  send_done : (st : State) (s X f : ℕ) (b : Bool)
      → (cond b (sends st s X) (record { answer = SendRefused f; state = st })).state
      ≡ done st s (cond b (Own (queued (site_at st.sites s) st.counter X)) Idle) (cond b 1 0)
  unfolding enqueue
  send_done st s X f true = refl
  send_done st s X f false = none_more st.sites st.counter

  after_done : (st : State) (e : Event) → after n st e ≡ done st (site_of e) (deed n st e) (numbered n st e)
  unfolding ran sent
  after_done st (Run s c) = run_done st s c (run_refusal n st s c) (eqb (run_refusal n st s c) 0)
  after_done st (Send s X) = send_done st s X (send_refusal n st s X) (eqb (send_refusal n st s X) 0)

  -- the answer of an act does not depend on the sites that it is written to
  answer_same : (xs ys : List Site) (s : ℕ) (a : Act) → (patch n xs s a).answer ≡ (patch n ys s a).answer
  answer_same xs ys s Idle = refl
  answer_same xs ys s (Own x) = refl
  answer_same xs ys s (Serve x q) = refl
  answer_same xs ys s (Pass x j y) = refl

  -- what a RUN passes crosses a channel
  in_along : (s k : ℕ) (x : Site) (far : ℕ → Input) (a : Act) → Valid n → s < n.sites → ActIn n s k x far a → Along n s a
  in_along s k x far Idle v l h = tt
  in_along s k x far (Own z) v l h = tt
  in_along s k x far (Serve z q) v l h = tt
  in_along s k x far (Pass z zero y) v l h = h
  in_along s k x far (Pass z (suc j) y) v l h = record { valid = v; site = l; port = h.0; there = h.1.there }

  -- ---- an event on two states in range that it sees alike

  pub record SameAnswer (w v : AfterRun) : Type 0 where
    pub answer : w.answer ≡ v.answer
    pub blocking : w.blocking ≡ v.blocking

  module _ (st st' : State) (h : in_range n st ≡ true) (h' : in_range n st' ≡ true) (u : ℕ) where
    run_refusal_same : (d : ℕ) → run_refusal n st' u d ≡ run_refusal n st u d
    unfolding run_refusal
    run_refusal_same d = rw (h, h') refl

    run_same : (d : ℕ)
        → (run_refusal n st u d ≡ 0 → (site_at st'.sites u ≡ site_at st.sites u) × (ends n st'.sites u ≡ ends n st.sites u))
        → SameAnswer (ran n st' u d) (ran n st u d) × (deed n st' (Run u d) ≡ deed n st (Run u d))
    unfolding ran run
    run_same d sees =
        let r = run_refusal n st u d in
        either_way (eqb r 0)
        (λ k.
        let w = sees (eqb-true r 0 k) in
        let x = site_at st.sites u in
        let a = act n u x (ends n st.sites u) d in
        let same : act n u (site_at st'.sites u) (ends n st'.sites u) d ≡ a =
        ap₂ (λ (x : Site) (far : ℕ → Input). act n u x far d) w.0 w.1 in
        rw (run_refusal_same d, k) (
          record {
            answer = ap (λ (a : Act). (patch n st'.sites u a).answer) same ∙ answer_same st'.sites st.sites u a;
            blocking = ap (λ (x : Site). blocking_at n u x d) w.0;
          },
          same,
        ))
        (λ k. rw (run_refusal_same d, k) (record { answer = refl; blocking = refl }, refl))

    module _ (counter : st'.counter ≡ st.counter) (site : site_at st'.sites u ≡ site_at st.sites u) (X : ℕ) where
      send_refusal_same : send_refusal n st' u X ≡ send_refusal n st u X
      unfolding send_refusal
      send_refusal_same = rw (h, h', counter, site) refl

      send_same : ((sent n st' u X).answer ≡ (sent n st u X).answer) × (deed n st' (Send u X) ≡ deed n st (Send u X))
          × (numbered n st' (Send u X) ≡ numbered n st (Send u X))
      unfolding sent
      send_same =
          either_way (eqb (send_refusal n st u X) 0) (λ k. rw (send_refusal_same, k, counter, site) (refl, refl, refl))
          (λ k. rw (send_refusal_same, k) (refl, refl, refl))

  module _ (st : State) (sh : Shaped st) (h : in_range n st ≡ true) where
    deed_along : (e : Event) → Along n (site_of e) (deed n st e)
    deed_along (Run s c) =
        cond_ok (Along n s) (eqb (run_refusal n st s c) 0) _ _
        (λ k.
        let p = run_passes n st s c (eqb-true (run_refusal n st s c) 0 k) in
        let val = valid_ok n p.network in
        let x = site_at st.sites s in
        let far = ends n st.sites s in
        in_along s st.counter x far (act n s x far c) val p.site
        (act_in n val s p.site st.counter x ((range_at n val st sh h).inside s p.site) far c))
        (λ k. tt)
    deed_along (Send s X) = cond_ok (Along n s) (eqb (send_refusal n st s X) 0) _ _ (λ k. tt) (λ k. tt)

    -- ---- what the second of two events sees, and does

    module _ (e : Event) (u : ℕ) (far : Apart n (site_of e) u) where
      site_after : site_at (after n st e).sites u ≡ site_at st.sites u
      site_after =
          ap (λ (w : State). site_at w.sites u) (after_done st e)
          ∙ site_kept n (site_of e) u far st.sites (deed n st e) (deed_along e)

      ends_after : Valid n → u < n.sites → ends n (after n st e).sites u ≡ ends n st.sites u
      ends_after val hu =
          ap (λ (w : State). ends n w.sites u) (after_done st e)
          ∙ ends_kept n (site_of e) u far val hu st.sites (deed n st e) (deed_along e)

      run_after : (d : ℕ)
          → SameAnswer (ran n (after n st e) u d) (ran n st u d) × (deed n (after n st e) (Run u d) ≡ deed n st (Run u d))
      run_after d =
          run_same st (after n st e) h (range_kept n st sh h e) u d
          (λ k. let p = run_passes n st u d k in (site_after, ends_after (valid_ok n p.network) p.site))

    -- f behind e is answered and does what it would alone
    abbrev Alone : Event → Event → Type 0
    Alone e f =
        (answer_to n (after n st e) f ≡ answer_to n st f) × (deed n (after n st e) f ≡ deed n st f)
        × (numbered n (after n st e) f ≡ numbered n st f)

    run_alone : (e : Event) (u d : ℕ) → Apart n (site_of e) u → Alone e (Run u d)
    run_alone e u d far =
        let w = run_after e u far d in
        (ap₂ ToRun w.0.answer w.0.blocking, w.1, refl)

    send_alone : (s c u X : ℕ) → Apart n s u → Alone (Run s c) (Send u X)
    send_alone s c u X far =
        let e = Run s c in
        let w =
        send_same st (after n st e) h (range_kept n st sh h e) u (ran_counter n st s c) (site_after e u far) X in
        (ap ToSend w.0, w.1, w.2)

    -- ---- the state after both

    both_done : (e f : Event) → Alone e f
        → after n (after n st e) f ≡ done (done st (site_of e) (deed n st e) (numbered n st e)) (site_of f) (deed n st f) (numbered n st f)
    both_done e f alone =
        after_done (after n st e) f ∙ ap₂ (λ (a : Act) (k : ℕ). done (after n st e) (site_of f) a k) alone.1 alone.2
        ∙ ap (λ (w : State). done w (site_of f) (deed n st f) (numbered n st f)) (after_done st e)

    swapped : (e f : Event) → Apart n (site_of e) (site_of f) → Alone e f → Alone f e
        → after n (after n st e) f ≡ after n (after n st f) e
    swapped e f far ef fe =
        both_done e f ef
        ∙ ap₂ (λ (l : List Site) (k : ℕ). let w : State = record { sites = l; counter = k } in w)
        (written_both n (site_of e) (site_of f) far st.sites (deed n st e) (deed n st f) (deed_along e) (deed_along f))
        (omega arith)
        ∙ sym (both_done f e fe)

    -- ---- two events

    -- L12: two RUNs
    pub commute : (s c u d : ℕ) → far_apart n s u ≡ true
        → ((ran n (ran n st s c).state u d).state ≡ (ran n (ran n st u d).state s c).state)
        × SameAnswer (ran n (ran n st s c).state u d) (ran n st u d)
        × SameAnswer (ran n (ran n st u d).state s c) (ran n st s c)
    commute s c u d h =
        let far = apart_at n s u h in
        let back = apart_back n far in (
          swapped (Run s c) (Run u d) far (run_alone (Run s c) u d far) (run_alone (Run u d) s c back),
          (run_after (Run s c) u far d).0,
          (run_after (Run u d) s back c).0,
        )

    -- two events, at least one of them RUN
    pub record Commute (e f : Event) : Type 0 where
      pub state : after n (after n st e) f ≡ after n (after n st f) e
      pub first : answer_to n (after n st f) e ≡ answer_to n st e
      pub second : answer_to n (after n st e) f ≡ answer_to n st f

    commute_by : (e f : Event) → Apart n (site_of e) (site_of f) → Alone e f → Alone f e → Commute e f
    commute_by e f far ef fe = record { state = swapped e f far ef fe; first = fe.0; second = ef.0 }

    pub events_commute : (e f : Event) → events_apart n e f ≡ true → Commute e f
    events_commute (Run s c) (Run u d) h =
        let far = apart_at n s u h in
        commute_by (Run s c) (Run u d) far (run_alone (Run s c) u d far) (run_alone (Run u d) s c (apart_back n far))
    events_commute (Run s c) (Send u Y) h =
        let far = apart_at n s u h in
        commute_by (Run s c) (Send u Y) far (send_alone s c u Y far) (run_alone (Send u Y) s c (apart_back n far))
    events_commute (Send s X) (Run u d) h =
        let far = apart_at n s u h in
        commute_by (Send s X) (Run u d) far (run_alone (Send s X) u d far) (send_alone u d s X (apart_back n far))
    events_commute (Send s X) (Send u Y) h = absurd (clash (sym h))

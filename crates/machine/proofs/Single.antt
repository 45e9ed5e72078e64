-- The single events by their refusals, as the code tests them, and RUN by the act that it stores. Assumes nothing.
use Prim.Native.Nat.{ℕ, ◌≤◌, ◌<◌}
use mathlib.Core.Path.{◌≡◌, refl, ap, ap₂, ◌∙◌}
use mathlib.Core.List.{List}
use mathlib.Core.Bool.{Bool, true, false, cond, ◌&&◌}
use native.Mathlib.Omega.{arith}
use borrow.Author.Tests.{ne_eqb, ltb-true}
use lib.Dec.{eqb, ltb}
use Rattle.base.specs.Sizes.{sites_most, queue_room, packets_most}
use Rattle.base.specs.Bools.{first_of}
use Rattle.sets.specs.Sets.{targets}
use Rattle.draws.specs.Draws.{codes_in}
use Rattle.types.specs.declared.Network.{Network}
use Rattle.types.specs.declared.Site.{Site}
use Rattle.types.specs.declared.State.{State}
use Rattle.types.specs.declared.AfterRun.{AfterRun}
use Rattle.types.specs.declared.Sent.TheVariants.{Refused as SendRefused}
use Rattle.types.specs.declared.Ran.TheVariants.{the_data as Ran, Refused as RunRefused}
use Rattle.model.specs.Types.{site_at}
use Rattle.model.specs.Network.{network_refusal}
use Rattle.model.specs.Range.{in_range}
use Rattle.model.specs.Steps.{Act, Idle, Own, Serve, Pass, patch, act, ends, run, blocking_at}
use Rattle.model.specs.Runs.{try_send}
use Rattle.model.specs.Events.{refusal_then, run_fault, send_fault, run_refusal, send_refusal, runs, sends, ran, sent}
use Rattle.theorems.proofs.Networks.{valid_ok}
use Rattle.theorems.proofs.Refusals.{not_refused}
use Rattle.machine.specs.declared.step.Act.TheVariants.{the_data as Did}
use Rattle.machine.specs.declared.events.Looked.{Looked}
use Rattle.machine.specs.declared.store.Seen.{Seen}
use Rattle.machine.specs.Step.{of_act, far_at, four_ends, seen_at, act_of, looked, Passable, stored_state, answer_to, stored}
use Rattle.machine.proofs.Seen.{act_same, four_at, act_passable}

-- ---- the refusals that all events share

module _ (n : Network) (st : State) where
  -- one of them is given whatever the event's own is
  shared : (own : ℕ) → (refusal_then n st 0 ≡ 0 → ⊥) → refusal_then n st own ≡ refusal_then n st 0
  shared own ne = go (eqb (network_refusal n) 0) (in_range n st) ne
    where
      go : (a b : Bool) → (cond a (cond b 0 13) (network_refusal n) ≡ 0 → ⊥)
          → cond a (cond b own 13) (network_refusal n) ≡ cond a (cond b 0 13) (network_refusal n)
      go true true h = absurd (h refl)
      go true false h = refl
      go false b h = refl

  -- none of them: the event's own is left
  alone : (own : ℕ) → refusal_then n st 0 ≡ 0 → refusal_then n st own ≡ own
  alone own h = let p = not_refused n st 0 h in rw (p.0, p.1) refl

  module _ (s code : ℕ) where
    pub run_shared : (k : ℕ) → k ≡ refusal_then n st 0 → (k ≡ 0 → ⊥)
        → record { answer = RunRefused k; blocking = 0; state = st } ≡ ran n st s code
    unfolding ran run_refusal
    run_shared k e ne = rw (shared (run_fault n s code) (λ z. ne (e ∙ z)), ← e, ne_eqb k 0 ne) refl

    pub run_none : refusal_then n st 0 ≡ 0 → (ltb s n.sites && ltb code (codes_in n.edition)) ≡ false
        → record { answer = RunRefused 9; blocking = 0; state = st } ≡ ran n st s code
    unfolding ran run_refusal
    run_none h e = rw (alone (run_fault n s code) h, e) refl

    pub run_passes_on : refusal_then n st 0 ≡ 0 → (ltb s n.sites && ltb code (codes_in n.edition)) ≡ true → runs n st s code ≡ ran n st s code
    unfolding ran run_refusal
    run_passes_on h e = rw (alone (run_fault n s code) h, e) refl

  module _ (s X : ℕ) where
    pub send_shared : (k : ℕ) → k ≡ refusal_then n st 0 → (k ≡ 0 → ⊥) → record { answer = SendRefused k; state = st } ≡ sent n st s X
    unfolding sent send_refusal
    send_shared k e ne = rw (shared (send_fault n st s X) (λ z. ne (e ∙ z)), ← e, ne_eqb k 0 ne) refl

    -- behind them SEND's own refusals
    pub try_is : refusal_then n st 0 ≡ 0 → try_send n st s X ≡ sent n st s X
    unfolding sent send_refusal
    try_is h = rw (alone (send_fault n st s X) h) refl

    pub try_refused : {k : ℕ} → k ≡ send_fault n st s X → (k ≡ 0 → ⊥) → record { answer = SendRefused k; state = st } ≡ try_send n st s X
    try_refused {k = k} e ne = rw (← e, ne_eqb k 0 ne) refl

    pub try_sent : send_fault n st s X ≡ 0 → sends st s X ≡ try_send n st s X
    try_sent e = rw e refl

    -- what a SEND that is not refused is known by
    pub send_room : n.sites ≤ sites_most → n.depth ≤ queue_room → send_fault n st s X ≡ 0
        → (s < sites_most) × (st.counter < packets_most) × ((site_at st.sites s).outgoing.count < queue_room)
    send_room few deep e =
        let room = ltb (site_at st.sites s).outgoing.count n.depth in
        let number = ltb st.counter packets_most in
        let a = first_of (ltb s n.sites) (cond (targets n.sites X) (cond number (cond room 0 11) 12) 10) 9 0 (λ e. omega arith) e in
        let b = first_of (targets n.sites X) (cond number (cond room 0 11) 12) 10 0 (λ e. omega arith) a.1 in
        let c = first_of number (cond room 0 11) 12 0 (λ e. omega arith) b.1 in
        let d = first_of room 0 11 0 (λ e. omega arith) c.1 in
        let site = ltb-true s n.sites a.0 in
        let entry = ltb-true (site_at st.sites s).outgoing.count n.depth d.0 in
        (omega (arith, site, few), ltb-true st.counter packets_most c.0, omega (arith, entry, deep))

-- ---- RUN is the act that it stores

stored_is : (n : Network) (st : State) (s B : ℕ) (a : Act)
    → let w = patch n st.sites s a in
    stored st s (of_act n s a) B
    ≡ record { answer = w.answer; blocking = B; state = record { sites = w.sites; counter = st.counter } }
stored_is n st s B Idle = refl
stored_is n st s B (Own x) = refl
stored_is n st s B (Serve x q) = refl
stored_is n st s B (Pass x j y) = refl

-- the outputs in the way that it names
abbrev pub in_the_way : Network → State → ℕ → ℕ → ℕ
in_the_way n st s code = blocking_at n s (site_at st.sites s) code

pub run_stored : (n : Network) (st : State) (s code : ℕ) → stored st s (act_of n st.sites s code) (in_the_way n st s code) ≡ runs n st s code
unfolding run act_of
run_stored n st s code = stored_is n st s (in_the_way n st s code) (act n s (site_at st.sites s) (ends n st.sites s) code)

-- what is seen is enough
pub act_seen : (n : Network) (xs : List Site) (s code : ℕ) {v : Seen} → v ≡ seen_at n xs s
    → of_act n s (act n s v.site (far_at v.far) code) ≡ act_of n xs s code
unfolding act_of
act_seen n xs s code e =
    let x = site_at xs s in
    let far = ends n xs s in
    ap (λ (v : Seen). of_act n s (act n s v.site (far_at v.far) code)) e
    ∙ ap (of_act n s) (act_same n s x (far_at (four_ends far)) far (λ j h e. four_at far j h) code)

pub looked_seen : (n : Network) (xs : List Site) (s code : ℕ) {v : Seen} → v ≡ seen_at n xs s → {c : Did}
    → c ≡ of_act n s (act n s v.site (far_at v.far) code) → record { act = c; site = v.site } ≡ looked n xs s code
looked_seen n xs s code e f =
    ap₂ (λ (c : Did) (x : Site). record { act = c; site = x }) (f ∙ act_seen n xs s code e) (ap (λ (v : Seen). v.site) e)

pub looked_act : {v w : Looked} → v ≡ w → v.act ≡ w.act
looked_act e = ap (λ (u : Looked). u.act) e

-- at a site of a valid network what RUN does can be stored
pub act_storable : (n : Network) → network_refusal n ≡ 0 → (xs : List Site) (s code : ℕ) → s < n.sites → {c : Did}
    → c ≡ act_of n xs s code → (s < sites_most) × Passable c
unfolding act_of
act_storable n ok xs s code h e =
    let v = valid_ok n ok in
    (omega (arith, v.few, h), rw e (act_passable n v s (site_at xs s) h (ends n xs s) code))

-- the answer, the outputs in the way and the state by themselves
abbrev left : Ran → ℕ → State → AfterRun
left a B y = record { answer = a; blocking = B; state = y }

pub run_done : (n : Network) (st : State) (s code : ℕ) {c : Did} → c ≡ act_of n st.sites s code → {a : Ran} → a ≡ answer_to c s
    → {y : State} → y ≡ stored_state st s c → {B : ℕ} → B ≡ in_the_way n st s code → left a B y ≡ runs n st s code
run_done n st s code {c = c} e ha hy {B = B} hB =
    ap₂ (λ (a : Ran) (y : State). left a B y) ha hy ∙ ap (stored st s c) hB
    ∙ ap (λ (k : Did). stored st s k (in_the_way n st s code)) e ∙ run_stored n st s code

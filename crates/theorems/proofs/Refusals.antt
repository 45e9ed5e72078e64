-- The two ways of an event, and what one that is not refused is known by: the tests of the refusals 3, 6, 7, 13, 9, 10, 12, 11,
-- taken apart. Assumes nothing.
use Prim.Native.Nat.{ℕ, ◌<◌}
use mathlib.Core.Path.{◌≡◌, refl}
use mathlib.Core.Bool.{Bool, true, false, cond, ◌&&◌}
use native.Mathlib.Omega.{arith}
use borrow.Author.Tests.{ltb-true, eqb-true, eqb-false}
use lib.Dec.{eqb, ltb}
use Rattle.base.specs.Sizes.{packets_most}
use Rattle.base.specs.Bools.{both, first_of, cond_ok}
use Rattle.sets.specs.Sets.{targets}
use Rattle.draws.specs.Draws.{codes_in}
use Rattle.theorems.specs.Names.{State, Network, SendRefused, RunRefused, AfterSend, AfterRun}
use Rattle.model.specs.Types.{site_at}
use Rattle.model.specs.Network.{network_refusal}
use Rattle.model.specs.Range.{in_range}
use Rattle.model.specs.Events.{refusal_then, run_fault, send_fault, run_refusal, send_refusal, runs, sends, ran, sent}

pub not_refused : (n : Network) (st : State) (own : ℕ) → refusal_then n st own ≡ 0
    → (network_refusal n ≡ 0) × (in_range n st ≡ true) × (own ≡ 0)
not_refused n st own h = go (eqb (network_refusal n) 0) refl h
  where
    go : (b : Bool) → eqb (network_refusal n) 0 ≡ b → cond b (cond (in_range n st) own 13) (network_refusal n) ≡ 0
        → (network_refusal n ≡ 0) × (in_range n st ≡ true) × (own ≡ 0)
    go true e k = let f = first_of (in_range n st) own 13 0 (λ z. omega arith) k in (eqb-true (network_refusal n) 0 e, f.0, f.1)
    go false e k = absurd (eqb-false (network_refusal n) 0 e k)

-- a RUN that is not refused
pub record RunPasses (n : Network) (st : State) (s c : ℕ) : Type 0 where
  pub network : network_refusal n ≡ 0
  pub range : in_range n st ≡ true
  pub site : s < n.sites
  pub code : c < codes_in n.edition

pub run_passes : (n : Network) (st : State) (s code : ℕ) → run_refusal n st s code ≡ 0 → RunPasses n st s code
unfolding run_refusal
run_passes n st s code h =
    let a = not_refused n st (run_fault n s code) h in
    let b =
    both (ltb s n.sites) (ltb code (codes_in n.edition))
    (first_of (ltb s n.sites && ltb code (codes_in n.edition)) 0 9 0 (λ z. omega arith) a.2).0 in
    record { network = a.0; range = a.1; site = ltb-true _ _ b.0; code = ltb-true _ _ b.1 }

-- a SEND that is not refused
pub record SendPasses (n : Network) (st : State) (s X : ℕ) : Type 0 where
  pub network : network_refusal n ≡ 0
  pub range : in_range n st ≡ true
  pub site : s < n.sites
  pub set : targets n.sites X ≡ true
  pub number : st.counter < packets_most
  pub room : (site_at st.sites s).outgoing.count < n.depth

pub send_passes : (n : Network) (st : State) (s X : ℕ) → send_refusal n st s X ≡ 0 → SendPasses n st s X
unfolding send_refusal
send_passes n st s X h =
    let a = not_refused n st (send_fault n st s X) h in
    let b = first_of (ltb s n.sites) _ 9 0 (λ z. omega arith) a.2 in
    let c = first_of (targets n.sites X) _ 10 0 (λ z. omega arith) b.1 in
    let d = first_of (ltb st.counter packets_most) _ 12 0 (λ z. omega arith) c.1 in
    let e = first_of (ltb (site_at st.sites s).outgoing.count n.depth) 0 11 0 (λ z. omega arith) d.1 in
    record {
      network = a.0;
      range = a.1;
      site = ltb-true _ _ b.0;
      set = c.0;
      number = ltb-true _ _ d.0;
      room = ltb-true _ _ e.0;
    }

-- ---- the two ways of an event: what holds of both holds of what it leaves

pub sent_ways : (Q : AfterSend → Type 0) (n : Network) (st : State) (s X : ℕ) → (send_refusal n st s X ≡ 0 → Q (sends st s X))
    → ((f : ℕ) → eqb f 0 ≡ false → Q (record { answer = SendRefused f; state = st })) → Q (sent n st s X)
unfolding sent
sent_ways Q n st s X a b =
    cond_ok Q (eqb (send_refusal n st s X) 0) _ _ (λ h. a (eqb-true (send_refusal n st s X) 0 h)) (λ h. b (send_refusal n st s X) h)

pub ran_ways : (Q : AfterRun → Type 0) (n : Network) (st : State) (s code : ℕ) → (run_refusal n st s code ≡ 0 → Q (runs n st s code))
    → ((f : ℕ) → Q (record { answer = RunRefused f; blocking = 0; state = st })) → Q (ran n st s code)
unfolding ran
ran_ways Q n st s code a b =
    cond_ok Q (eqb (run_refusal n st s code) 0) _ _ (λ h. a (eqb-true (run_refusal n st s code) 0 h)) (λ h. b (run_refusal n st s code))

pub ran_counter : (n : Network) (st : State) (s code : ℕ) → (ran n st s code).state.counter ≡ st.counter
ran_counter n st s code = ran_ways (λ w. w.state.counter ≡ st.counter) n st s code (λ h. refl) (λ f. refl)

-- Two networks of the same sizes and edition, stored in any versions, whose channels and routes agree within S sites,
-- and that are refused alike: RUN, SEND and a list of events played singly say the same of both. Assumes nothing.
use Prim.Native.Nat.{ℕ, ◌*◌, ◌≤◌, ◌<◌}
use mathlib.Core.Path.{◌≡◌, refl, ap, ap₂, ◌∙◌}
use mathlib.Core.List.{List, [], ◌∷◌}
use borrow.Author.Tests.{eqb-true}
use lib.Dec.{eqb}
use lib.ListN.{get_or}
use Rattle.base.specs.Sizes.{sites_most, port_count}
use Rattle.base.specs.Bools.{either_way}
use Rattle.theorems.specs.Names.{State, Network, AfterRun, AfterSend}
use Rattle.model.specs.Network.{channel_at, network_refusal}
use Rattle.model.specs.Range.{in_range}
use Rattle.model.specs.Steps.{Stepped}
use Rattle.model.specs.Events.{Event, Send, Run, run_refusal, send_refusal, runs, ran, sent}
use Rattle.model.specs.Runs.{Timed, Played, send_played, run_played, advance_singly, played_singly}
use Rattle.theorems.proofs.Networks.{valid_ok}
use Rattle.theorems.proofs.Refusals.{run_passes}
use Rattle.theorems.proofs.Demand3.{seek_set}
use Rattle.theorems.proofs.RoomLaws.{other_than, run_same, blocking_same}

module _ (n : Network) (v : ℕ) (cs rs : List ℕ)
    (hc : n.sites ≤ sites_most → (m : ℕ) → m < port_count * n.sites → get_or cs m 0 ≡ channel_at n m)
    (hr : n.sites ≤ sites_most → (m : ℕ) → m < n.sites * n.sites → get_or rs m 0 ≡ get_or n.routes m 0) where
  abbrev other : Network
  other = other_than n v cs rs

  module _ (refused : network_refusal other ≡ network_refusal n) where
    run_refusal_lem : (st : State) (s code : ℕ) → run_refusal other st s code ≡ run_refusal n st s code
    unfolding run_refusal in_range
    run_refusal_lem st s code = rw refused refl

    send_refusal_lem : (st : State) (s X : ℕ) → send_refusal other st s X ≡ send_refusal n st s X
    unfolding send_refusal in_range
    send_refusal_lem st s X = rw refused refl

    runs_same : (st : State) (s code : ℕ) → run_refusal n st s code ≡ 0 → runs other st s code ≡ runs n st s code
    runs_same st s code h =
        let w = run_passes n st s code h in
        let few = (valid_ok n w.network).few in
        let sets = seek_set n st s few w.range w.site in
        let left : Stepped → ℕ → AfterRun =
        λ r B. record { answer = r.answer; blocking = B; state = record { sites = r.sites; counter = st.counter } } in
        ap₂ left (run_same n v cs rs (hc few) (hr few) s w.site st.sites few sets code)
        (blocking_same n v cs rs (hc few) (hr few) s w.site st.sites few sets code)

    pub alike_ran : (st : State) (s code : ℕ) → ran other st s code ≡ ran n st s code
    unfolding ran
    alike_ran st s code =
        rw (run_refusal_lem st s code)
        (either_way (eqb (run_refusal n st s code) 0)
        (λ e. rw e (runs_same st s code (eqb-true (run_refusal n st s code) 0 e))) (λ e. rw e refl))

    pub alike_sent : (st : State) (s X : ℕ) → sent other st s X ≡ sent n st s X
    unfolding sent
    alike_sent st s X = rw (send_refusal_lem st s X) refl

    -- ---- events in order

    step_same : (g : Played) (d : ℕ) (e : Event) → advance_singly other g d e ≡ advance_singly n g d e
    step_same g d (Send s X) = ap (λ (w : AfterSend). send_played g X w w.answer) (alike_sent g.state s X)
    step_same g d (Run s code) = ap (run_played g d) (alike_ran g.state s code)

    pub alike_singly : (g : Played) (es : List Timed) → played_singly other g es ≡ played_singly n g es
    unfolding played_singly
    alike_singly g [] = refl
    alike_singly g (e ∷ es) =
        ap (λ (w : Played). played_singly other w es) (step_same g e.draw e.event)
        ∙ alike_singly (advance_singly n g e.draw e.event) es

-- Document 02, L10: RUN in edition 3 brings no abort to a site that has none. Assumes that the inputs at the ends of its channels have
-- none either.
use Prim.Native.Nat.{ℕ, zero, suc, ◌+◌, ◌-◌}
use mathlib.Core.Path.{◌≡◌, refl, sym, ap, ◌∙◌}
use mathlib.Core.List.{List}
use mathlib.Core.Bool.{Bool, true, false, not, ◌&&◌}
use lib.Dec.{eqb, ltb}
use lib.ListN.{get_or, set}
use Rattle.base.specs.Bools.{clash, cond_ok, both}
use Rattle.sets.specs.Sets.{has, minus}
use Rattle.draws.specs.Draws.{restricted}
use Rattle.theorems.specs.Names.{Connection, Handed, got_end, got_abort}
use Rattle.theorems.specs.Names.{Terminator, t_none, t_end, t_abort, t_keep, Phase, Free, Seek, Open, Wait, Done, Last, Aborted}
use Rattle.theorems.specs.Names.{FinAbort, Input, Output, OutQueue, InQueue, Site, Network}
use Rattle.model.specs.Types.{no_input, no_output, in_at, out_at, mark, queue_at, in_entry, queue_port, out_term, out_closing}
use Rattle.model.specs.Types.{pop_in, push_out, with_out_queue, set_in, set_out, set_queue}
use Rattle.types.specs.Phases.{is_free, listening, splits, is_none}
use Rattle.model.specs.Network.{joined, holds}
use Rattle.model.specs.Router.{Choice, Chosen, Unserved, unchosen, is_empty, is_chosen}
use Rattle.model.specs.NetInput.{Turn, Stay, To, ready, all_ready, table, give, taken, occupy, opened, seek, in_state, net_input}
use Rattle.model.specs.Places.{last_lacks, local_output, delivered, deliver, channel_output, out_queue}
use Rattle.model.specs.Places.{Work, Rest, Cleared, Service, requeued, service_if, operate, operator}
use Rattle.model.specs.Steps.{Act, Idle, Own, Serve, Pass, own_turn, pass_turn, work_done, operator_at, set_both, local_at, net_output, act}
use Rattle.theorems.proofs.CalmPlaces.{calm, mild, CalmQueue, CalmPlaces, CalmSite, set_in_lem, set_out_lem, set_queue_lem, over_outs}
use Rattle.theorems.proofs.CalmPlaces.{pop_calm, entry_calm, end_mild, receive_calm, CalmChoice, route_calm}

-- what RUN decides
abbrev pub CalmAct : Act → Type 0
CalmAct Idle = Unit {0}
CalmAct (Own x) = CalmSite x
CalmAct (Serve x q) = CalmSite x
CalmAct (Pass x j y) = CalmSite x × (calm y.phase ≡ true)

module _ (n : Network) (e : restricted n.edition ≡ true) (s : ℕ) (x : Site) (ok : CalmSite x) where
  -- net-input i and the outputs
  module _ (i : ℕ) where
    abbrev CalmTurn : Turn Input (List Output) → Type 0
    CalmTurn Stay = Unit {0}
    CalmTurn (To y os) = CalmPlaces (set x.inputs i y) os x.incoming

    abbrev y : Input
    y = in_at x i

    opened_calm : (c : Connection) (sets : List ℕ) → not (splits c) ≡ true → CalmTurn (opened i y x.outputs c sets)
    unfolding occupy
    opened_calm c sets h =
        over_outs (set_in_lem ok i _ h) _
        (λ j.
        cond_ok (λ (o : Output). mild o.terminator ≡ true) (is_chosen sets j) (taken y.packet i (get_or sets j 0)) (out_at x j)
        (λ a. refl) (λ a. ok.outputs j))

    seek_calm : (r : Choice) → calm y.phase ≡ true → CalmChoice r → CalmTurn (seek n.tries i y x.outputs r)
    unfolding seek
    seek_calm (Chosen c sets) h k = opened_calm c sets k
    seek_calm Unserved h k =
        cond_ok CalmTurn (ltb y.tries n.tries) _ _ (λ a. set_in_lem ok i _ h)
        (λ a. cond_ok CalmTurn (is_empty x.outputs 0) _ _ (λ b. opened_calm Handed (set unchosen 0 y.set) refl) (λ b. tt))

    given_calm : (f : ℕ → Terminator) → ((j : ℕ) → mild (f j) ≡ true)
        → CalmTurn (To no_input (give f y.outputs x.outputs))
    unfolding give
    given_calm f h =
        over_outs (set_in_lem ok i no_input refl) _
        (λ j.
        cond_ok (λ (o : Output). mild o.terminator ≡ true) (mark y.outputs j) (out_term (out_at x j) (f j)) (out_at x j)
        (λ a. h j) (λ a. ok.outputs j))

    state_calm : (isReady : ℕ → Bool) (ph : Phase) → y.phase ≡ ph → CalmTurn (in_state n s i y x.outputs isReady ph)
    unfolding in_state
    state_calm isReady Free p = tt
    state_calm isReady Seek p = seek_calm _ (ok.inputs i) (route_calm n s x.outputs y.set e)
    state_calm isReady (Open c) p =
        let h = sym (ap calm p) ∙ ok.inputs i in
        cond_ok CalmTurn (all_ready isReady y.outputs) _ _ (λ a. tt) (λ a. set_in_lem ok i _ h)
    state_calm isReady (Wait c) p =
        let h = sym (ap calm p) ∙ ok.inputs i in
        cond_ok CalmTurn (all_ready isReady y.outputs) _ _ (λ a. set_in_lem ok i _ h) (λ a. tt)
    state_calm isReady (Done c got_end) p =
        let h = sym (ap calm p) ∙ ok.inputs i in
        cond_ok CalmTurn (all_ready isReady y.outputs) _ _
        (λ a. given_calm (table got_end c) (λ j. end_mild c j (both (not (splits c)) true h).0)) (λ a. set_in_lem ok i _ h)
    state_calm isReady (Done c got_abort) p =
        absurd (clash (sym (both (not (splits c)) false (sym (ap calm p) ∙ ok.inputs i)).1))
    state_calm isReady (Last c r) p =
        let h = sym (ap calm p) ∙ ok.inputs i in
        cond_ok CalmTurn (all_ready isReady y.outputs) _ _ (λ a. set_in_lem ok i _ h) (λ a. tt)
    state_calm isReady (Aborted c) p = tt
    state_calm isReady (FinAbort c r) p = absurd (clash (sym (sym (ap calm p) ∙ ok.inputs i)))

    turn_calm : (r : Turn Input (List Output)) → CalmTurn r → CalmAct (own_turn (set_both x i) r)
    turn_calm Stay h = tt
    turn_calm (To v os) h = h

  -- in-queue m, its output and its operator
  module _ (m : ℕ) where
    abbrev iq : InQueue
    iq = queue_at x m

    abbrev CalmLanding : Turn Output InQueue → Type 0
    CalmLanding Stay = Unit {0}
    CalmLanding (To o q) = (mild o.terminator ≡ true) × CalmQueue q

    landing_calm : (o : Output) → mild o.terminator ≡ true → CalmLanding (local_output n.depth o iq)
    unfolding local_output
    landing_calm o h =
        cond_ok CalmLanding o.used _ _
        (λ a.
        cond_ok CalmLanding o.head _ _
        (λ b.
        cond_ok CalmLanding (is_none o.terminator) _ _ (λ c. tt)
        (λ c.
        cond_ok CalmLanding (last_lacks iq) _ _ (λ d. (refl, entry_calm iq (iq.count - 1) iq.count _ (ok.queues m) h)) (λ d. tt)))
        (λ b.
        cond_ok CalmLanding (ltb iq.count n.depth) _ _
        (λ d. (h, entry_calm iq iq.count (iq.count + 1) _ (ok.queues m) refl)) (λ d. tt)))
        (λ a. tt)

    landed_calm : (j : ℕ) (r : Turn Output InQueue) → CalmLanding r
        → CalmAct (own_turn (λ o q. set_out (set_queue x m q) j o) r)
    landed_calm j Stay h = tt
    landed_calm j (To o q) h = set_out_lem (set_queue_lem ok m q h.1) j o h.0

    local_calm : CalmAct (local_at n.depth x m)
    local_calm =
        landed_calm (queue_port m) (local_output n.depth (out_at x (queue_port m)) iq)
        (landing_calm (out_at x (queue_port m)) (ok.outputs (queue_port m)))

    abbrev CalmWork : Work → Type 0
    CalmWork Rest = Unit {0}
    CalmWork (Cleared q oq) = CalmQueue q
    CalmWork (Service q oq p) = CalmQueue q

    service_calm : (p X : ℕ) (q : InQueue) (oq : OutQueue) → CalmQueue q → CalmWork (service_if s p X q oq)
    service_calm p X q oq h = cond_ok CalmWork (has s X) _ _ (λ a. h) (λ a. h)

    operate_calm : (p X : ℕ) (h : Terminator) → CalmWork (operate n.depth s iq x.outgoing p X h)
    unfolding operate
    operate_calm p X t_none = tt
    operate_calm p X t_abort = pop_calm iq (ok.queues m)
    operate_calm p X t_keep = service_calm p X (pop_in iq) x.outgoing (pop_calm iq (ok.queues m))
    operate_calm p X t_end =
        let popped = pop_calm iq (ok.queues m) in
        cond_ok CalmWork (eqb (minus s X) 0) _ _ (λ a. service_calm p X (pop_in iq) x.outgoing popped)
        (λ a.
        cond_ok CalmWork (ltb x.outgoing.count n.depth) _ _
        (λ b. service_calm p X (pop_in iq) (push_out x.outgoing (requeued s p X)) popped) (λ b. tt))

    work_calm : (r : Work) → CalmWork r → CalmAct (work_done x m r)
    work_calm Rest h = tt
    work_calm (Cleared q oq) h = set_queue_lem ok m q h
    work_calm (Service q oq p) h = set_queue_lem ok m q h

    operator_calm : CalmAct (operator_at n.depth s x m)
    operator_calm =
        work_calm (operator n.depth s iq x.outgoing)
        (cond_ok CalmWork (ltb 0 iq.count) _ _
        (λ a. operate_calm (in_entry iq 0).packet (in_entry iq 0).set (in_entry iq 0).terminator) (λ a. tt))

  -- net-output j of 1 to 4, with the input at the end of its channel
  module _ (far : ℕ → Input) (quiet : (j : ℕ) → calm (far j).phase ≡ true) where
    abbrev CalmPassing : Turn Output Input → Type 0
    CalmPassing Stay = Unit {0}
    CalmPassing (To o v) = (mild o.terminator ≡ true) × (calm v.phase ≡ true)

    module _ (there : Bool) (o : Output) (v : Input) (h : mild o.terminator ≡ true) (k : calm v.phase ≡ true) where
      delivered_mild : mild (delivered n.edition o).terminator ≡ true
      delivered_mild =
          cond_ok (λ (w : Output). mild w.terminator ≡ true) (holds n.edition) (out_closing o) no_output (λ a. refl) (λ a. refl)

      deliver_calm : (t : Terminator) → mild t ≡ true → CalmPassing (deliver n.edition there o v t)
      unfolding deliver
      deliver_calm t_none g = tt
      deliver_calm t_end g =
          cond_ok CalmPassing (there && listening v.phase) _ _ (λ a. (delivered_mild, receive_calm v.phase k)) (λ a. tt)
      deliver_calm t_abort g = absurd (clash (sym g))
      deliver_calm t_keep g = tt

      channel_calm : CalmPassing (channel_output n.edition there o v)
      unfolding channel_output
      channel_calm =
          cond_ok CalmPassing o.used _ _
          (λ a.
          cond_ok CalmPassing o.head _ _
          (λ b.
          cond_ok CalmPassing o.closing _ _
          (λ c. cond_ok CalmPassing (there && is_free v.phase) _ _ (λ d. (refl, k)) (λ d. tt))
          (λ c. deliver_calm o.terminator h))
          (λ b. cond_ok CalmPassing (there && is_free v.phase) _ _ (λ d. (h, refl)) (λ d. tt)))
          (λ a. tt)

    passed_calm : (j : ℕ) (r : Turn Output Input) → CalmPassing r → CalmAct (pass_turn x j r)
    passed_calm j Stay h = tt
    passed_calm j (To o v) h = (set_out_lem ok j o h.0, h.1)

    output_calm : (j : ℕ) → CalmAct (net_output n s x far j)
    unfolding net_output
    output_calm zero = local_calm 0
    output_calm (suc j) =
        passed_calm (suc j) (channel_output n.edition (joined n s (suc j)) (out_at x (suc j)) (far (suc j)))
        (channel_calm (joined n s (suc j)) (out_at x (suc j)) (far (suc j)) (ok.outputs (suc j)) (quiet (suc j)))

    abbrev CalmLeaving : Turn OutQueue Input → Type 0
    CalmLeaving Stay = Unit {0}
    CalmLeaving (To oq v) = calm v.phase ≡ true

    leaving_calm : (oq : OutQueue) (v : Input) → calm v.phase ≡ true → CalmLeaving (out_queue oq v)
    unfolding out_queue
    leaving_calm oq v k =
        cond_ok CalmLeaving (ltb 0 oq.count) _ _
        (λ a.
        cond_ok CalmLeaving (get_or oq.entries 0 _).started _ _
        (λ b. cond_ok CalmLeaving (listening v.phase) _ _ (λ c. receive_calm v.phase k) (λ c. tt))
        (λ b. cond_ok CalmLeaving (is_free v.phase) _ _ (λ c. refl) (λ c. tt)))
        (λ a. tt)

    left_calm : (r : Turn OutQueue Input) → CalmLeaving r
        → CalmAct (own_turn (λ oq v. set_in (with_out_queue x oq) 0 v) r)
    left_calm Stay h = tt
    left_calm (To oq v) h = set_in_lem ok 0 v h

    pub act_calm : (code : ℕ) → CalmAct (act n s x far code)
    unfolding act
    act_calm code =
        let isReady = ready (joined n s) far x.outputs in
        cond_ok CalmAct (ltb code 5) _ _
        (λ a. turn_calm code (net_input n s code (in_at x code) x.outputs isReady) (state_calm code isReady (in_at x code).phase refl))
        (λ a.
        cond_ok CalmAct (ltb code 10) _ _ (λ b. output_calm (code - 5))
        (λ b.
        cond_ok CalmAct (eqb code 10) _ _ (λ c. left_calm (out_queue x.outgoing (in_at x 0)) (leaving_calm x.outgoing (in_at x 0) (ok.inputs 0)))
        (λ c.
        cond_ok CalmAct (eqb code 11) _ _ (λ d. operator_calm 0)
        (λ d.
        cond_ok CalmAct (eqb code 12) _ _ (λ f. rw e tt)
        (λ f.
        cond_ok CalmAct (eqb code 13) _ _ (λ g. local_calm 1)
        (λ g. cond_ok CalmAct (eqb code 14) _ _ (λ h. operator_calm 1) (λ h. tt)))))))

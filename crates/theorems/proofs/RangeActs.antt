-- What RUN decides keeps its own site in range and changes it, and the input at the end of a channel. Assumes a valid network, the
-- site in range, and a site of the network.
use Prim.Native.Nat.{ℕ, zero, suc, ◌-◌, ◌≤◌, ◌<◌}
use mathlib.Core.Path.{◌≡◌, refl, sym, ap, ◌∙◌}
use mathlib.Core.List.{List}
use mathlib.Core.Bool.{Bool, true, not, ◌&&◌}
use native.Mathlib.Omega.{arith}
use borrow.Author.Tests.{ltb-true}
use lib.Dec.{eqb, ltb}
use lib.ListN.{set, length, length-set}
use lib.Seq.{get_or-set_same}
use Rattle.base.specs.Sizes.{input_count, output_count, port_count, in_queue_count}
use Rattle.base.specs.Bools.{cond_ok, both, both3}
use Rattle.base.specs.Lists.{all_but}
use Rattle.theorems.specs.Names.{Input, Output, OutQueue, InQueue, Site, Network}
use Rattle.model.specs.Types.{input_d, no_output, in_queue_d, in_at, out_of, out_at, queue_at, queue_port, with_out_queue}
use Rattle.model.specs.Types.{carries, set_in, set_out, set_queue}
use Rattle.draws.specs.Draws.{restricted}
use Rattle.model.specs.Network.{joined}
use Rattle.types.specs.Phases.{is_none}
use Rattle.model.specs.NetInput.{Turn, Stay, To, ready, net_input}
use Rattle.model.specs.Places.{last_lacks, local_output, channel_output, out_queue, Work, Rest, Cleared, Service, operator, cut_at}
use Rattle.model.specs.Places.{stalled, timeout}
use Rattle.model.specs.Steps.{Act, Idle, Own, Serve, Pass, own_turn, pass_turn, work_done, operator_at, local_at, set_both, net_output, act}
use Rattle.theorems.proofs.Networks.{Valid}
use Rattle.theorems.proofs.RangeTests.{InputIn}
use Rattle.theorems.proofs.RangeQueues.{OutQueueIn, InQueueIn}
use Rattle.theorems.proofs.RangeSites.{frame, SiteIn, in_set, out_set, outgoing_set, incoming_set}
use Rattle.theorems.proofs.RangePlaces.{TurnIn, OutputTo, InputTo, QueuesTo, WorkIn, channel_output_in, local_output_in}
use Rattle.theorems.proofs.RangePlaces.{out_queue_in, operator_in}
use Rattle.theorems.proofs.RangeInputs.{InputOutputsTo, in_state_in}
use Rattle.theorems.proofs.RangeTimeouts.{cut_at_in}

-- its own site, x before
pub record SiteTo (n : Network) (k : ℕ) (x x' : Site) : Type 0 where
  pub inn : SiteIn n k x'
  pub moved : x' ≡ x → ⊥

-- the same where channel j + 1 passes something on, and the input at its end, which was y
pub record PassTo (n : Network) (s k : ℕ) (x x' : Site) (j : ℕ) (y y' : Input) : Type 0 where
  pub there : joined n s (suc j) ≡ true
  pub inn : SiteIn n k x'
  pub inputs : x'.inputs ≡ x.inputs
  pub moved : x'.outputs ≡ x.outputs → ⊥
  pub far : InputTo n k y y'

abbrev pub ActIn : Network → ℕ → ℕ → Site → (ℕ → Input) → Act → Type 0
ActIn n s k x far Idle = Unit {0}
ActIn n s k x far (Own x') = SiteTo n k x x'
ActIn n s k x far (Serve x' q) = SiteTo n k x x' × (q < k)
ActIn n s k x far (Pass x' zero y) = ⊥
ActIn n s k x far (Pass x' (suc j) y) = (j < port_count) × PassTo n s k x x' j (far (suc j)) y

module _ (n : Network) (val : Valid n) (s : ℕ) (hs : s < n.sites) (k : ℕ) (x : Site) (ok : SiteIn n k x)
    (far : ℕ → Input) where
  abbrev Decided : Act → Type 0
  Decided = ActIn n s k x far

  -- an input and the outputs changed
  both_act : (i : ℕ) → i < input_count → (r : Turn Input (List Output))
      → TurnIn (InputOutputsTo n k i (in_at x i) x.outputs) r → Decided (own_turn (set_both x i) r)
  both_act i hi Stay h = tt
  both_act i hi (To v os) h =
      let room : i < length x.inputs = omega (arith, ok.inputs) in
      record {
        inn =
            record {
              inputs = length-set x.inputs i v ∙ ok.inputs;
              outputs = h.outs.full;
              ins =
                  all_but (λ m y. InputIn n k m (out_of os) y) x.inputs i v input_d room h.inn
                  (λ m e. frame (out_of os) (h.outs.others m e) (ok.ins m));
              outs = h.outs.each;
              outgoing = ok.outgoing;
              incoming = ok.incoming;
              queues = ok.queues;
            };
        moved = λ e. h.moved (sym (get_or-set_same x.inputs i v input_d room) ∙ ap (λ (w : Site). in_at w i) e);
      }

  input_act_lem : (i : ℕ) → i < input_count → (isReady : ℕ → Bool)
      → Decided (own_turn (set_both x i) (net_input n s i (in_at x i) x.outputs isReady))
  input_act_lem i hi isReady =
      both_act i hi (net_input n s i (in_at x i) x.outputs isReady)
      (in_state_in n k i (in_at x i) x.outputs hi ok.outputs (ok.ins i) ok.outs val.few s hs isReady
      (in_at x i).phase refl)

  -- L10: in edition 3 "timeouts do nothing"
  timeout_act_lem :
      Decided
      (own_turn (set_both x (out_at x 0).input) (timeout n.edition (queue_at x 0) x.outputs (in_at x (out_at x 0).input)))
  timeout_act_lem =
      let i = (out_at x 0).input in
      let Turned : Turn Input (List Output) → Type 0 = λ r. Decided (own_turn (set_both x i) r) in
      cond_ok Turned (restricted n.edition) _ _ (λ r. tt)
      (λ r.
      cond_ok Turned (last_lacks (queue_at x 0) && stalled (out_at x 0)) _ _
      (λ a.
      let b = both (last_lacks (queue_at x 0)) (stalled (out_at x 0)) a in
      let o = out_at x 0 in
      let c = (both3 (carries o) (is_none o.terminator) o.head b.1).0 in
      let hi = (ok.outs 0).from (both o.used (not o.closing) c).0 in
      both_act i hi (cut_at (in_at x i) x.outputs (in_at x i).phase)
      (cut_at_in n k i (in_at x i) x.outputs hi ok.outputs (ok.ins i) ok.outs (in_at x i).phase refl))
      (λ a. tt))

  -- an output changed
  new_out : (j : ℕ) (v : Output) → j < output_count → set x.outputs j v ≡ x.outputs → v ≡ out_at x j
  new_out j v hj e =
      sym (get_or-set_same x.outputs j v no_output (omega (arith, ok.outputs))) ∙ ap (λ os. out_of os j) e

  -- in-queue m and the output that fills it
  local_act_lem : (m : ℕ) → m < in_queue_count → Decided (local_at n.depth x m)
  local_act_lem m hm =
      act (local_output n.depth (out_at x j) (queue_at x m))
      (local_output_in n k val.deep m hm (out_at x j) (queue_at x m) (ok.outs j) (ok.queues m hm))
    where
      j : ℕ
      j = queue_port m

      act : (r : Turn Output InQueue) → TurnIn (λ v q. OutputTo n k (queue_port m) (out_at x (queue_port m)) v × InQueueIn n k m q) r
          → Decided (own_turn (λ o q. set_out (set_queue x m q) (queue_port m) o) r)
      act Stay h = tt
      act (To v q) h =
          record {
            inn = out_set n k (set_queue x m q) (incoming_set n k x ok m q h.1) j v h.0.inn h.0.fed;
            moved = λ e. h.0.moved (new_out j v (omega arith) (ap (λ (w : Site). w.outputs) e));
          }

  pass_act : (j : ℕ) → j < port_count → (r : Turn Output Input)
      → TurnIn (λ v y. (joined n s (suc j) ≡ true) × OutputTo n k (suc j) (out_at x (suc j)) v × InputTo n k (far (suc j)) y) r
      → Decided (pass_turn x (suc j) r)
  pass_act j hj Stay h = tt
  pass_act j hj (To v y) h = (
    hj,
    record {
      there = h.0;
      inn = out_set n k x ok (suc j) v h.1.inn h.1.fed;
      inputs = refl;
      moved = λ e. h.1.moved (new_out (suc j) v (omega arith) e);
      far = h.2;
    },
  )

  output_act : (j : ℕ) → j ≤ port_count → Decided (net_output n s x far j)
  unfolding net_output
  output_act zero hj = local_act_lem 0 (omega arith)
  output_act (suc j) hj =
      pass_act j hj (channel_output n.edition (joined n s (suc j)) (out_at x (suc j)) (far (suc j)))
      (channel_output_in n k (joined n s (suc j)) j hj (out_at x (suc j)) (far (suc j)) (ok.outs (suc j)))

  -- queues changed
  queue_act_lem : (r : Turn OutQueue Input)
      → TurnIn (λ q v. OutQueueIn n k q × InputTo n k (in_at x 0) v × (q ≡ x.outgoing → v ≡ in_at x 0 → ⊥)) r
      → Decided (own_turn (λ q y. set_in (with_out_queue x q) 0 y) r)
  queue_act_lem Stay h = tt
  queue_act_lem (To q v) h =
      record {
        inn = in_set n k (with_out_queue x q) (outgoing_set n k x ok q h.0) 0 v (h.1 0 (out_at x) (ok.ins 0));
        moved =
            λ e.
            h.2 (ap (λ (w : Site). w.outgoing) e)
            (sym (get_or-set_same x.inputs 0 v input_d (omega (arith, ok.inputs))) ∙ ap (λ (w : Site). in_at w 0) e);
      }

  -- the operator at in-queue m
  module _ (m : ℕ) (hm : m < in_queue_count) where
    queues_to : (a : InQueue) (b : OutQueue) → QueuesTo n k m (queue_at x m) a b
        → SiteTo n k x (with_out_queue (set_queue x m a) b)
    queues_to a b h =
        record {
          inn = outgoing_set n k (set_queue x m a) (incoming_set n k x ok m a h.incoming) b h.outgoing;
          moved =
              λ e.
              h.moved
              (sym (get_or-set_same x.incoming m a in_queue_d (omega (arith, ok.incoming))) ∙ ap (λ (w : Site). queue_at w m) e);
        }

    work_act : (r : Work) → WorkIn n k m (queue_at x m) r → Decided (work_done x m r)
    work_act Rest h = tt
    work_act (Cleared a b) h = queues_to a b h
    work_act (Service a b q) h = (queues_to a b h.0, h.1)

    operator_act_lem : Decided (operator_at n.depth s x m)
    operator_act_lem =
        work_act (operator n.depth s (queue_at x m) x.outgoing)
        (operator_in n k val.deep m s (queue_at x m) x.outgoing (ok.queues m hm) ok.outgoing)

  pub act_in : (code : ℕ) → Decided (act n s x far code)
  unfolding act
  act_in code =
      cond_ok Decided (ltb code 5) _ _ (λ a. input_act_lem code (ltb-true code 5 a) (ready (joined n s) far x.outputs))
      (λ a.
      cond_ok Decided (ltb code 10) _ _ (λ b. output_act (code - 5) (omega (arith, ltb-true code 10 b)))
      (λ b.
      cond_ok Decided (eqb code 10) _ _
      (λ c.
      queue_act_lem (out_queue x.outgoing (in_at x 0))
      (out_queue_in n k val.deep x.outgoing (in_at x 0) ok.outgoing))
      (λ c.
      cond_ok Decided (eqb code 11) _ _ (λ d. operator_act_lem 0 (omega arith))
      (λ d.
      cond_ok Decided (eqb code 12) _ _ (λ e. timeout_act_lem)
      (λ e.
      cond_ok Decided (eqb code 13) _ _ (λ f. local_act_lem 1 (omega arith))
      (λ f. cond_ok Decided (eqb code 14) _ _ (λ g. operator_act_lem 1 (omega arith)) (λ g. tt)))))))

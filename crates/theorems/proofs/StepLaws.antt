-- RUN of any code, and SEND's inner part, keep the invariant; what they do to what is owed. Assumes a valid network.
use Prim.Native.Nat.{ℕ, zero, suc, ◌+◌, ◌-◌, ◌^◌, ◌≤◌, ◌<◌}
use mathlib.Core.Path.{◌≡◌, refl}
use mathlib.Core.List.{List}
use mathlib.Core.Bool.{false}
use native.Mathlib.Omega.{arith}
use borrow.Author.Tests.{le-leb, ltb-true}
use lib.Dec.{eqb, ltb}
use Rattle.base.specs.Sizes.{sites_most, input_count, port_count, in_queue_count, queue_room}
use Rattle.base.specs.Bools.{cond_ok}
use Rattle.theorems.specs.Names.{t_end, Seek, OutEntry, Site, Network}
use Rattle.model.specs.Types.{site_at, in_at, out_at, queue_at, set_in, with_out_queue, push_out}
use Rattle.model.specs.Network.{joined}
use Rattle.model.specs.NetInput.{ready, net_input}
use Rattle.model.specs.Places.{out_queue, timeout}
use Rattle.model.specs.Steps.{Act, own_turn, set_both, operator_at, local_at, net_output, act, ends, patch, run, enqueue}
use Rattle.model.specs.Owing.{owes_as, owes_out_entry, owed}
use Rattle.theorems.proofs.Networks.{Valid}
use Rattle.theorems.proofs.Invariant.{SiteOk, Inv, StepOk, OwnOk, keeps_refl, keep_link, inv_set, owed_set, still, own_kept}
use Rattle.theorems.proofs.InputLaws.{input_ok, timeout_ok}
use Rattle.theorems.proofs.QueueLaws.{sum_pushed, leaving_push, out_queue_ok_lem}
use Rattle.theorems.proofs.OperatorLaws.{operator_ok}
use Rattle.theorems.proofs.OutputLaws.{local_output_ok}
use Rattle.theorems.proofs.ChannelLaws.{channel_output_ok}

module _ (n : Network) (val : Valid n) (st : List Site) (inv : Inv n st) (s : ℕ) (hs : s < n.sites) where
  abbrev x : Site
  x = site_at st s

  s16 : s < sites_most
  s16 = omega (arith, val.few)

  ok : SiteOk s x
  ok = inv.site s s16

  -- in-queue m: its output, and its operator
  module _ (m : ℕ) (hm : m < in_queue_count) where
    local_at_ok : StepOk n st (patch n st s (local_at n.depth x m))
    local_at_ok = own_kept n st s inv s16 (local_at n.depth x m) (local_output_ok s x ok m hm n.depth val.deep)

    operator_at_ok : StepOk n st (patch n st s (operator_at n.depth s x m))
    operator_at_ok = own_kept n st s inv s16 (operator_at n.depth s x m) (operator_ok s x ok m hm n.depth val.deep)

  net_output_ok : (j : ℕ) → j ≤ port_count → StepOk n st (patch n st s (net_output n s x (ends n st s) j))
  unfolding net_output
  net_output_ok zero hj = local_at_ok 0 (omega arith)
  net_output_ok (suc j) hj =
      channel_output_ok n val st inv s j hs hj (ends n st s (suc j)) (λ h. rw (le-leb (suc j) port_count hj, h) refl)

  -- an input in seek has a set that is not empty and lies within the network's sites
  pub run_ok : ((i : ℕ) → i < input_count → (in_at x i).phase ≡ Seek
      → (0 < (in_at x i).set) × ((in_at x i).set < 2 ^ n.sites)) → (code : ℕ) → StepOk n st (run n st s code)
  unfolding run act
  run_ok hx code =
      let P : Act → Type 0 = λ a. StepOk n st (patch n st s a) in
      let own : (a : Act) → OwnOk s x a → P a = own_kept n st s inv s16 in
      let isReady = ready (joined n s) (ends n st s) x.outputs in
      let front = out_queue x.outgoing (in_at x 0) in
      let i = (out_at x 0).input in
      cond_ok P (ltb code 5) _ _
      (λ h.
      let hi = ltb-true code 5 h in
      own (own_turn (set_both x code) (net_input n s code (in_at x code) x.outputs isReady))
      (input_ok s x code ok hi n isReady val.few hs (hx code hi) (in_at x code).phase refl))
      (λ a.
      cond_ok P (ltb code 10) _ _ (λ h. net_output_ok (code - 5) (omega (arith, ltb-true code 10 h)))
      (λ b.
      cond_ok P (eqb code 10) _ _
      (λ h. own (own_turn (λ q y. set_in (with_out_queue x q) 0 y) front) (out_queue_ok_lem s x ok))
      (λ c.
      cond_ok P (eqb code 11) _ _ (λ h. operator_at_ok 0 (omega arith))
      (λ d.
      cond_ok P (eqb code 12) _ _
      (λ h.
      own (own_turn (set_both x i) (timeout n.edition (queue_at x 0) x.outputs (in_at x i)))
      (timeout_ok n.edition s x ok))
      (λ e.
      cond_ok P (eqb code 13) _ _ (λ h. local_at_ok 1 (omega arith))
      (λ f. cond_ok P (eqb code 14) _ _ (λ h. operator_at_ok 1 (omega arith)) (λ g. still n st inv)))))))

  -- a packet q sent to the set X: X is owed more
  module _ (q X : ℕ) (room : x.outgoing.count < queue_room) where
    abbrev d : OutEntry
    d = record { set = X; packet = q; started = false }

    abbrev x' : Site
    x' = with_out_queue x (push_out x.outgoing d)

    pub send_inv : Inv n (enqueue st s q X)
    unfolding enqueue
    send_inv =
        inv_set n st s x' inv
        (record {
          ins = ok.ins;
          outs = ok.outs;
          leaving = leaving_push x.outgoing (in_at x 0) ok.leaving d room refl;
          queues = ok.queues;
          landing = ok.landing;
          conn = ok.conn;
          quiet = ok.quiet;
        })
        (keep_link n st s x' inv (keeps_refl x))

    pub send_owed : (p t : ℕ) → owed (enqueue st s q X) p t ≡ owed st p t + owes_as t_end s p t q X
    unfolding enqueue
    send_owed p t =
        omega (
          arith,
          owed_set n st s x' inv p t s16,
          sum_pushed x.outgoing.entries x.outgoing.count ok.leaving.fits (owes_out_entry s p t) d room,
        )

-- One output changed: every input stays connected as it was. The rules of net-output 0 and of the split output, each with its
-- in-queue, keep the invariant and what is owed. Assumes nothing.
use Prim.Native.Nat.{ℕ, suc, ◌+◌, ◌-◌, ◌≤◌, ◌<◌}
use mathlib.Core.Path.{◌≡◌, refl, sym, ap, ◌∙◌, subst}
use mathlib.Core.List.{[]}
use mathlib.Core.Bool.{Bool, true, false, cond}
use native.Mathlib.Omega.{arith}
use borrow.Author.Tests.{ltb-true}
use lib.Dec.{ltb}
use lib.ListN.{length, length-set}
use lib.Seq.{get_or-set_same, get_or-set_other}
use Rattle.base.specs.Sizes.{port_count, in_queue_count, queue_room}
use Rattle.base.specs.Bools.{clash, cond_ok, either_way}
use Rattle.base.specs.Lists.{all_set, all_but, rel_set, proj_set}
use Rattle.base.specs.Sums.{sum_set}
use Rattle.theorems.specs.Names.{Terminator, t_none, Output, InEntry, InQueue, Site}
use Rattle.model.specs.Types.{no_output, in_queue_d, in_at, out_at, queue_at, queue_port, out_head, entry_term, set_queue, set_out, push_in}
use Rattle.types.specs.Phases.{is_none}
use Rattle.model.specs.NetInput.{Turn}
use Rattle.model.specs.Places.{last_of, last_lacks, end_last, head_in, term_in, local_output}
use Rattle.model.specs.Steps.{own_turn}
use Rattle.model.specs.Owing.{owes_as, owes_output, owes_in_entry, owes_in_queue}
use Rattle.theorems.proofs.Invariant.{tag, tag_out, due, idle, closing_idle, Quiet, Fed, Conn, Landing, SiteOk, SameHead, Good, OwnOk}
use Rattle.theorems.proofs.ConnectionLaws.{tag_owes, core, conn_frame}
use Rattle.theorems.proofs.QueueLaws.{fits_push, fits_set, sum_pushed, push_waiting, end_owes}

-- ---- output j becomes v: every input stays connected as it was

module _ (s : ℕ) (x : Site) (j : ℕ) (v : Output) (ok : SiteOk s x) where
  -- v differs in its head at most
  module _ (e : core v ≡ core (out_at x j)) where
    same_core : (k : ℕ) → core (out_at (set_out x j v) k) ≡ core (out_at x k)
    same_core k = proj_set core x.outputs j k v no_output e

    core_conn : (i : ℕ) → Conn s i (in_at x i) (out_at (set_out x j v))
    core_conn i =
        conn_frame i (out_at x) (out_at (set_out x j v)) (λ k f. same_core k) s (in_at x i) (ok.conn i)

    core_quiet : (k : ℕ) → Quiet (out_at (set_out x j v) k)
    core_quiet k h =
        let c = same_core k in
        ap (λ (o : Output). o.terminator) c ∙ ok.quiet k (sym (ap idle c) ∙ h)

  -- the output was fed by none, and v has no terminator
  module _ (unfed : (i : ℕ) → Fed i (out_at x j) → ⊥) (bare : v.terminator ≡ t_none) where
    gone_conn : (i : ℕ) → Conn s i (in_at x i) (out_at (set_out x j v))
    gone_conn i =
        conn_frame i (out_at x) (out_at (set_out x j v))
        (rel_set (λ a b. Fed i a → core b ≡ core a) x.outputs j v no_output (λ a f. refl) (λ f. absurd (unfed i f)))
        s (in_at x i) (ok.conn i)

    gone_quiet : (k : ℕ) → Quiet (out_at (set_out x j v) k)
    gone_quiet = all_set (λ k o. Quiet o) x.outputs j v no_output (λ h. bare) ok.quiet

-- an output with a terminator is fed by none
pub unfed_term : {i : ℕ} {o : Output} → is_none o.terminator ≡ false → Fed i o → ⊥
unfed_term e f = clash (sym (ap is_none f.bare) ∙ e)

-- and so is one that is closing
pub unfed_closing : {i : ℕ} {o : Output} → o.closing ≡ true → Fed i o → ⊥
unfed_closing e f = clash (sym e ∙ f.stays)

-- ---- output j + 1 alone, which fills no in-queue

module _ (s : ℕ) (x : Site) (j : ℕ) (v : Output) (ok : SiteOk s x) (hj : j < port_count) where
  one_ok : ((i : ℕ) → Conn s i (in_at x i) (out_at (set_out x (suc j) v)))
      → ((k : ℕ) → Quiet (out_at (set_out x (suc j) v) k)) → SiteOk s (set_out x (suc j) v)
  one_ok con quiet =
      record {
        ins = ok.ins;
        outs = length-set x.outputs (suc j) v ∙ ok.outs;
        leaving = ok.leaving;
        queues = ok.queues;
        landing =
            λ m hm. rw (get_or-set_other x.outputs (suc j) (queue_port m) v no_output (λ e. omega arith)) (ok.landing m hm);
        conn = con;
        quiet = quiet;
      }

  -- v differs in its head at most
  pub head_ok : core v ≡ core (out_at x (suc j)) → SiteOk s (set_out x (suc j) v)
  head_ok e = one_ok (core_conn s x (suc j) v ok e) (core_quiet s x (suc j) v ok e)

  -- v has no terminator and none to come; what the output owed is set aside
  pub gone_good : ((i : ℕ) → Fed i (out_at x (suc j)) → ⊥) → v.terminator ≡ t_none → due v ≡ false
      → Good s x (set_out x (suc j) v) (λ p t. owes_output s p t (out_at x (suc j)))
  gone_good unfed bare none =
      record {
        ok = one_ok (gone_conn s x (suc j) v ok unfed bare) (gone_quiet s x (suc j) v ok unfed bare);
        keeps =
            record {
              inputs = λ k q X h. h;
              outputs =
                  λ k hk.
                  rel_set SameHead x.outputs (suc j) v no_output (λ a h. (h, refl))
                  (λ h. absurd (clash (sym h ∙ none))) (suc k);
            };
        weight =
            λ p t.
            omega (
              arith,
              sum_set (owes_output s p t) x.outputs (suc j) v no_output (omega (arith, ok.outs)),
              ap (λ (k : Terminator). owes_as k s p t v.packet v.set) bare,
            );
      }

-- ---- in-queue m and the output that fills it

module _ (s : ℕ) (x : Site) (ok : SiteOk s x) (m : ℕ) (hm : m < in_queue_count) where
  abbrev j : ℕ
  j = queue_port m

  abbrev o : Output
  o = out_at x j

  abbrev q : InQueue
  q = queue_at x m

  land : Landing q o
  land = ok.landing m hm

  lo : j < length x.outputs
  lo = omega (arith, ok.outs)

  lq : m < length x.incoming
  lq = omega (arith, ok.queues)

  -- the two changed together
  local_good : (v : Output) (r : InQueue) → Landing r v → ((i : ℕ) → Conn s i (in_at x i) (out_at (set_out x j v)))
      → ((k : ℕ) → Quiet (out_at (set_out x j v) k))
      → ((p t : ℕ) → owes_output s p t v + owes_in_queue s p t r ≡ owes_output s p t o + owes_in_queue s p t q)
      → Good s x (set_out (set_queue x m r) j v) (λ p t. 0)
  local_good v r new con quiet wt =
      record {
        ok =
            record {
              ins = ok.ins;
              outs = length-set x.outputs j v ∙ ok.outs;
              leaving = ok.leaving;
              queues = length-set x.incoming m r ∙ ok.queues;
              landing =
                  all_but (λ k iq. k < in_queue_count → Landing iq (out_at (set_out x j v) (queue_port k))) x.incoming m r in_queue_d lq
                  (λ h. subst (Landing r) (sym (get_or-set_same x.outputs j v no_output lo)) new)
                  (λ k ne h.
                  rw (get_or-set_other x.outputs j (queue_port k) v no_output (λ e. ne (omega arith))) (ok.landing k h));
              conn = con;
              quiet = quiet;
            };
        keeps =
            record {
              inputs = λ k q X h. h;
              outputs =
                  λ k hk. rw (get_or-set_other x.outputs j (suc k) v no_output (λ e. omega arith)) (λ h. (h, refl));
            };
        weight =
            λ p t.
            omega (
              arith,
              wt p t,
              sum_set (owes_output s p t) x.outputs j v no_output lo,
              sum_set (owes_in_queue s p t) x.incoming m r in_queue_d lq,
            );
      }

  abbrev TurnOk : Turn Output InQueue → Type 0
  TurnOk r = OwnOk s x (own_turn (λ o iq. set_out (set_queue x m iq) j o) r)

  head_in_ok : (D : ℕ) → D ≤ queue_room → TurnOk (head_in D o q)
  head_in_ok D deep =
      cond_ok TurnOk (ltb q.count D) _ _
      (λ h.
      let room : q.count < queue_room = omega (arith, ltb-true q.count D h) in
      let a : InEntry = record { set = o.set; terminator = t_none; packet = o.packet } in
      let fits = land.fits in
      local_good (out_head o) (push_in q a)
      (record { fits = fits_push q.entries q.count fits a room; last = λ e. push_waiting q a fits room refl })
      (core_conn s x j (out_head o) ok refl) (core_quiet s x j (out_head o) ok refl)
      (λ p t. omega (arith, sum_pushed q.entries q.count fits (owes_in_entry s p t) a room)))
      (λ h. tt)

  term_in_ok : due o ≡ true → is_none o.terminator ≡ false → TurnOk (term_in o q)
  term_in_ok hh hk =
      cond_ok TurnOk (last_lacks q) _ _
      (λ w.
      let tags : tag (last_of q).packet (last_of q).set ≡ tag_out o =
      sym (ap (λ (b : Bool). cond b (tag (last_of q).packet (last_of q).set) []) w) ∙ land.last hh in
      let fits = land.fits in
      local_good no_output (end_last q o.terminator)
      (record {
        fits = fits_set q.entries q.count fits (q.count - 1) (entry_term (last_of q) o.terminator);
        last = λ e. absurd (clash (sym e));
      })
      (gone_conn s x j no_output ok (λ i. unfed_term hk) refl) (gone_quiet s x j no_output ok (λ i. unfed_term hk) refl)
      (λ p t. omega (arith, end_owes s p t q o.terminator fits w, tag_owes o.terminator s p t tags)))
      (λ w. tt)

  -- with a terminator it is not closing
  is_due : o.used ≡ true → o.head ≡ true → is_none o.terminator ≡ false → due o ≡ true
  is_due a h e =
      either_way o.closing (λ c. absurd (clash (sym (ap is_none (ok.quiet j (closing_idle o c))) ∙ e)))
      (λ c. rw (a, h, c) refl)

  pub local_output_ok : (D : ℕ) → D ≤ queue_room → TurnOk (local_output D o q)
  unfolding local_output
  local_output_ok D deep =
      cond_ok TurnOk o.used _ _
      (λ a.
      cond_ok TurnOk o.head _ _
      (λ h. cond_ok TurnOk (is_none o.terminator) _ _ (λ e. tt) (λ e. term_in_ok (is_due a h e) e)) (λ h. head_in_ok D deep))
      (λ a. tt)

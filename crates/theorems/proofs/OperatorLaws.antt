-- The operator of either in-queue keeps the invariant; what it services is what is owed no longer. Assumes nothing.
use Prim.Native.Nat.{ℕ, ◌+◌, ◌≤◌, ◌<◌}
use mathlib.Core.Path.{◌≡◌, refl, ap, ◌∙◌}
use mathlib.Core.Bool.{Bool, true, false, cond}
use native.Mathlib.Omega.{arith}
use borrow.Author.Tests.{ltb-true, eqb-true}
use lib.Dec.{eqb, ltb}
use lib.ListN.{length, length-set}
use Rattle.base.specs.Sizes.{in_queue_count, queue_room}
use Rattle.base.specs.Bools.{cond_ok}
use Rattle.base.specs.Lists.{all_set}
use Rattle.base.specs.Sums.{sum_set}
use Rattle.sets.specs.Sets.{bit, has, minus}
use Rattle.sets.proofs.LawsBit.{bit_in, bit_out, bit_minus}
use Rattle.theorems.specs.Names.{Output, Terminator, t_none, t_end, t_abort, t_keep, OutEntry, InEntry, OutQueue, InQueue, Site, Serviced}
use Rattle.model.specs.Types.{no_in_entry, in_queue_d, in_at, out_at, in_entry, queue_at, queue_port, with_out_queue, set_queue, push_out, pop_in}
use Rattle.types.specs.Phases.{is_none}
use Rattle.model.specs.Places.{Work, service_if, operate, operator}
use Rattle.model.specs.Steps.{work_done}
use Rattle.model.specs.Events.{hits}
use Rattle.model.specs.Owing.{owes_as, owes_in_entry, owes_out_entry, owes_in_queue, owes_out_queue}
use Rattle.theorems.proofs.Invariant.{Leaving, Landing, SiteOk, Good, OwnOk, keeps_refl}
use Rattle.theorems.proofs.RouterChoices.{owes_none}
use Rattle.theorems.proofs.QueueLaws.{fits_pop, sum_popped, sum_pushed, leaving_push, pop_waiting}

-- ---- servicing

-- what a whole set owes is what keep-local owes and what the rest owes
owes_split : (s p t q X : ℕ) → owes_as t_end s p t q (minus s X) + owes_as t_keep s p t q X ≡ owes_as t_end s p t q X
owes_split s p t q X = go (eqb p q) (eqb t s) refl (bit_minus s t X)
  where
    go : (b c : Bool) → eqb t s ≡ c → bit t (minus s X) + cond c (bit s X) 0 ≡ bit t X
        → cond b (bit t (minus s X)) 0 + cond c (cond b (bit t X) 0) 0 ≡ cond b (bit t X) 0
    go true true e h = let k : bit t X ≡ bit s X = ap (λ (u : ℕ). bit u X) (eqb-true t s e) in omega arith
    go true false e h = omega arith
    go false true e h = refl
    go false false e h = refl

-- keep-local owes one service at s if s is in the set
keep_owes : (s p t q X n : ℕ) → bit s X ≡ n → owes_as t_keep s p t q X ≡ cond (eqb p q) (cond (eqb t s) n 0) 0
keep_owes s p t q X n h = go (eqb p q) (eqb t s) refl
  where
    go : (b c : Bool) → eqb t s ≡ c → cond c (cond b (bit t X) 0) 0 ≡ cond b (cond c n 0) 0
    go true true e = ap (λ (u : ℕ). bit u X) (eqb-true t s e) ∙ h
    go true false e = refl
    go false true e = refl
    go false false e = refl

no_hit : (b c : Bool) → ◌≡◌ {A = ℕ} (cond b (cond c 0 0) 0) 0
no_hit true true = refl
no_hit true false = refl
no_hit false c = refl

-- ---- the operator of in-queue m

module _ (s : ℕ) (x : Site) (ok : SiteOk s x) (m : ℕ) (hm : m < in_queue_count) where
  abbrev a : InQueue
  a = queue_at x m

  abbrev o : Output
  o = out_at x (queue_port m)

  was : Landing a o
  was = ok.landing m hm

  abbrev b : OutQueue
  b = x.outgoing

  abbrev front : InEntry
  front = in_entry a 0

  -- both queues changed
  queues_good : (a' : InQueue) (b' : OutQueue) (more : ℕ → ℕ → ℕ) → Landing a' o → Leaving b' (in_at x 0)
      → ((p t : ℕ) → owes_in_queue s p t a' + owes_out_queue s p t b' + more p t
      ≡ owes_in_queue s p t a + owes_out_queue s p t b)
      → Good s x (with_out_queue (set_queue x m a') b') more
  queues_good a' b' more land leave wt =
      record {
        ok =
            record {
              ins = ok.ins;
              outs = ok.outs;
              leaving = leave;
              queues = length-set x.incoming m a' ∙ ok.queues;
              landing =
                  all_set (λ k iq. k < in_queue_count → Landing iq (out_at x (queue_port k))) x.incoming m a' in_queue_d
                  (λ h. land) ok.landing;
              conn = ok.conn;
              quiet = ok.quiet;
            };
        keeps = keeps_refl x;
        weight =
            λ p t.
            let l : m < length x.incoming = omega (arith, ok.queues) in
            omega (arith, wt p t, sum_set (owes_in_queue s p t) x.incoming m a' in_queue_d l);
      }

  service_ok : (q X : ℕ) (a' : InQueue) (b' : OutQueue) → Landing a' o → Leaving b' (in_at x 0)
      → ((p t : ℕ) → owes_in_queue s p t a' + owes_out_queue s p t b' + owes_as t_keep s p t q X
      ≡ owes_in_queue s p t a + owes_out_queue s p t b)
      → OwnOk s x (work_done x m (service_if s q X a' b'))
  service_ok q X a' b' land leave wt =
      cond_ok (λ w. OwnOk s x (work_done x m w)) (has s X) _ _
      (λ h.
      queues_good a' b' (λ p t. hits p t (Serviced q s)) land leave
      (λ p t. omega (arith, wt p t, keep_owes s p t q X 1 (bit_in s X h))))
      (λ h.
      queues_good a' b' (λ p t. 0) land leave
      (λ p t. omega (arith, wt p t, keep_owes s p t q X 0 (bit_out s X h), no_hit (eqb p q) (eqb t s))))

  popped : is_none front.terminator ≡ false → Landing (pop_in a) o
  popped f =
      record {
        fits = fits_pop a.entries a.count was.fits no_in_entry;
        last = λ h. pop_waiting a _ _ f (was.last h);
      }

  module _ (D : ℕ) (deep : D ≤ queue_room) (some : 0 < a.count) where
    pop_owes : (k : Terminator) → front.terminator ≡ k → (p t : ℕ)
        → owes_in_queue s p t (pop_in a) + owes_as k s p t front.packet front.set ≡ owes_in_queue s p t a
    pop_owes k e p t =
        omega (
          arith,
          sum_popped a.entries a.count was.fits (owes_in_entry s p t) no_in_entry some,
          ap (λ (k : Terminator). owes_as k s p t front.packet front.set) e,
        )

    operate_ok : (k : Terminator) → front.terminator ≡ k
        → OwnOk s x (work_done x m (operate D s a b front.packet front.set k))
    unfolding operate
    operate_ok t_none e = tt
    operate_ok t_abort e =
        queues_good (pop_in a) b (λ p t. 0) (popped (ap is_none e)) ok.leaving
        (λ p t. omega (arith, pop_owes t_abort e p t))
    operate_ok t_keep e =
        service_ok front.packet front.set (pop_in a) b (popped (ap is_none e)) ok.leaving
        (λ p t. omega (arith, pop_owes t_keep e p t))
    operate_ok t_end e =
        let q = front.packet in
        let X = front.set in
        let P : Work → Type 0 = λ w. OwnOk s x (work_done x m w) in
        cond_ok P (eqb (minus s X) 0) _ _
        (λ z.
        service_ok q X (pop_in a) b (popped (ap is_none e)) ok.leaving
        (λ p t.
        omega (
          arith,
          pop_owes t_end e p t,
          owes_split s p t q X,
          ap (λ (Y : ℕ). owes_as t_end s p t q Y) (eqb-true (minus s X) 0 z),
          owes_none t_end s p t q,
        )))
        (λ z.
        cond_ok P (ltb b.count D) _ _
        (λ h.
        let room : b.count < queue_room = omega (arith, ltb-true b.count D h) in
        let d : OutEntry = record { set = minus s X; packet = q; started = false } in
        service_ok q X (pop_in a) (push_out b d) (popped (ap is_none e))
        (leaving_push b (in_at x 0) ok.leaving d room refl)
        (λ p t.
        omega (
          arith,
          pop_owes t_end e p t,
          owes_split s p t q X,
          sum_pushed b.entries b.count ok.leaving.fits (owes_out_entry s p t) d room,
        )))
        (λ h. tt))

  pub operator_ok : (D : ℕ) → D ≤ queue_room → OwnOk s x (work_done x m (operator D s a b))
  operator_ok D deep =
      cond_ok (λ w. OwnOk s x (work_done x m w)) (ltb 0 a.count) _ _
      (λ h. operate_ok D deep (ltb-true 0 a.count h) front.terminator refl) (λ h. tt)

-- Queues after a push, a pop and a change of an entry: their shape, their started front, their last entry, what they
-- owe. And the out-queue's rules keep the invariant and what is owed. Assumes nothing.
use Prim.Native.Nat.{ℕ, zero, suc, ◌+◌, ◌-◌, ◌<◌}
use mathlib.Core.Path.{◌≡◌, refl, sym, ap, ◌∙◌, subst}
use mathlib.Core.List.{List, [], ◌∷◌, ◌++◌}
use mathlib.Core.Bool.{Bool, true, false, cond}
use native.Mathlib.Omega.{arith}
use native.Mathlib.Nat.{not-suc-le-zero}
use borrow.Author.Tests.{ltb-true, lt-ltb}
use lib.Dec.{ltb}
use lib.ListN.{get_or, set, drop, take, length, length-set}
use lib.Seq.{get_or-set_same, get_or-set_other}
use Rattle.base.specs.Sizes.{queue_room}
use Rattle.base.specs.Bools.{clash, cond_ok, both}
use Rattle.base.specs.Lists.{all_set, rel_set, pop_at, length_pop}
use Rattle.base.specs.Sums.{sum, sum_set, sum_pop, sum_push, sum_set_take}
use Rattle.theorems.specs.Names.{got_end, Terminator, t_none, t_end, Free, Input, OutEntry, InEntry, OutQueue, InQueue, Site}
use Rattle.model.specs.Types.{input_d, no_out_entry, no_in_entry, in_at, out_at, out_entry, in_entry, entry_started, entry_term, set_in}
use Rattle.model.specs.Types.{with_out_queue, push_out, pop_out, push_in, pop_in}
use Rattle.types.specs.Phases.{is_free, listening, is_none}
use Rattle.model.specs.Types.{received}
use Rattle.model.specs.NetInput.{Turn}
use Rattle.model.specs.Places.{seeking, last_of, last_lacks, end_last, start_front, out_queue}
use Rattle.model.specs.Steps.{own_turn}
use Rattle.model.specs.Owing.{owes_as, owes_input, owes_out_entry, owes_in_entry, owes_out_queue, owes_in_queue}
use Rattle.theorems.proofs.Invariant.{tag, waiting, Fits, Leaving, Conn, SiteOk, Good, OwnOk}
use Rattle.theorems.proofs.ConnectionLaws.{tag_owes, phase_owes, listening_claim, listening_owes, received_owes}
use Rattle.theorems.proofs.ConnectionLaws.{received_conn, none_is, free_is}

-- ---- an array and its count

module _ {A : Type 0} (l : List A) (c : ℕ) (h : Fits l c) where
  pub fits_pop : (z : A) → Fits (drop 1 l ++ (z ∷ [])) (c - 1)
  fits_pop z = record { room = length_pop l z (queue_room - 1) h.room; few = omega (arith, h.few) }

  pub fits_push : (v : A) → c < queue_room → Fits (set l c v) (c + 1)
  fits_push v k = record { room = length-set l c v ∙ h.room; few = omega arith }

  pub fits_set : (i : ℕ) (v : A) → Fits (set l i v) c
  fits_set i v = record { room = length-set l i v ∙ h.room; few = h.few }

  pub sum_popped : (f : A → ℕ) (z : A) → 0 < c
      → sum f (take (c - 1) (drop 1 l ++ (z ∷ []))) + f (get_or l 0 z) ≡ sum f (take c l)
  sum_popped f z k = sum_pop f l c z z k (omega (arith, h.room, h.few))

  pub sum_pushed : (f : A → ℕ) (v : A) → c < queue_room → sum f (take (c + 1) (set l c v)) ≡ sum f (take c l) + f v
  sum_pushed f v k = sum_push f l c v (omega (arith, h.room))

  pub sum_changed : (f : A → ℕ) (i : ℕ) (v d : A) → i < c
      → sum f (take c (set l i v)) + f (get_or l i d) ≡ sum f (take c l) + f v
  sum_changed f i v d k = sum_set_take f l c i v d k (omega (arith, h.room, h.few))

-- ---- the out-queue and its front

module _ (q : OutQueue) (y : Input) (h : Leaving q y) where
  leaving_pop : (y' : Input) → Leaving (pop_out q) y'
  leaving_pop y' =
      record {
        fits = fits_pop q.entries q.count h.fits no_out_entry;
        front = λ e. absurd (clash (sym (rw (pop_at q.entries no_out_entry 0) at e) ∙ h.rest 0));
        rest = λ k. rw (pop_at q.entries no_out_entry (suc k)) (h.rest (suc k));
      }

  leaving_start : Leaving (start_front q) (seeking (out_entry q 0).packet (out_entry q 0).set)
  leaving_start =
      let d = entry_started (out_entry q 0) in
      record {
        fits = fits_set q.entries q.count h.fits 0 d;
        front = λ e. rw (get_or-set_same q.entries 0 d no_out_entry (omega (arith, h.fits.room))) refl;
        rest = λ k. rw (get_or-set_other q.entries 0 (suc k) d no_out_entry (λ e. omega arith)) (h.rest k);
      }

  -- an entry that is not started
  pub leaving_push : (d : OutEntry) → q.count < queue_room → d.started ≡ false → Leaving (push_out q d) y
  leaving_push d room ns =
      let old : (k : ℕ) → (out_entry (push_out q d) k).started ≡ true → out_entry (push_out q d) k ≡ out_entry q k =
      rel_set (λ a b. b.started ≡ true → b ≡ a) q.entries q.count d no_out_entry (λ a e. refl)
      (λ e. absurd (clash (sym e ∙ ns))) in
      record {
        fits = fits_push q.entries q.count h.fits d room;
        front = λ e. rw (old 0 e) (h.front (rw (old 0 e) at e));
        rest =
            λ k.
            all_set (λ m e. 0 < m → e.started ≡ false) q.entries q.count d no_out_entry (λ e. ns) back (suc k)
            (omega arith);
      }
    where
      back : (m : ℕ) → 0 < m → (out_entry q m).started ≡ false
      back zero e = absurd (not-suc-le-zero e)
      back (suc m) e = h.rest m

-- ---- the in-queue and its last entry

-- the case on the count that pop-waiting wants
pop_last : (c : ℕ) (l : List InEntry) (q X : ℕ) → is_none (get_or l 0 no_in_entry).terminator ≡ false
    → waiting (record { entries = l; count = c }) ≡ tag q X
    → waiting (pop_in (record { entries = l; count = c })) ≡ tag q X
pop_last zero l q X f h = cc
pop_last (suc zero) l q X f h =
    let e : waiting (record { entries = l; count = 1 }) ≡ [] =
    ap (λ (b : Bool). cond b (tag (get_or l 0 no_in_entry).packet (get_or l 0 no_in_entry).set) []) f in
    cc
pop_last (suc (suc m)) l q X f h =
    let e₁ : suc (suc m) - 1 ≡ suc m = omega arith in
    let e₂ : suc m - 1 ≡ m = omega arith in
    let k = rw (e₁, lt-ltb 0 (suc (suc m)) (omega arith)) at h in
    rw (e₁, e₂, lt-ltb 0 (suc m) (omega arith), pop_at l no_in_entry m) k

-- what the last entry waits for stays where the front, which has its terminator, leaves
pub pop_waiting : (r : InQueue) (q X : ℕ) → is_none (in_entry r 0).terminator ≡ false → waiting r ≡ tag q X
    → waiting (pop_in r) ≡ tag q X
pop_waiting r q X f h = pop_last r.count r.entries q X f h

pub push_waiting : (r : InQueue) (a : InEntry) → Fits r.entries r.count → r.count < queue_room
    → a.terminator ≡ t_none → waiting (push_in r a) ≡ tag a.packet a.set
push_waiting r a h room e =
    let e₁ : r.count + 1 - 1 ≡ r.count = omega arith in
    let e₂ = get_or-set_same r.entries r.count a no_in_entry (omega (arith, h.room)) in
    rw (e₁, lt-ltb 0 (r.count + 1) (omega arith), e₂, e) refl

-- the last entry gets its terminator
pub end_owes : (s p t : ℕ) (r : InQueue) (k : Terminator) → Fits r.entries r.count → last_lacks r ≡ true
    → owes_in_queue s p t (end_last r k) ≡ owes_in_queue s p t r + owes_as k s p t (last_of r).packet (last_of r).set
end_owes s p t r k h w =
    let c = both (ltb 0 r.count) (is_none (last_of r).terminator) w in
    let i : r.count - 1 < r.count = omega (arith, ltb-true 0 r.count c.0) in
    let a = last_of r in
    omega (
      arith,
      sum_changed r.entries r.count h (owes_in_entry s p t) (r.count - 1) (entry_term a k) no_in_entry i,
      ap (λ (k : Terminator). owes_as k s p t a.packet a.set) (none_is a.terminator c.1),
    )

-- ---- the out-queue's rules

module _ (s : ℕ) (x : Site) (ok : SiteOk s x) where
  abbrev q : OutQueue
  q = x.outgoing

  abbrev y : Input
  y = in_at x 0

  -- the out-queue and net-input 0 changed together
  front_good : (q' : OutQueue) (y' : Input) → Leaving q' y' → Conn s 0 y' (out_at x)
      → ((p t : ℕ) → owes_out_queue s p t q' + owes_input s p t y' ≡ owes_out_queue s p t q + owes_input s p t y)
      → Good s x (set_in (with_out_queue x q') 0 y') (λ p t. 0)
  front_good q' y' lv con wt =
      let len : 0 < length x.inputs = omega (arith, ok.ins) in
      record {
        ok =
            record {
              ins = length-set x.inputs 0 y' ∙ ok.ins;
              outs = ok.outs;
              leaving = subst (Leaving q') (sym (get_or-set_same x.inputs 0 y' input_d len)) lv;
              queues = ok.queues;
              landing = ok.landing;
              conn = all_set (λ k z. Conn s k z (out_at x)) x.inputs 0 y' input_d con ok.conn;
              quiet = ok.quiet;
            };
        keeps =
            record {
              inputs = λ k q X. rw (get_or-set_other x.inputs 0 (suc k) y' input_d (λ e. omega arith)) (λ h. h);
              outputs = λ j hj h. (h, refl);
            };
        weight = λ p t. omega (arith, wt p t, sum_set (owes_input s p t) x.inputs 0 y' input_d len);
      }

  leave_good : 0 < q.count → (out_entry q 0).started ≡ true → listening y.phase ≡ true
      → Good s x (set_in (with_out_queue x (pop_out q)) 0 (received got_end y)) (λ p t. 0)
  leave_good some hs hl =
      front_good (pop_out q) (received got_end y) (leaving_pop q y ok.leaving (received got_end y))
      (received_conn y hl got_end s 0 (out_at x) (ok.conn 0))
      (λ p t.
      omega (
        arith,
        sum_popped q.entries q.count ok.leaving.fits (owes_out_entry s p t) no_out_entry some,
        tag_owes t_end s p t (sym (listening_claim y hl) ∙ ok.leaving.front hs),
        received_owes y hl got_end s p t,
        listening_owes y hl s p t,
      ))

  abbrev sought : Input
  sought = seeking (out_entry q 0).packet (out_entry q 0).set

  start_good : 0 < q.count → is_free y.phase ≡ true
      → Good s x (set_in (with_out_queue x (start_front q)) 0 sought) (λ p t. 0)
  start_good some hf =
      let d = entry_started (out_entry q 0) in
      front_good (start_front q) sought (leaving_start q y ok.leaving) tt
      (λ p t.
      omega (
        arith,
        sum_changed q.entries q.count ok.leaving.fits (owes_out_entry s p t) 0 d no_out_entry some,
        phase_owes y Free (free_is y.phase hf) s p t,
      ))

  pub out_queue_ok_lem : OwnOk s x (own_turn (λ q y. set_in (with_out_queue x q) 0 y) (out_queue q y))
  unfolding out_queue
  out_queue_ok_lem =
      let P : Turn OutQueue Input → Type 0 = λ r. OwnOk s x (own_turn (λ q y. set_in (with_out_queue x q) 0 y) r) in
      cond_ok P (ltb 0 q.count) _ _
      (λ a.
      let some = ltb-true 0 q.count a in
      cond_ok P (out_entry q 0).started _ _
      (λ b. cond_ok P (listening y.phase) _ _ (λ c. leave_good some b c) (λ c. tt))
      (λ b. cond_ok P (is_free y.phase) _ _ (λ c. start_good some c) (λ c. tt)))
      (λ a. tt)

-- The rules of net-outputs, the out-queue and the operator keep in range the places that they change, and change one.
-- Each is a fact of a rule's answer: nothing is said of Stay and Rest. Assumes nothing.
use Prim.Native.Nat.{ℕ, zero, suc, ◌-◌, ◌≤◌, ◌<◌}
use mathlib.Core.Path.{◌≡◌, refl, sym, ap, ◌∙◌}
use mathlib.Core.List.{List}
use mathlib.Core.Bool.{Bool, true, false, not, ◌&&◌}
use native.Mathlib.Omega.{arith}
use borrow.Author.Tests.{ltb-true, eqb-false, ne_eqb}
use lib.Dec.{eqb, ltb, eqb-suc-zero}
use Rattle.base.specs.Sizes.{input_count, port_count, split_port, in_queue_count, queue_room}
use Rattle.base.specs.Bools.{clash, cond_ok, nor, both, both3}
use Rattle.sets.specs.Sets.{has, minus}
use Rattle.sets.proofs.Laws.{minus_le}
use Rattle.theorems.specs.Names.{Received, got_end, got_abort, Terminator, t_none, t_end, t_abort, t_keep, Phase, Free, Seek, Open}
use Rattle.theorems.specs.Names.{Wait, Done, Last, Aborted, FinAbort, Input, Output, OutQueue, InQueue, Network}
use Rattle.model.specs.Types.{no_marks, no_output, no_out_entry, no_in_entry, out_entry, in_entry, out_head, entry_started, entry_term, pop_in}
use Rattle.model.specs.Types.{out_closing, queue_port, is_local}
use Rattle.draws.specs.Draws.{restricted}
use Rattle.model.specs.Network.{holds}
use Rattle.types.specs.Phases.{is_free, listening, is_none, is_keep, receive}
use Rattle.model.specs.Types.{received}
use Rattle.model.specs.Range.{closing_ok, zero_out_entry, zero_in_entry, depth_of}
use Rattle.model.specs.NetInput.{Turn, Stay, To}
use Rattle.model.specs.Places.{seeking, last_of, last_lacks, local_output, head_on, delivered, term_on, deliver, give_up, channel_output}
use Rattle.model.specs.Places.{out_queue, Work, Rest, Cleared, Service, service_if, operate, operator}
use Rattle.theorems.proofs.Invariant.{Fed}
use Rattle.theorems.proofs.OutputLaws.{unfed_term, unfed_closing}
use Rattle.theorems.proofs.RangeTests.{Tagged, InputBy, InputIn, OutputIn, no_marks_lem, output_at_lem}
use Rattle.theorems.proofs.RangeQueues.{OutEntryIn, InEntryIn, OutQueueIn, InQueueIn, depth_most, queue_push, queue_pop, queue_set}
use Rattle.theorems.proofs.RangeSites.{seek_in}

-- P of what becomes of a rule's two places
abbrev pub TurnIn : {A B : Type 0} → (A → B → Type 0) → Turn A B → Type 0
TurnIn P Stay = Unit {0}
TurnIn P (To a b) = P a b

-- output j, o before and v after: v is in range, whoever feeds o feeds v, and they differ
pub record OutputTo (n : Network) (k j : ℕ) (o v : Output) : Type 0 where
  pub inn : OutputIn n k j v
  pub fed : (i : ℕ) → Fed i o → Fed i v
  pub moved : v ≡ o → ⊥

-- an input that is in range as any input, with any outputs, once y is
abbrev pub InputTo : Network → ℕ → Input → Input → Type 0
InputTo n k y v = (i : ℕ) (o : ℕ → Output) → InputIn n k i o y → InputIn n k i o v

-- the queues after the operator; in-queue m was a
pub record QueuesTo (n : Network) (k m : ℕ) (a a' : InQueue) (b' : OutQueue) : Type 0 where
  pub incoming : InQueueIn n k m a'
  pub outgoing : OutQueueIn n k b'
  pub moved : a' ≡ a → ⊥

-- a service is of a packet below the counter
abbrev pub WorkIn : Network → ℕ → ℕ → InQueue → Work → Type 0
WorkIn n k m a Rest = Unit {0}
WorkIn n k m a (Cleared a' b') = QueuesTo n k m a a' b'
WorkIn n k m a (Service a' b' q) = QueuesTo n k m a a' b' × (q < k)

-- outputs 1 to 4 have a channel
port_remote : (j : ℕ) → j < port_count → is_local (suc j) ≡ false
port_remote j h = nor (eqb (suc j) 0) (eqb (suc j) split_port) (eqb-suc-zero j) (ne_eqb (suc j) split_port (λ e. omega arith))

module _ (n : Network) (k : ℕ) where
  -- ---- places

  pub used_out : (j : ℕ) (o : Output) → o.used ≡ true → Tagged n k o.packet o.set → o.input < input_count
      → (is_keep o.terminator ≡ true → j ≡ 0) → (o.closing ≡ true → closing_ok n.edition j o ≡ true)
      → (j ≡ split_port → restricted n.edition ≡ true) → OutputIn n k j o
  used_out j o u t f h c p =
      record {
        tagged = λ e. t;
        from = λ e. f;
        keep = λ e. h;
        closing = λ e. c;
        split = λ e. p;
        blank = λ e. absurd (clash (sym u ∙ e));
      }

  pub empty_out : (j : ℕ) → OutputIn n k j no_output
  empty_out j = output_at_lem n k j no_output refl

  -- a closing output's head is taken
  closing_head : (j : ℕ) (o : Output) → closing_ok n.edition j o ≡ true → o.head ≡ true
  closing_head j o h =
      (both3 (holds n.edition && not (is_local j)) o.head (is_none o.terminator) h).1

  -- its head taken; emptied; its terminator delivered
  head_to : (j : ℕ) (o : Output) → o.used ≡ true → o.head ≡ false → OutputIn n k j o → OutputTo n k j o (out_head o)
  head_to j o u h ok =
      record {
        inn =
            used_out j (out_head o) u (ok.tagged u) (ok.from u) (ok.keep u)
            (λ c. absurd (clash (sym (closing_head j o (ok.closing u c)) ∙ h))) (ok.split u);
        fed = λ i f. record { used = f.used; from = f.from; bare = f.bare; stays = f.stays };
        moved = λ e. clash (ap (λ (w : Output). w.head) e ∙ h);
      }

  gone_to : (j : ℕ) (o : Output) → o.used ≡ true → ((i : ℕ) → Fed i o → ⊥) → OutputTo n k j o no_output
  gone_to j o u unfed =
      record {
        inn = empty_out j;
        fed = λ i f. absurd (unfed i f);
        moved = λ e. clash (sym u ∙ sym (ap (λ (w : Output). w.used) e));
      }

  delivered_to : (j : ℕ) (o : Output) → j < port_count → o.used ≡ true → is_none o.terminator ≡ false
      → OutputIn n k (suc j) o → OutputTo n k (suc j) o (delivered n.edition o)
  delivered_to j o hj u h ok =
      cond_ok (OutputTo n k (suc j) o) (holds n.edition) (out_closing o) no_output
      (λ e.
      record {
        inn =
            used_out (suc j) (out_closing o) refl (ok.tagged u) (ok.from u) (λ z. absurd (clash (sym z)))
            (λ c. rw (e, port_remote j hj) refl) (ok.split u);
        fed = λ i f. absurd (unfed_term h f);
        moved = λ z. clash (ap (λ (w : Output). is_none w.terminator) z ∙ h);
      })
      (λ e. gone_to (suc j) o u (λ i. unfed_term h))

  seeking_to : (y : Input) (q z : ℕ) → Tagged n k q z → InputTo n k y (seeking q z)
  seeking_to y q z t i o h = seek_in n k i q z 0 no_marks o (λ l. refl) no_marks_lem t (omega arith)

  -- a received terminator leaves what the range looks at
  receive_in : (i : ℕ) (o : ℕ → Output) (r : Received) (ph : Phase) {q z t : ℕ} {bs : List Bool}
      → InputBy n k i ph q z t bs o → InputBy n k i (receive r ph) q z t bs o
  receive_in i o r Free h = h
  receive_in i o r Seek h = h
  receive_in i o r (Open c) h = h
  receive_in i o r (Wait c) h = h
  receive_in i o r (Done c p) h = h
  receive_in i o r (Last c p) h = h
  receive_in i o r (Aborted c) h = h
  receive_in i o r (FinAbort c p) h = h

  received_to : (r : Received) (y : Input) → InputTo n k y (received r y)
  received_to r y i o h = receive_in i o r y.phase h

  -- ---- net-outputs 1 to 4

  abbrev PassedOn : Bool → ℕ → Output → Input → Output → Input → Type 0
  PassedOn there j o y v z = (there ≡ true) × OutputTo n k j o v × InputTo n k y z

  -- output j + 1
  module _ (there : Bool) (j : ℕ) (hj : j < port_count) (o : Output) (y : Input) (ok : OutputIn n k (suc j) o) where
    abbrev Moved : Turn Output Input → Type 0
    Moved = TurnIn (PassedOn there (suc j) o y)

    term_on_in : (r : Received) → o.used ≡ true → is_none o.terminator ≡ false
        → Moved (term_on n.edition there o y r)
    term_on_in r u h =
        cond_ok Moved (there && listening y.phase) _ _
        (λ a. ((both there (listening y.phase) a).0, delivered_to j o hj u h ok, received_to r y)) (λ a. tt)

    deliver_in : (t : Terminator) → o.used ≡ true → o.terminator ≡ t → Moved (deliver n.edition there o y t)
    unfolding deliver
    deliver_in t_none u e = tt
    deliver_in t_end u e = term_on_in got_end u (ap is_none e)
    deliver_in t_abort u e = term_on_in got_abort u (ap is_none e)
    deliver_in t_keep u e = tt

    give_up_in : o.used ≡ true → o.closing ≡ true → Moved (give_up there y)
    give_up_in u c =
        cond_ok Moved (there && is_free y.phase) _ _
        (λ a. ((both there (is_free y.phase) a).0, gone_to (suc j) o u (λ i. unfed_closing c), λ i os h. h)) (λ a. tt)

    head_on_in : o.used ≡ true → o.head ≡ false → Moved (head_on there o y)
    head_on_in u h =
        cond_ok Moved (there && is_free y.phase) _ _
        (λ a. (
          (both there (is_free y.phase) a).0,
          head_to (suc j) o u h ok,
          seeking_to y o.packet o.set (ok.tagged u),
        ))
        (λ a. tt)

    pub channel_output_in : Moved (channel_output n.edition there o y)
    unfolding channel_output
    channel_output_in =
        cond_ok Moved o.used _ _
        (λ u.
        cond_ok Moved o.head _ _
        (λ h. cond_ok Moved o.closing _ _ (give_up_in u) (λ c. deliver_in o.terminator u refl)) (head_on_in u))
        (λ u. tt)

module _ (n : Network) (k : ℕ) (deep : n.depth ≤ queue_room) where
  -- ---- the output that fills in-queue m

  -- where it is in use the in-queue has the network's depth
  has_room : (m : ℕ) → m < in_queue_count → (o : Output) → o.used ≡ true → OutputIn n k (queue_port m) o
      → depth_of n.edition n.depth m ≡ n.depth
  has_room zero l o u ok = refl
  has_room (suc zero) l o u ok = rw (ok.split u refl) refl
  has_room (suc (suc m)) l o u ok = absurd (omega arith)

  module _ (m : ℕ) (hm : m < in_queue_count) where
    abbrev Landed : Output → Output → InQueue → Type 0
    Landed o v r = OutputTo n k (queue_port m) o v × InQueueIn n k m r

    pub local_output_in : (o : Output) (q : InQueue) → OutputIn n k (queue_port m) o → InQueueIn n k m q
        → TurnIn (Landed o) (local_output n.depth o q)
    unfolding local_output
    local_output_in o q ok h =
        cond_ok (TurnIn (Landed o)) o.used _ _
        (λ u.
        cond_ok (TurnIn (Landed o)) o.head _ _
        (λ a.
        cond_ok (TurnIn (Landed o)) (is_none o.terminator) _ _ (λ b. tt)
        (λ b.
        cond_ok (TurnIn (Landed o)) (last_lacks q) _ _
        (λ c.
        let pos = ltb-true 0 q.count (both (ltb 0 q.count) (is_none (last_of q).terminator) c).0 in (
          gone_to n k (queue_port m) o u (λ i. unfed_term b),
          queue_set (InEntryIn n k) zero_in_entry no_in_entry (q.count - 1) (entry_term (last_of q) o.terminator)
              (omega arith) ((h.each (q.count - 1)).0 (omega arith)) h,
        ))
        (λ c. tt)))
        (λ a.
        cond_ok (TurnIn (Landed o)) (ltb q.count n.depth) _ _
        (λ c. (
          head_to n k (queue_port m) o u a ok,
          queue_push (InEntryIn n k) zero_in_entry no_in_entry
              (record { set = o.set; terminator = t_none; packet = o.packet })
              (omega (arith, ltb-true q.count n.depth c, has_room m hm o u ok))
              (omega (arith, depth_most n.edition n.depth m)) (ok.tagged u) h,
        ))
        (λ c. tt)))
        (λ u. tt)

  -- ---- the out-queue

  abbrev Left : OutQueue → Input → OutQueue → Input → Type 0
  Left q y r v = OutQueueIn n k r × InputTo n k y v × (r ≡ q → v ≡ y → ⊥)

  pub out_queue_in : (q : OutQueue) (y : Input) → OutQueueIn n k q → TurnIn (Left q y) (out_queue q y)
  unfolding out_queue
  out_queue_in q y h =
      cond_ok (TurnIn (Left q y)) (ltb 0 q.count) _ _
      (λ a.
      let pos = ltb-true 0 q.count a in
      let front = (h.each 0).0 pos in
      cond_ok (TurnIn (Left q y)) (out_entry q 0).started _ _
      (λ b.
      cond_ok (TurnIn (Left q y)) (listening y.phase) _ _
      (λ c. (
        queue_pop (OutEntryIn n k) zero_out_entry no_out_entry
            (λ m d u. (u.0, λ e. absurd (let z = u.1 e in omega arith))) h,
        received_to n k got_end y,
        λ e f. let z = ap (λ (w : OutQueue). w.count) e in omega arith,
      ))
      (λ c. tt))
      (λ b.
      cond_ok (TurnIn (Left q y)) (is_free y.phase) _ _
      (λ c. (
        queue_set (OutEntryIn n k) zero_out_entry no_out_entry 0 (entry_started (out_entry q 0)) pos (front.0, λ e. refl) h,
        seeking_to n k y (out_entry q 0).packet (out_entry q 0).set front.0,
        λ e f. clash (sym c ∙ sym (ap (λ (w : Input). is_free w.phase) f)),
      ))
      (λ c. tt)))
      (λ a. tt)

  -- ---- the operator at in-queue m

  module _ (m s : ℕ) (a : InQueue) (b : OutQueue) (ha : InQueueIn n k m a) (hb : OutQueueIn n k b) where
    service_in : (q X : ℕ) (a' : InQueue) (b' : OutQueue) → q < k → QueuesTo n k m a a' b'
        → WorkIn n k m a (service_if s q X a' b')
    service_in q X a' b' l h = cond_ok (WorkIn n k m a) (has s X) _ _ (λ e. (h, l)) (λ e. h)

    -- the front away, and b' for the out-queue
    discard : 0 < a.count → (b' : OutQueue) → OutQueueIn n k b' → QueuesTo n k m a (pop_in a) b'
    discard pos b' h =
        record {
          incoming = queue_pop (InEntryIn n k) zero_in_entry no_in_entry (λ i d u. u) ha;
          outgoing = h;
          moved = λ e. let z = ap (λ (w : InQueue). w.count) e in omega arith;
        }

    rest_tag : (q X : ℕ) → Tagged n k q X → eqb (minus s X) 0 ≡ false → Tagged n k q (minus s X)
    rest_tag q X tag e =
        let small = minus_le s X in
        record { under = tag.under; some = omega (arith, eqb-false (minus s X) 0 e); within = omega (arith, tag.within) }

    operate_in : 0 < a.count → (q X : ℕ) → Tagged n k q X → (t : Terminator)
        → WorkIn n k m a (operate n.depth s a b q X t)
    unfolding operate
    operate_in pos q X tag t_none = tt
    operate_in pos q X tag t_abort = discard pos b hb
    operate_in pos q X tag t_keep = service_in q X (pop_in a) b tag.under (discard pos b hb)
    operate_in pos q X tag t_end =
        cond_ok (WorkIn n k m a) (eqb (minus s X) 0) _ _ (λ e. service_in q X (pop_in a) b tag.under (discard pos b hb))
        (λ e.
        cond_ok (WorkIn n k m a) (ltb b.count n.depth) _ _
        (λ c.
        service_in q X (pop_in a) _ tag.under
        (discard pos _
        (queue_push (OutEntryIn n k) zero_out_entry no_out_entry (record { set = minus s X; packet = q; started = false })
        (ltb-true b.count n.depth c) deep (rest_tag q X tag e, λ z. absurd (clash (sym z))) hb)))
        (λ c. tt))

    pub operator_in : WorkIn n k m a (operator n.depth s a b)
    operator_in =
        cond_ok (WorkIn n k m a) (ltb 0 a.count) _ _
        (λ e.
        let pos = ltb-true 0 a.count e in
        operate_in pos (in_entry a 0).packet (in_entry a 0).set ((ha.each 0).0 pos) (in_entry a 0).terminator)
        (λ e. tt)

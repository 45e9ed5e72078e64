-- What is known in a player's loop before each turn, gathered under one name; what its calls ask of it, what each way of a turn leaves, and
-- what is known after the last turn. Assumes only what each law names.
use Prim.Native.Nat.{ℕ, ◌+◌, ◌*◌, ◌≤◌, ◌<◌}
use mathlib.Core.Path.{◌≡◌, refl, sym, ap, ◌∙◌}
use mathlib.Core.List.{List}
use mathlib.Core.Bool.{Bool, true, false, cond, ◌&&◌}
use native.Mathlib.Omega.{arith}
use lib.Dec.{eqb, ltb}
use lib.ListN.{length}
use Rattle.base.specs.Sizes.{sends_most, set_bits}
use Rattle.sets.specs.Sets.{size}
use Rattle.sets.proofs.LawsBit.{size_most}
use Rattle.draws.specs.Draws.{DrawnEvent}
use Rattle.draws.specs.Draws.{drawn, event_of}
use Rattle.draws.proofs.Laws.{event_named, site_below}
use Rattle.types.specs.declared.State.{State}
use Rattle.types.specs.declared.Run.{Run}
use Rattle.types.specs.declared.AfterSend.{AfterSend}
use Rattle.types.specs.declared.AfterRun.{AfterRun}
use Rattle.types.specs.declared.Sent.TheVariants.{the_data as Sent}
use Rattle.model.specs.Types.{no_state, send_at}
use Rattle.model.specs.Range.{in_range}
use Rattle.model.specs.Network.{network_refusal}
use Rattle.model.specs.Events.{runs}
use Rattle.model.specs.Owing.{owed_pairs}
use Rattle.model.specs.Runs.{try_send, played_run, counts_of}
use Rattle.theorems.proofs.Networks.{Valid, valid_ok}
use Rattle.theorems.proofs.Played.{stored_network}
use Rattle.machine.specs.declared.clock.Clock.{Clock}
use Rattle.machine.specs.Clock.{advanced}
use Rattle.machine.specs.Play.{book_in, Playable}
use Rattle.machine.specs.Progress.{Progress, due, answered, send_turn, drew, entries_by, book_by, draw_turn, turned, progress}
use Rattle.machine.specs.Progress.{no_turn, one_turn, capped_at, capped_same, due_at}
use Rattle.machine.proofs.ProgressLaws.{is_due, stored_sends, Facts, facts_of, pairs_of}
use Rattle.machine.proofs.ProgressLawsBook.{progress_is}
use Rattle.machine.proofs.ProgressLawsEvents.{in_range_of}
use Rattle.machine.proofs.ProgressLawsOrder.{draw_below}

-- after k of total turns, the lent bytes being room at first, the loop's variables are p
pub record Playing (r : Run) (room : List ℕ) (total k : ℕ) (p : Progress) : Type 0 where
  pub run : Playable r (length room)
  pub turns : total ≡ r.count + r.draws
  pub draws : r.draws < 65536
  pub here : k ≤ total
  pub same : p ≡ progress r room k

-- before the first turn, with state st
abbrev pub first : Run → List ℕ → State → Progress
first r room st =
    record { state = st; value = r.seed; next = 0; draw = 0; accepted = 0; pairs = 0; serviced = 0; book = room }

pub begun : {r : Run} {room : List ℕ} {total : ℕ} → Playable r (length room) → total ≡ r.count + r.draws → r.draws < 65536 → {st : State}
    → st ≡ no_state
    → Playing r room total 0 (first r room st)
begun {r = r} {room = room} run turns draws e =
    record { run = run; turns = turns; draws = draws; here = omega arith; same = ap (first r room) e ∙ no_turn r room }

-- after a draw: the state, the clock, the services and the lent bytes are new
abbrev pub later : Progress → State → Clock → ℕ → List ℕ → Progress
later p y c j q =
    record {
      state = y;
      value = c.value;
      next = p.next;
      draw = c.draw;
      accepted = p.accepted;
      pairs = p.pairs;
      serviced = j;
      book = q;
    }

module _ {r : Run} {room : List ℕ} {total k : ℕ} {p : Progress} (at : Playing r room total k p) where
  -- ---- what is known at every turn

  pub total_most : total ≤ 65790
  total_most = omega (arith, at.turns, at.draws, (stored_sends r at.run.valid).0)

  pub known : Facts r room k p
  known = facts_of r room k p at.same

  pub next_most : p.next ≤ sends_most
  next_most = omega (arith, known.sends, (stored_sends r at.run.valid).0)

  pub accepted_most : p.accepted ≤ sends_most
  accepted_most = omega (arith, known.accepted, next_most)

  pub set_most : (m : ℕ) {z : ℕ} → z ≡ size (send_at r m).set → z ≤ set_bits
  set_most m e = omega (arith, e, size_most set_bits (send_at r m).set)

  pub pairs_most : p.pairs ≤ sends_most * set_bits
  pairs_most = pairs_of r room k p at.same at.run.valid

  pub network_ok : network_refusal r.network ≡ 0
  network_ok = stored_network r at.run.valid

  pub network_valid : Valid r.network
  network_valid = valid_ok r.network network_ok

  pub state_in_range : in_range r.network p.state ≡ true
  state_in_range = in_range_of r room at.run.valid k p at.same

  -- ---- one turn more

  pub more : k < total → (q : Progress) → q ≡ turned r p → Playing r room total (k + 1) q
  more l q e =
      record {
        run = at.run;
        turns = at.turns;
        draws = at.draws;
        here = omega (arith, l);
        same = one_turn r room k p q at.same e;
      }

  -- the send read at place m, and whether it is due
  module _ (l : k < total) {m : ℕ} (hm : m ≡ capped_at p.next) {b : Bool}
      (hb : b ≡ (ltb p.next r.count && eqb (send_at r m).draw p.draw)) where
    pub is_next : p.next < r.count → m ≡ p.next
    is_next h = hm ∙ capped_same p.next (omega (arith, h, (stored_sends r at.run.valid).0))

    pub is_told : b ≡ due r p
    is_told = hb ∙ due_at r p (send_at r m) m is_next refl

    -- it is: a is what SEND leaves, w its answer
    pub sent_on : b ≡ true → {s : ℕ} → s ≡ (send_at r m).site → {a : AfterSend} → a ≡ try_send r.network p.state s (send_at r m).set
        → {w : Sent} → a.answer ≡ w → Playing r room total (k + 1) (answered p (send_at r m).set a w)
    unfolding turned send_turn
    sent_on t {s = s} hs {a = a} ha {w = w} hw =
        let d = sym is_told ∙ t in
        let i = ap (send_at r) (is_next (is_due r p d).0) in
        let f = ha ∙ ap (λ (s : ℕ). try_send r.network p.state s (send_at r m).set) hs in
        more l (answered p (send_at r m).set a w) (rw (d, ← i, ← f, hw) refl)

    -- it is not: the clock after the draw, and the event that its value names
    module _ (t : b ≡ false) {c : Clock} (hc : c ≡ advanced (record { value = p.value; draw = p.draw })) {e : DrawnEvent}
        (he : e ≡ event_of r.network.edition r.network.sites c.value) where
      pub value_is : c.value ≡ drawn p.value
      value_is = ap (λ (c : Clock). c.value) hc

      -- its number is the clock's
      pub draw_is : c.draw ≡ p.draw + 1
      draw_is =
          let low = draw_below r room at.run.valid k p at.same (omega (arith, l, at.turns)) (sym is_told ∙ t) in
          ap (λ (c : Clock). c.draw) hc ∙ omega (arith, low, at.draws)

      -- a is what RUN leaves
      pub drawn_on : {a : AfterRun} → a ≡ runs r.network p.state e.site e.code → {j : ℕ}
          → j ≡ entries_by a.answer p.book p.serviced → {q : List ℕ} → q ≡ book_by a.answer p.book p.serviced p.draw
          → Playing r room total (k + 1) (later p a.state c j q)
      unfolding turned draw_turn
      drawn_on {a = a} ha {j = j} hj {q = q} hq =
          let E = r.network.edition in
          let S = r.network.sites in
          let named = he ∙ ap (event_of E S) value_is ∙ event_named E S (drawn p.value) network_valid.some network_valid.few in
          let f = ha ∙ ap (λ (w : DrawnEvent). runs r.network p.state w.site w.code) named in
          let v = drawn p.value in
          let same : later p a.state c j q ≡ drew p v a.state a.answer = rw (value_is, draw_is, hj, hq) refl in
          more l (later p a.state c j q)
          (same ∙ ap (λ (b : AfterRun). drew p v b.state b.answer) f
          ∙ ap (λ (b : Bool). cond b (send_turn r p) (draw_turn r p)) (sym (sym is_told ∙ t)))

  -- the site that a draw names is one of the network's
  pub named_below : (v : ℕ) {e : DrawnEvent} → e ≡ event_of r.network.edition r.network.sites v → e.site < r.network.sites
  named_below v he =
      let E = r.network.edition in
      let S = r.network.sites in
      rw (he ∙ event_named E S v network_valid.some network_valid.few) (site_below E S v network_valid.some)

  -- ---- after the last turn

  pub ended : total ≤ k → {owed : ℕ} → owed ≡ owed_pairs p.state.sites
      → (record { accepted = p.accepted; pairs = p.pairs; serviced = p.serviced; owed = owed } ≡ counts_of (played_run r))
      × (p.book ≡ book_in r room)
  ended l ho =
      let last : k ≡ r.count + r.draws = omega (arith, l, at.here, at.turns) in
      let f = at.same ∙ ap (progress r room) last in
      let w = progress_is r room at.run.valid at.run.held at.run.wide in
      let st = ap (λ (p : Progress). p.state) f ∙ w.0 in
      let a = ap (λ (p : Progress). p.accepted) f ∙ w.1 in
      let b = ap (λ (p : Progress). p.pairs) f ∙ w.2 in
      let c = ap (λ (p : Progress). p.serviced) f ∙ w.3 in
      (rw (ho, st, a, b, c) refl, ap (λ (p : Progress). p.book) f ∙ w.4)

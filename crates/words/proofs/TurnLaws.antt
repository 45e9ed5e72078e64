-- A turn over words is a turn of the run: a send tried, a draw made, the one or the other. Assumes what each law names.
use Prim.Native.Nat.{ℕ, ◌+◌, ◌≤◌, ◌<◌}
use mathlib.Core.Path.{◌≡◌, refl, sym, ap, subst, ◌∙◌}
use mathlib.Core.List.{List, []}
use mathlib.Core.Bool.{Bool, true, false, cond, ◌&&◌}
use native.Mathlib.Omega.{arith}
use borrow.Author.Tests.{ltb-true}
use lib.Dec.{eqb, ltb}
use Rattle.base.specs.Bools.{clash}
use Rattle.base.specs.Sizes.{sites_most}
use Rattle.draws.specs.Draws.{DrawnEvent}
use Rattle.draws.specs.Draws.{drawn, drawn_site, drawn_code, event_of}
use Rattle.draws.proofs.Laws.{event_named, site_below}
use Rattle.types.specs.declared.State.{State}
use Rattle.types.specs.declared.Network.{Network}
use Rattle.types.specs.declared.StoredSend.{StoredSend}
use Rattle.types.specs.declared.Run.{Run}
use Rattle.types.specs.declared.AfterRun.{AfterRun}
use Rattle.types.specs.declared.Sent.TheVariants.{the_data as Sent, Accepted, Refused as SendRefused}
use Rattle.types.specs.declared.Ran.TheVariants.{the_data as Ran}
use Rattle.model.specs.Types.{send_at}
use Rattle.model.specs.Steps.{act, ends}
use Rattle.model.specs.Events.{send_fault, sends, runs}
use Rattle.model.specs.Runs.{try_send}
use Rattle.machine.specs.declared.clock.Clock.{Clock}
use Rattle.machine.specs.Clock.{advanced}
use Rattle.machine.specs.Progress.{Progress, due, answered, send_turn, drew, draw_turn, entries_by, book_by, turned}
use Rattle.words.specs.declared.player.Tally.{Tally}
use Rattle.layout.specs.Words.{sites_of, state_of}
use Rattle.words.specs.Events.{Did, Took, tried, network_by, site_in}
use Rattle.words.specs.Turned.{standing, tried_send, Tried, ran_by, Drew, Turned}
use Rattle.machine.proofs.ProgressLaws.{is_due}
use Rattle.words.proofs.RunLaws.{ran_answer, ran_state}

-- ---- a send

abbrev is_accepted : Sent → Bool
is_accepted (Accepted q) = true
is_accepted (SendRefused f) = false

-- a refused send leaves the state
refused_state : (n : Network) (st : State) (s X f : ℕ) → (try_send n st s X).answer ≡ SendRefused f → (try_send n st s X).state ≡ st
refused_state n st s X f = go (eqb (send_fault n st s X) 0)
  where
    go : (b : Bool)
        → (cond b (sends st s X) (record { answer = SendRefused (send_fault n st s X); state = st })).answer ≡ SendRefused f
        → (cond b (sends st s X) (record { answer = SendRefused (send_fault n st s X); state = st })).state ≡ st
    go true e = absurd (clash (ap is_accepted e))
    go false e = refl

-- where a run stands, its state y
abbrev standing_in : Tally → State → List ℕ → Progress
standing_in t y b =
    record {
      state = y;
      value = t.clock.value;
      next = t.next;
      draw = t.clock.draw;
      accepted = t.accepted;
      pairs = t.pairs;
      serviced = t.serviced;
      book = b;
    }

abbrev passed_over : Tally → Tally
passed_over t = record { accepted = t.accepted; pairs = t.pairs; serviced = t.serviced; next = t.next + 1; clock = t.clock }

module _ (S D : ℕ) (c d : List ℕ) (o : StoredSend) (t : Tally) (w : Sent) (s : ℕ) (hs : s ≡ o.site)
    (k : Took c d w (tried S D (state_of c) s o.set)) where
  took : Took c d w (tried_send S D c o)
  took = subst (λ (u : ℕ). Took c d w (tried S D (state_of c) u o.set)) hs k

  pub refused_on : (f : ℕ) → w ≡ SendRefused f → Tried S D c d o t (passed_over t)
  unfolding tried
  refused_on f e =
      let a : (tried_send S D c o).answer ≡ SendRefused f = sym took.answer ∙ e in
      let y : state_of d ≡ state_of c = took.state ∙ refused_state (network_by 0 0 S D 0 [] []) (state_of c) o.site o.set f a in
      record {
        size = took.size;
        same =
            λ b.
            ap (λ (y : State). standing_in (passed_over t) y b) y
            ∙ sym (ap (answered (standing t c b) o.set (tried_send S D c o)) a);
      }

-- ---- a draw

-- the site that a value names is one of the network's
pub named_site : (E S v : ℕ) (e : DrawnEvent) → e ≡ event_of E S v → 1 ≤ S → S ≤ sites_most → e.site < S
named_site E S v e he some few = rw (he ∙ event_named E S v some few) (site_below E S v some)

pub drew_on : (n : Network) (c d b q : List ℕ) (t : Tally) (k : Clock) (e : DrawnEvent) (w : Ran) (j : ℕ) → k ≡ advanced t.clock
    → e ≡ event_of n.edition n.sites k.value
    → Did n c d e.site w (act n e.site (site_in c e.site) (ends n (sites_of c) e.site) e.code)
    → (j ≡ entries_by w b t.serviced) × (q ≡ book_by w b t.serviced t.clock.draw)
    → Drew n c d b q t (record { accepted = t.accepted; pairs = t.pairs; serviced = j; next = t.next; clock = k })
drew_on n c d b q t k e w j hk he did hb =
    let ans = ran_answer n c d e.site e.code w did in
    let r : Tally = record { accepted = t.accepted; pairs = t.pairs; serviced = j; next = t.next; clock = k } in
    let named : runs n (state_of c) e.site e.code ≡ ran_by n c r =
    ap (λ (v : DrawnEvent). runs n (state_of c) v.site v.code) he in
    let all = ans ∙ ap (λ (v : AfterRun). v.answer) named in
    record {
      size = did.stored.size;
      clock = hk;
      state = ran_state n c d e.site e.code w did ∙ ap (λ (v : AfterRun). v.state) named;
      serviced = hb.0 ∙ ap (λ (v : Ran). entries_by v b t.serviced) all;
      book = hb.1 ∙ ap (λ (v : Ran). book_by v b t.serviced t.clock.draw) all;
      next = refl;
      accepted = refl;
      pairs = refl;
    }

abbrev made : State → ℕ → ℕ → ℕ → ℕ → ℕ → ℕ → List ℕ → Progress
made y v m j a z k b = record { state = y; value = v; next = m; draw = j; accepted = a; pairs = z; serviced = k; book = b }

eight : (y y' : State) (v v' m m' j j' a a' z z' k k' : ℕ) (b b' : List ℕ) → y ≡ y' → v ≡ v' → m ≡ m' → j ≡ j' → a ≡ a' → z ≡ z' → k ≡ k'
    → b ≡ b' → made y v m j a z k b ≡ made y' v' m' j' a' z' k' b'
eight y y' v v' m m' j j' a a' z z' k k' b b' e f g h i l o q = rw (e, f, g, h, i, l, o, q) refl

-- ---- the one or the other

module _ (n : Network) (count : ℕ) (c d b q : List ℕ) (o : StoredSend) (t r : Tally) (flag : Bool)
    (told : flag ≡ (ltb t.next count && eqb o.draw t.clock.draw)) where
  abbrev p : Progress
  p = standing t c b

  module _ (R : Run) (ec : R.count ≡ count) (ho : t.next < count → o ≡ send_at R t.next) where
    is_told : flag ≡ due R p
    is_told = told ∙ go (ltb t.next count) refl ∙ ap (λ (m : ℕ). ltb t.next m && eqb (send_at R t.next).draw t.clock.draw) (sym ec)
      where
        go : (v : Bool) → ltb t.next count ≡ v
            → (v && eqb o.draw t.clock.draw) ≡ (v && eqb (send_at R t.next).draw t.clock.draw)
        go true e = ap (λ (z : StoredSend). eqb z.draw t.clock.draw) (ho (ltb-true t.next count e))
        go false e = refl

    -- a due send is there
    is_there : due R p ≡ true → o ≡ send_at R t.next
    is_there e = ho (rw ec at (is_due R p e).0)

  pub send_turned : flag ≡ true → Tried n.sites n.depth c d o t r → b ≡ q → Turned n count c d b q o t r
  unfolding turned send_turn tried
  send_turned f k hb =
      record {
        size = k.size;
        same =
            λ R en ec ho low.
            let e = sym (is_told R ec ho) ∙ f in
            rw (← hb, e, en, ← is_there R ec ho e) (k.same b);
      }

  -- what the next draw leaves, by a network m
  abbrev drawn_by : Network → Progress
  drawn_by m =
      let v = drawn t.clock.value in
      let a = runs m (state_of c) (drawn_site m.edition m.sites v) (drawn_code m.edition m.sites v) in
      drew p v a.state a.answer

  drawn_same : t.clock.draw < 65535 → 1 ≤ n.sites → n.sites ≤ sites_most → Drew n c d b q t r → standing r d q ≡ drawn_by n
  drawn_same low some few k =
      let v = drawn t.clock.value in
      let value : r.clock.value ≡ v = ap (λ (z : Clock). z.value) k.clock in
      let draw : r.clock.draw ≡ t.clock.draw + 1 = ap (λ (z : Clock). z.draw) k.clock ∙ omega (arith, low) in
      let E = n.edition in
      let S = n.sites in
      let ran : ran_by n c r ≡ runs n (state_of c) (drawn_site E S v) (drawn_code E S v) =
      ap (λ (w : DrawnEvent). runs n (state_of c) w.site w.code) (ap (event_of E S) value ∙ event_named E S v some few) in
      eight _ _ _ _ _ _ _ _ _ _ _ _ _ _ _ _ (k.state ∙ ap (λ (w : AfterRun). w.state) ran) value k.next draw k.accepted k.pairs
      (k.serviced ∙ ap (λ (w : AfterRun). entries_by w.answer b t.serviced) ran)
      (k.book ∙ ap (λ (w : AfterRun). book_by w.answer b t.serviced t.clock.draw) ran)

  pub draw_turned : flag ≡ false → 1 ≤ n.sites → n.sites ≤ sites_most → Drew n c d b q t r → Turned n count c d b q o t r
  unfolding turned draw_turn
  draw_turned f some few k =
      record {
        size = k.size;
        same =
            λ R en ec ho low.
            let e = sym (is_told R ec ho) ∙ f in
            drawn_same (low e) some few k
            ∙ ap drawn_by (sym en)
            ∙ ap (λ (z : Bool). cond z (send_turn R p) (draw_turn R p)) (sym e);
      }

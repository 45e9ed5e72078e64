-- The events that turns take are those of the model's script, in its order: as the sends' draw numbers do not fall, the
-- sends marked d stand together. Assumes a valid run; for the script also that it has as many sends as it says.
use Prim.Native.Nat.{ℕ, zero, suc, ◌+◌, ◌-◌, ◌≤◌, ◌<◌}
use mathlib.Core.Path.{◌≡◌, refl, sym, ap, ap₂, ◌∙◌}
use mathlib.Core.Logic.{⊎_elim}
use mathlib.Core.List.{List, [], ◌∷◌, ◌++◌, append-nil, append_assoc}
use mathlib.Core.Bool.{Bool, true, false, cond, ◌&&◌, ◌||◌}
use native.Mathlib.Nat.{not-suc-le-zero, le_of_suc-le-suc, eq-or-lt_of_le}
use native.Mathlib.Decide.{dec_lt}
use native.Mathlib.Numerals.{add-one}
use native.Mathlib.Omega.{arith}
use borrow.Author.Tests.{leb-true, eq-eqb, ne_eqb, eqb-true, eqb-false, ltb-false}
use lib.Dec.{eqb, ltb, leb}
use lib.ListN.{length, get_or, take}
use Rattle.base.specs.Bools.{clash, both, either, not_both, either_way}
use Rattle.base.specs.All.{all_at}
use Rattle.sets.specs.Sets.{targets}
use Rattle.draws.specs.Draws.{drawn_site, drawn_code}
use Rattle.types.specs.declared.StoredSend.{StoredSend}
use Rattle.types.specs.declared.Run.{Run as StoredRun}
use Rattle.types.specs.declared.AfterSend.{AfterSend}
use Rattle.types.specs.declared.Sent.TheVariants.{the_data as Sent, Accepted, Refused as SendRefused}
use Rattle.model.specs.Types.{send_d, send_at}
use Rattle.model.specs.Events.{Event, Send, Run}
use Rattle.model.specs.Runs.{Timed, send_ok, sends_ok, stored_refusal, marked, sends_at, draw_at, at_draw, script_to, script}
use Rattle.machine.specs.Progress.{Progress, due, answered, turned, progress}
use Rattle.machine.proofs.ProgressLaws.{is_due, turned_by, stored_sends, next_value, Facts, facts, facts_of}
use Rattle.machine.proofs.ProgressLawsEvents.{turn_event, and_then, events_to}

-- ---- the sends of a valid run

module _ (r : StoredRun) (ok : sends_ok r ≡ true) where
  -- a draw that the run has, or its end; not below the send's before it
  marked_at : (k : ℕ) → k < r.count
      → ((send_at r k).draw ≤ r.draws) × (0 < k → (send_at r (k - 1)).draw ≤ (send_at r k).draw)
  marked_at k h =
      let own = ltb (send_at r k).site r.network.sites && targets r.network.sites (send_at r k).set in
      let low = leb (send_at r k).draw r.draws in
      let up = eqb k 0 || leb (send_at r (k - 1)).draw (send_at r k).draw in
      let a = both (own && low) up (all_at (send_ok r) k r.count h ok) in
      let b = both own low a.0 in (
        leb-true _ _ b.1,
        λ p.
            ⊎_elim (λ e. let z = eqb-true k 0 e in absurd (omega arith)) (λ e. leb-true _ _ e)
            (either (eqb k 0) (leb (send_at r (k - 1)).draw (send_at r k).draw) a.1),
      )

  -- draw numbers do not fall
  rising : (i k : ℕ) → i ≤ k → k < r.count → (send_at r i).draw ≤ (send_at r k).draw
  rising i zero l h = let e : i ≡ 0 = omega arith in rw e (omega arith)
  rising i (suc k) l h =
      ⊎_elim (λ e. rw e (omega arith))
      (λ m.
      let e : suc k - 1 ≡ k = omega arith in
      let f = rw e at ((marked_at (suc k) h).1 (omega arith)) in
      omega (arith, f, rising i k (le_of_suc-le-suc m) (omega arith)))
      (eq-or-lt_of_le l)

-- ---- the sends marked d among the first k

cond_append : {A : Type 0} (b : Bool) (x : A) (l m : List A) → cond b (x ∷ (l ++ m)) (l ++ m) ≡ cond b (x ∷ l) l ++ m
cond_append true x l m = refl
cond_append false x l m = refl

abbrev send_of : StoredSend → Event
send_of e = Send e.site e.set

marked_more : (d : ℕ) (l : List StoredSend) (k : ℕ) → k < length l
    → marked d (take (suc k) l)
    ≡ marked d (take k l) ++ cond (eqb (get_or l k send_d).draw d) (send_of (get_or l k send_d) ∷ []) []
unfolding marked
marked_more d [] k h = absurd (not-suc-le-zero h)
marked_more d (e ∷ l) zero h = refl
marked_more d (e ∷ l) (suc k) h =
    let later = cond (eqb (get_or l k send_d).draw d) (send_of (get_or l k send_d) ∷ []) [] in
    ap (λ (m : List Event). cond (eqb e.draw d) (send_of e ∷ m) m) (marked_more d l k (le_of_suc-le-suc h))
    ∙ cond_append (eqb e.draw d) (send_of e) (marked d (take k l)) later

-- where none from i to k is marked d
marked_same : (d : ℕ) (l : List StoredSend) (i k : ℕ) → i ≤ k → k ≤ length l
    → ((j : ℕ) → i ≤ j → j < k → (get_or l j send_d).draw ≡ d → ⊥) → marked d (take k l) ≡ marked d (take i l)
marked_same d l i zero h m none = let e : i ≡ 0 = omega arith in rw e refl
marked_same d l i (suc k) h m none =
    ⊎_elim (λ e. ap (λ (j : ℕ). marked d (take j l)) (sym e))
    (λ p.
    let q = le_of_suc-le-suc p in
    marked_more d l k (omega arith)
    ∙ ap (λ (b : Bool). marked d (take k l) ++ cond b (send_of (get_or l k send_d) ∷ []) [])
    (ne_eqb _ _ (none k q (omega arith)))
    ∙ append-nil (marked d (take k l))
    ∙ marked_same d l i k q (omega arith) (λ j a b. none j a (omega arith)))
    (eq-or-lt_of_le h)

at_more : (d : ℕ) (es : List Event) (e : Event) → at_draw d (es ++ (e ∷ [])) ≡ and_then (at_draw d es) d e
at_more d [] e = refl
at_more d (x ∷ es) e = ap (λ (l : List Timed). record { draw = d; event = x } ∷ l) (at_more d es e)

-- ---- the script as far as send i and draw d

abbrev pub so_far : StoredRun → ℕ → ℕ → List Timed
so_far r i d = script_to r d ++ at_draw d (marked d (take i r.sends))

-- a send of those marked d
so_far_send : (r : StoredRun) (i d : ℕ) → i < length r.sends → (send_at r i).draw ≡ d
    → so_far r (suc i) d ≡ and_then (so_far r i d) d (send_of (send_at r i))
so_far_send r i d h e =
    let was = marked d (take i r.sends) in
    let now =
    marked_more d r.sends i h
    ∙ ap (λ (b : Bool). was ++ cond b (send_of (send_at r i) ∷ []) []) (eq-eqb (send_at r i).draw d e) in
    ap (λ (l : List Event). script_to r d ++ at_draw d l) now
    ∙ ap (λ (l : List Timed). script_to r d ++ l) (at_more d was (send_of (send_at r i)))
    ∙ sym (append_assoc (script_to r d) (at_draw d was) _)

-- draw d, behind the last of them
so_far_draw : (r : StoredRun) (i d : ℕ) → i ≤ r.count → r.count ≤ length r.sends
    → ((j : ℕ) → j < i → (send_at r j).draw ≤ d) → ((j : ℕ) → i ≤ j → j < r.count → (send_at r j).draw ≡ d → ⊥)
    → so_far r i (suc d) ≡ and_then (so_far r i d) d (draw_at r d)
unfolding script_to marked
so_far_draw r i d h m past coming =
    let was = marked d (take i r.sends) in
    let none : marked (suc d) (take i r.sends) ≡ [] =
    marked_same (suc d) r.sends 0 i (omega arith) (omega arith) (λ j a b e. omega (arith, past j b)) in
    let here : sends_at r d ≡ was = marked_same d r.sends i r.count h m coming in
    ap (λ (l : List Event). script_to r (suc d) ++ at_draw (suc d) l) none
    ∙ append-nil (script_to r (suc d))
    ∙ ap (λ (l : List Event). script_to r d ++ at_draw d (l ++ (draw_at r d ∷ []))) here
    ∙ ap (λ (l : List Timed). script_to r d ++ l) (at_more d was (draw_at r d))
    ∙ sym (append_assoc (script_to r d) (at_draw d was) _)

-- ---- one turn

turned_send : (r : StoredRun) (p : Progress) → due r p ≡ true
    → ((turned r p).next ≡ suc p.next) × ((turned r p).draw ≡ p.draw)
turned_send r p h =
    turned_by (λ (w : Progress). (w.next ≡ suc p.next) × (w.draw ≡ p.draw)) r p (λ e a s. sent a s)
    (λ e a. absurd (clash (sym h ∙ e)))
  where
    sent : (a : AfterSend) (s : Sent)
        → ((answered p (send_at r p.next).set a s).next ≡ suc p.next)
        × ((answered p (send_at r p.next).set a s).draw ≡ p.draw)
    sent a (Accepted q) = (add-one p.next, refl)
    sent a (SendRefused q) = (add-one p.next, refl)

turned_draw : (r : StoredRun) (p : Progress) → due r p ≡ false
    → ((turned r p).next ≡ p.next) × ((turned r p).draw ≡ suc p.draw)
turned_draw r p h =
    turned_by (λ (w : Progress). (w.next ≡ p.next) × (w.draw ≡ suc p.draw)) r p
    (λ e a s. absurd (clash (sym e ∙ h))) (λ e a. (refl, add-one p.draw))

-- ---- after k turns

-- sends before the next one are marked with a draw that has come, the others with one to come
pub record Placed (r : StoredRun) (i d : ℕ) : Type 0 where
  pub past : (j : ℕ) → j < i → (send_at r j).draw ≤ d
  pub coming : (j : ℕ) → i ≤ j → j < r.count → d ≤ (send_at r j).draw
  pub within : d ≤ r.draws

module _ (r : StoredRun) (room : List ℕ) (ok : stored_refusal r ≡ 0) where
  sends_ok_lem : sends_ok r ≡ true
  sends_ok_lem = (stored_sends r ok).1

  -- where no send is due, none to come is marked with the next draw
  none_due : (p : Progress) → Placed r p.next p.draw → due r p ≡ false → (j : ℕ) → p.next ≤ j → j < r.count
      → p.draw < (send_at r j).draw
  none_due p at h j a b =
      ⊎_elim (λ e. let f = ltb-false p.next r.count e in absurd (omega arith))
      (λ e.
      let f = eqb-false (send_at r p.next).draw p.draw e in
      omega (arith, f, at.coming p.next (omega arith) (omega arith), rising r sends_ok_lem p.next j a b))
      (not_both (ltb p.next r.count) (eqb (send_at r p.next).draw p.draw) h)

  -- and a run that is not over has a draw left
  draw_left : (p : Progress) → Placed r p.next p.draw → p.next + p.draw < r.count + r.draws
      → due r p ≡ false → p.draw < r.draws
  draw_left p at l h = go (dec_lt p.next r.count)
    where
      go : Dec (p.next < r.count) → p.draw < r.draws
      go (yes e) = omega (arith, none_due p at h p.next (omega arith) e, (marked_at r sends_ok_lem p.next e).0)
      go (no e) = omega arith

  placed_send : (p : Progress) → Placed r p.next p.draw → due r p ≡ true → Placed r (suc p.next) p.draw
  placed_send p at h =
      let e = (is_due r p h).1 in
      record {
        past =
            λ j l.
            ⊎_elim (λ i. rw i (omega (arith, e))) (λ m. at.past j m) (eq-or-lt_of_le (le_of_suc-le-suc l));
        coming = λ j a b. at.coming j (omega arith) b;
        within = at.within;
      }

  placed_draw : (p : Progress) → Placed r p.next p.draw → p.next + p.draw < r.count + r.draws
      → due r p ≡ false → Placed r p.next (suc p.draw)
  placed_draw p at l h =
      record {
        past = λ j m. omega (arith, at.past j m);
        coming = λ j a b. none_due p at h j a b;
        within = draw_left p at l h;
      }

  pub placed : (k : ℕ) → k ≤ r.count + r.draws → Placed r (progress r room k).next (progress r room k).draw
  unfolding progress
  placed zero l =
      record { past = λ j m. absurd (not-suc-le-zero m); coming = λ j a b. omega arith; within = omega arith }
  placed (suc k) l =
      let p = progress r room k in
      let at = placed k (omega arith) in
      either_way (due r p) (λ h. let t = turned_send r p h in rw (t.0, t.1) (placed_send p at h))
      (λ h.
      let t = turned_draw r p h in
      rw (t.0, t.1) (placed_draw p at (omega (arith, (facts r room k).turns)) h))

  -- a turn that draws has a draw left; p: the variables of a loop
  pub draw_below : (k : ℕ) (p : Progress) → p ≡ progress r room k → k < r.count + r.draws → due r p ≡ false
      → p.draw < r.draws
  draw_below k p e l h =
      let at : Placed r p.next p.draw = rw e (placed k (omega arith)) in
      draw_left p at (omega (arith, (facts_of r room k p e).turns)) h

  pub draw_within : (k : ℕ) → k ≤ r.count + r.draws → (progress r room k).draw ≤ r.draws
  draw_within k l = (placed k l).within

  -- ---- the events

  module _ (held : r.count ≤ length r.sends) where
    on_script_send : (p : Progress) (es : List Timed) → es ≡ so_far r p.next p.draw → due r p ≡ true
        → and_then es p.draw (turn_event r p) ≡ so_far r (suc p.next) p.draw
    on_script_send p es e h =
        let w = is_due r p h in
        rw h
        (ap (λ (l : List Timed). and_then l p.draw (send_of (send_at r p.next))) e
        ∙ sym (so_far_send r p.next p.draw (omega (arith, w.0)) w.1))

    on_script_draw : (k : ℕ) (p : Progress) (es : List Timed) → es ≡ so_far r p.next p.draw
        → Facts r room k p → Placed r p.next p.draw → due r p ≡ false
        → and_then es p.draw (turn_event r p) ≡ so_far r p.next (suc p.draw)
    on_script_draw k p es e f at h =
        let E = r.network.edition in
        let S = r.network.sites in
        rw h
        (ap₂ (λ (l : List Timed) (v : ℕ). and_then l p.draw (Run (drawn_site E S v) (drawn_code E S v))) e
        (next_value r room k p f)
        ∙ sym (so_far_draw r p.next p.draw f.sends held at.past
        (λ j a b z. omega (arith, none_due p at h j a b))))

    pub on_script : (k : ℕ) → k ≤ r.count + r.draws
        → events_to r room k ≡ so_far r (progress r room k).next (progress r room k).draw
    unfolding progress events_to script_to marked
    on_script zero l = refl
    on_script (suc k) l =
        let p = progress r room k in
        let es = events_to r room k in
        let e = on_script k (omega arith) in
        either_way (due r p) (λ h. let t = turned_send r p h in rw (t.0, t.1) (on_script_send p es e h))
        (λ h.
        let t = turned_draw r p h in
        rw (t.0, t.1) (on_script_draw k p es e (facts r room k) (placed k (omega arith)) h))

    -- of the whole run
    pub turns_script : events_to r room (r.count + r.draws) ≡ script r
    unfolding script
    turns_script =
        let k = r.count + r.draws in
        let p = progress r room k in
        let f = facts r room k in
        let w = draw_within k (omega arith) in
        let d : p.draw ≡ r.draws = omega (arith, f.turns, f.sends, w) in
        let i : p.next ≡ r.count = omega (arith, f.turns, f.sends, w) in
        on_script k (omega arith) ∙ ap₂ (so_far r) i d

-- The player by turns is the model's player: state, counts and every byte of the lent room. A service always finds room
-- for its entry, as services and owed pairs make up the pairs. Assumes a valid run, its array of sends as long as its
-- type says, and lent bytes for the summed sizes of all stored sends' sets.
use Prim.Native.Nat.{ℕ, zero, suc, ◌+◌, ◌*◌, ◌≤◌}
use mathlib.Core.Path.{◌≡◌, refl, sym, ap, ap₂, ◌∙◌}
use mathlib.Core.List.{List, [], ◌∷◌, ◌++◌}
use mathlib.Core.Bool.{Bool, true, false, cond}
use native.Mathlib.Omega.{arith}
use lib.ListN.{length, take, drop, length-append, length-drop}
use lib.Seq.{take_at, drop-append-add, drop-drop, sets-eq}
use Rattle.base.specs.Sizes.{sends_most}
use Rattle.draws.specs.Draws.{drawn}
use Rattle.types.specs.declared.State.{State}
use Rattle.types.specs.declared.Run.{Run}
use Rattle.types.specs.declared.AfterSend.{AfterSend}
use Rattle.types.specs.declared.Sent.TheVariants.{the_data as Sent, Accepted, Refused as SendRefused}
use Rattle.types.specs.declared.Ran.TheVariants.{the_data as Ran, Nothing, Changed, Serviced, Refused as RunRefused}
use Rattle.model.specs.Types.{send_at}
use Rattle.base.specs.Answers.{at_front}
use Rattle.model.specs.Runs.{Service, Played, unplayed, service_bytes, book_bytes, book_room, stored_refusal, entered, try_send, played, played_run}
use Rattle.machine.specs.Progress.{Progress, due, answered, send_turn, entered_at, drew, drawn_run, draw_turn, turned, progress, room_left}
use Rattle.machine.proofs.ProgressLaws.{stored_sends, facts}
use Rattle.machine.proofs.ProgressLawsEvents.{book_turn, services_to, as_played, turns_played, services_fit}
use Rattle.machine.proofs.ProgressLawsOrder.{turns_script}

-- ---- the bytes of a book

bytes_length : (l : List Service) → length (book_bytes l) ≡ 4 * length l
unfolding book_bytes
bytes_length [] = refl
bytes_length (e ∷ l) = omega (arith, bytes_length l)

bytes_more : (l : List Service) (e : Service) → book_bytes (l ++ (e ∷ [])) ≡ book_bytes l ++ service_bytes e
unfolding book_bytes
bytes_more [] e = refl
bytes_more (x ∷ l) e = ap (λ (b : List ℕ). service_bytes x ++ b) (bytes_more l e)

-- the lent bytes with the services l at their front, the rest as it was
abbrev pub filled : List Service → List ℕ → List ℕ
filled l room = book_bytes l ++ drop (4 * length l) room

four_stored : (b : List ℕ) (a d q s : ℕ) → a + 4 ≤ length b
    → entered_at b a d q s ≡ take a b ++ service_bytes (record { draw = d; packet = q; site = s }) ++ drop (a + 4) b
unfolding entered_at
four_stored b a d q s h =
    let e₁ : a + 1 ≡ suc a = omega arith in
    let e₂ : a + 2 ≡ suc (suc a) = omega arith in
    let e₃ : a + 3 ≡ suc (suc (suc a)) = omega arith in
    rw (e₁, e₂, e₃) (sets-eq (service_bytes (record { draw = d; packet = q; site = s })) b a h)

filled_more : (l : List Service) (room : List ℕ) (d q s : ℕ) → 4 * length l + 4 ≤ length room
    → entered_at (filled l room) (4 * length l) d q s
    ≡ filled (l ++ (record { draw = d; packet = q; site = s } ∷ [])) room
filled_more l room d q s h =
    let e : Service = record { draw = d; packet = q; site = s } in
    let at = 4 * length l in
    let front : take at (filled l room) ≡ book_bytes l = take_at (book_bytes l) (drop at room) at (bytes_length l) in
    let long : length (filled l room) ≡ length room =
    length-append (book_bytes l) (drop at room) ∙ omega (arith, bytes_length l, length-drop at room) in
    let more : 4 * length (l ++ (e ∷ [])) ≡ at + 4 = omega (arith, length-append l (e ∷ [])) in
    let back : drop (at + 4) (filled l room) ≡ drop (at + 4) room =
    ap (λ (k : ℕ). drop (k + 4) (filled l room)) (sym (bytes_length l))
    ∙ drop-append-add (book_bytes l) (drop at room) 4 ∙ drop-drop 4 at room in
    four_stored (filled l room) at d q s (omega (arith, long))
    ∙ ap₂ (λ (x y : List ℕ). x ++ service_bytes e ++ y) front back
    ∙ ap₂ (λ (x : List ℕ) (k : ℕ). x ++ drop k room) (sym (bytes_more l e)) (sym more)

-- ---- a turn

abbrev pub Booked : List ℕ → Progress → List Service → Type 0
Booked room p l = (p.serviced ≡ length l) × (p.book ≡ filled l room)

module _ (room : List ℕ) (p : Progress) (l : List Service) (ok : Booked room p l) where
  sent_booked : (X : ℕ) (a : AfterSend) (s : Sent) → Booked room (answered p X a s) l
  sent_booked X a (Accepted q) = ok
  sent_booked X a (SendRefused k) = ok

  drew_booked : (v : ℕ) (y : State) (s : Ran) → length p.book ≡ length room
      → 4 * length (entered p.draw s l) ≤ length room → Booked room (drew p v y s) (entered p.draw s l)
  drew_booked v y Nothing k h = ok
  drew_booked v y Changed k h = ok
  drew_booked v y (Serviced q s) k h =
      let e = length-append l (record { draw = p.draw; packet = q; site = s } ∷ []) in
      let f = room_left p.book p.serviced p.draw q s (omega (arith, k, h, e, ok.0)) in (
        omega (arith, f.0, ok.0, e),
        f.1 ∙ (rw (ok.0, ok.1) (filled_more l room p.draw q s (omega (arith, h, e)))),
      )
  drew_booked v y (RunRefused q) k h = ok

  turned_booked : (r : Run) → length p.book ≡ length room → 4 * length (book_turn r p l) ≤ length room
      → Booked room (turned r p) (book_turn r p l)
  unfolding turned send_turn draw_turn
  turned_booked r k h = go (due r p) h
    where
      go : (b : Bool) → 4 * length (cond b l (entered p.draw (drawn_run r p).answer l)) ≤ length room
          → Booked room (cond b (send_turn r p) (draw_turn r p)) (cond b l (entered p.draw (drawn_run r p).answer l))
      go true h =
          let e = send_at r p.next in
          let a = try_send r.network p.state e.site e.set in
          sent_booked e.set a a.answer
      go false h = drew_booked (drawn p.value) (drawn_run r p).state (drawn_run r p).answer k h

-- ---- after k turns

module _ (r : Run) (room : List ℕ) (ok : stored_refusal r ≡ 0) (held : length r.sends ≡ sends_most) where
  enough : r.count ≤ length r.sends
  enough = omega (arith, (stored_sends r ok).0)

  module _ (wide : book_room r ≤ length room) where
    pub booked : (k : ℕ) → Booked room (progress r room k) (services_to r room k)
    unfolding progress services_to book_bytes
    booked zero = (refl, refl)
    booked (suc k) =
        turned_booked room (progress r room k) (services_to r room k) (booked k) r (facts r room k).kept
        (omega (arith, services_fit r room ok (suc k) enough, wide))

  pub progress_played : as_played (progress r room (r.count + r.draws)) (services_to r room (r.count + r.draws))
      ≡ played_run r
  unfolding played_run
  progress_played =
      sym (turns_played r room (r.count + r.draws))
      ∙ ap (played r.network unplayed) (turns_script r room ok enough)

-- ---- the law

filled_front : (l : List Service) (room : List ℕ) → filled l room ≡ at_front (book_bytes l) room
unfolding at_front
filled_front l room = rw (bytes_length l) refl

pub progress_is : (r : Run) (room : List ℕ) → stored_refusal r ≡ 0 → length r.sends ≡ sends_most
    → book_room r ≤ length room
    → let p = progress r room (r.count + r.draws) in
    (p.state ≡ (played_run r).state)
    × (p.accepted ≡ (played_run r).accepted)
    × (p.pairs ≡ (played_run r).pairs)
    × (p.serviced ≡ length (played_run r).book)
    × (p.book ≡ at_front (book_bytes (played_run r).book) room)
progress_is r room ok held wide =
    let e = progress_played r room ok held in
    let b = booked r room ok held wide (r.count + r.draws) in (
      ap (λ (w : Played). w.state) e,
      ap (λ (w : Played). w.accepted) e,
      ap (λ (w : Played). w.pairs) e,
      b.0 ∙ ap (λ (w : Played). length w.book) e,
      b.1 ∙ ap (λ (w : Played). filled w.book room) e ∙ filled_front (played_run r).book room,
    )

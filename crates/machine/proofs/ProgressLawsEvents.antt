-- The events that turns take, played by the model's definitions: state, counts and services of the player by turns are
-- theirs, so demand 3, range kept and the counts speak of it at every turn. Assumes a valid run where it says so.
use Prim.Native.Nat.{ℕ, zero, suc, ◌+◌, ◌*◌, ◌≤◌}
use mathlib.Core.Path.{◌≡◌, refl, sym, ap, ◌∙◌}
use mathlib.Core.List.{List, [], ◌∷◌, ◌++◌}
use mathlib.Core.Bool.{Bool, true, false, cond}
use native.Mathlib.Omega.{arith}
use lib.ListN.{length}
use Rattle.base.specs.Bools.{cond_ok}
use Rattle.draws.specs.Draws.{drawn, drawn_site, drawn_code}
use Rattle.draws.proofs.Laws.{site_below, code_below}
use Rattle.types.specs.declared.Network.{Network}
use Rattle.types.specs.declared.Run.{Run as StoredRun}
use Rattle.types.specs.declared.AfterSend.{AfterSend}
use Rattle.types.specs.declared.Sent.TheVariants.{the_data as Sent, Accepted, Refused as SendRefused}
use Rattle.model.specs.Types.{no_state, send_at}
use Rattle.model.specs.Range.{in_range}
use Rattle.model.specs.Events.{Event, Send, Run, final}
use Rattle.model.specs.Owing.{owed_pairs}
use Rattle.model.specs.Runs.{Timed, Service, Played, unplayed, stored_refusal, book_room, send_played, entered, try_send, advance, played, played_singly}
use Rattle.theorems.proofs.Networks.{valid_ok}
use Rattle.theorems.proofs.RangeKept.{empty_shaped, empty_in_range, reached}
use Rattle.theorems.proofs.Played.{AllNamed, singly_state, same_played, stored_network}
use Rattle.theorems.proofs.PlayerCounts.{singly_counts}
use Rattle.machine.specs.Progress.{Progress, due, answered, send_turn, drawn_run, draw_turn, turned, progress}
use Rattle.machine.proofs.PlayerRoom.{sizes_grow, room_is}
use Rattle.machine.proofs.ProgressLaws.{facts}
use Rattle.model.specs.Runs.{events}

-- ---- the events of the first k turns, and their services

abbrev pub turn_event : StoredRun → Progress → Event
turn_event r p =
    let e = send_at r p.next in
    let v = drawn p.value in
    let E = r.network.edition in
    let S = r.network.sites in
    cond (due r p) (Send e.site e.set) (Run (drawn_site E S v) (drawn_code E S v))

-- the events es, and event e of draw d, or before it
abbrev pub and_then : List Timed → ℕ → Event → List Timed
and_then es d e = es ++ (record { draw = d; event = e } ∷ [])

unfoldable pub events_to : StoredRun → List ℕ → ℕ → List Timed
events_to r room zero = []
events_to r room (suc k) =
    let p = progress r room k in and_then (events_to r room k) p.draw (turn_event r p)

abbrev pub book_turn : StoredRun → Progress → List Service → List Service
book_turn r p l = cond (due r p) l (entered p.draw (drawn_run r p).answer l)

unfoldable pub services_to : StoredRun → List ℕ → ℕ → List Service
services_to r room zero = []
services_to r room (suc k) = book_turn r (progress r room k) (services_to r room k)

-- ---- one event more

played_more : (n : Network) (w : Played) (es : List Timed) (d : ℕ) (e : Event)
    → played n w (and_then es d e) ≡ advance n (played n w es) d e
unfolding played
played_more n w [] d e = refl
played_more n w (x ∷ es) d e = played_more n (advance n w x.draw x.event) es d e

named_more : (n : Network) (es : List Timed) (d : ℕ) (e : Event) → AllNamed n es → AllNamed n (and_then [] d e)
    → AllNamed n (and_then es d e)
named_more n [] d e a b = b
named_more n (x ∷ es) d e a b = (a.0, named_more n es d e a.1 b)

-- ---- a turn is its event played

-- how far the player has come, in the model's words, with the services l
abbrev pub as_played : Progress → List Service → Played
as_played p l = record { state = p.state; accepted = p.accepted; pairs = p.pairs; book = l }

send_same : (p : Progress) (l : List Service) (X : ℕ) (a : AfterSend) (s : Sent)
    → send_played (as_played p l) X a s ≡ as_played (answered p X a s) l
send_same p l X a (Accepted q) = refl
send_same p l X a (SendRefused k) = refl

turn_same : (r : StoredRun) (p : Progress) (l : List Service)
    → advance r.network (as_played p l) p.draw (turn_event r p) ≡ as_played (turned r p) (book_turn r p l)
unfolding turned send_turn draw_turn
turn_same r p l = go (due r p)
  where
    go : (b : Bool)
        → advance r.network (as_played p l) p.draw
        (cond b (Send (send_at r p.next).site (send_at r p.next).set)
        (Run (drawn_site r.network.edition r.network.sites (drawn p.value))
        (drawn_code r.network.edition r.network.sites (drawn p.value))))
        ≡ as_played (cond b (send_turn r p) (draw_turn r p)) (cond b l (entered p.draw (drawn_run r p).answer l))
    go true =
        let e = send_at r p.next in
        let a = try_send r.network p.state e.site e.set in
        send_same p l e.set a a.answer
    go false = refl

-- ---- after k turns

module _ (r : StoredRun) (room : List ℕ) where
  abbrev n : Network
  n = r.network

  pub turns_played : (k : ℕ)
      → played n unplayed (events_to r room k) ≡ as_played (progress r room k) (services_to r room k)
  unfolding played progress events_to services_to
  turns_played zero = refl
  turns_played (suc k) =
      let p = progress r room k in
      played_more n unplayed (events_to r room k) p.draw (turn_event r p)
      ∙ ap (λ (w : Played). advance n w p.draw (turn_event r p)) (turns_played k)
      ∙ turn_same r p (services_to r room k)

  module _ (ok : stored_refusal r ≡ 0) where
    some : 1 ≤ n.sites
    some = (valid_ok n (stored_network r ok)).some

    turns_named : (k : ℕ) → AllNamed n (events_to r room k)
    unfolding events_to
    turns_named zero = tt
    turns_named (suc k) =
        let p = progress r room k in
        let E = n.edition in
        let S = n.sites in
        let v = drawn p.value in
        named_more n (events_to r room k) p.draw (turn_event r p) (turns_named k)
        (cond_ok (λ (e : Event). AllNamed n (and_then [] p.draw e)) (due r p) _ _
        (λ h. (tt, tt))
        (λ h. ((site_below E S v some, code_below E S v), tt)))

    -- the player by turns is the single events applied in order from the empty state
    pub progress_singly : (k : ℕ)
        → as_played (progress r room k) (services_to r room k) ≡ played_singly n unplayed (events_to r room k)
    progress_singly k =
        sym (turns_played k)
        ∙ same_played n (stored_network r ok) unplayed (events_to r room k) empty_shaped (empty_in_range n)
        (turns_named k)

    pub progress_final : (k : ℕ) → (progress r room k).state ≡ final n no_state (events (events_to r room k))
    progress_final k =
        ap (λ (w : Played). w.state) (progress_singly k) ∙ singly_state n unplayed (events_to r room k)

    pub progress_in_range : (k : ℕ) → in_range n (progress r room k).state ≡ true
    progress_in_range k = rw (progress_final k) (reached n (events (events_to r room k)))

    -- the same of the variables of a loop
    pub in_range_of : (k : ℕ) (p : Progress) → p ≡ progress r room k → in_range n p.state ≡ true
    in_range_of k p e = rw e (progress_in_range k)

    -- services and owed pairs make up the pairs
    pub progress_counts : (k : ℕ)
        → length (services_to r room k) + owed_pairs (progress r room k).state.sites ≡ (progress r room k).pairs
    progress_counts k =
        let e = progress_singly k in
        omega (
          arith,
          singly_counts n (stored_network r ok) (events_to r room k),
          ap (λ (w : Played). length w.book) e,
          ap (λ (w : Played). owed_pairs w.state.sites) e,
          ap (λ (w : Played). w.pairs) e,
        )

    -- so they stay below the room that is asked for
    pub services_fit : (k : ℕ) → r.count ≤ length r.sends → 4 * length (services_to r room k) ≤ book_room r
    services_fit k h =
        let p = progress r room k in
        let f = facts r room k in
        omega (
          arith,
          room_is r h,
          progress_counts k,
          f.pairs,
          sizes_grow r.sends p.next r.count f.sends,
        )

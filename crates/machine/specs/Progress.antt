-- The player by turns, as a loop takes them: a turn is a send that is due, or a draw. The quoted phrases are document
-- 01's. Assumes nothing.
use Rattle.std.specs.Prelude.{ℕ, zero, suc, ◌+◌, ◌-◌, ◌*◌, ◌/◌, ◌%◌, ◌≤◌, ◌<◌, ◌≡◌, refl, List, Bool, true, false, cond, ◌&&◌, eqb, ltb, length, set}
use Rattle.std.proofs.Common.{ap, ◌∙◌, add-one, arith, lt-ltb, le-ltb, ltb-true, length-set}
use Rattle.base.specs.Sizes.{sends_most}
use Rattle.base.specs.Bools.{cond_ok}
use Rattle.sets.specs.Sets.{size}
use Rattle.draws.specs.Draws.{drawn, drawn_site, drawn_code}
use Rattle.types.specs.declared.State.{State}
use Rattle.types.specs.declared.StoredSend.{StoredSend}
use Rattle.types.specs.declared.Run.{Run}
use Rattle.types.specs.declared.AfterSend.{AfterSend}
use Rattle.types.specs.declared.AfterRun.{AfterRun}
use Rattle.types.specs.declared.Sent.TheVariants.{the_data as Sent, Accepted, Refused as SendRefused}
use Rattle.types.specs.declared.Ran.TheVariants.{the_data as Ran, Nothing, Changed, Serviced, Refused as RunRefused}
use Rattle.model.specs.Types.{no_state, send_at}
use Rattle.model.specs.Events.{runs}
use Rattle.model.specs.Runs.{try_send}

-- where a run stands: the state, the draws' value, the next stored send, the next draw's number, the packets accepted,
-- their summed set sizes, the services, the lent bytes
pub record Progress : Type 0 where
  pub state : State
  pub value : ℕ
  pub next : ℕ
  pub draw : ℕ
  pub accepted : ℕ
  pub pairs : ℕ
  pub serviced : ℕ
  pub book : List ℕ

abbrev pub begin : ℕ → List ℕ → Progress
begin seed room =
    record {
      state = no_state;
      value = seed;
      next = 0;
      draw = 0;
      accepted = 0;
      pairs = 0;
      serviced = 0;
      book = room;
    }

-- ---- a send: "A send marked d is applied before draw d (counted from 0), in stored order."

abbrev pub due : Run → Progress → Bool
due r p = ltb p.next r.count && eqb (send_at r p.next).draw p.draw

-- by its answer; "A refused send is passed over."
abbrev pub answered : Progress → ℕ → AfterSend → Sent → Progress
answered p X a (Accepted q) =
    record {
      state = a.state;
      value = p.value;
      next = p.next + 1;
      draw = p.draw;
      accepted = p.accepted + 1;
      pairs = p.pairs + size X;
      serviced = p.serviced;
      book = p.book;
    }
answered p X a (SendRefused k) =
    record {
      state = p.state;
      value = p.value;
      next = p.next + 1;
      draw = p.draw;
      accepted = p.accepted;
      pairs = p.pairs;
      serviced = p.serviced;
      book = p.book;
    }

unfoldable pub send_turn : Run → Progress → Progress
send_turn r p =
    let e = send_at r p.next in
    let a = try_send r.network p.state e.site e.set in
    answered p e.set a a.answer

-- ---- the book: "The book is 4 bytes a service: draw 2, packet 1, site 1."

-- the service of packet q at site s by draw d, stored at a
unfoldable pub entered_at : List ℕ → ℕ → ℕ → ℕ → ℕ → List ℕ
entered_at b a d q s = set (set (set (set b a (d / 256 % 256)) (a + 1) (d % 256)) (a + 2) q) (a + 3) s

-- behind k services: how many there are then, and the lent bytes; a service that they have no room for is not entered
unfoldable pub entries_after : List ℕ → ℕ → ℕ
entries_after b k = cond (ltb (length b) (4 * k + 4)) k (k + 1)

unfoldable pub book_after : List ℕ → ℕ → ℕ → ℕ → ℕ → List ℕ
book_after b k d q s = cond (ltb (length b) (4 * k + 4)) b (entered_at b (4 * k) d q s)

-- the same by RUN's answer
abbrev pub entries_by : Ran → List ℕ → ℕ → ℕ
entries_by Nothing b k = k
entries_by Changed b k = k
entries_by (Serviced q s) b k = entries_after b k
entries_by (RunRefused f) b k = k

abbrev pub book_by : Ran → List ℕ → ℕ → ℕ → List ℕ
book_by Nothing b k d = b
book_by Changed b k d = b
book_by (Serviced q s) b k d = book_after b k d q s
book_by (RunRefused f) b k d = b

-- ---- a draw: "Each draw advances first."

-- after a draw with the value v that leaves the state y and answers a
abbrev pub drew : Progress → ℕ → State → Ran → Progress
drew p v y a =
    record {
      state = y;
      value = v;
      next = p.next;
      draw = p.draw + 1;
      accepted = p.accepted;
      pairs = p.pairs;
      serviced = entries_by a p.book p.serviced;
      book = book_by a p.book p.serviced p.draw;
    }

-- the RUN that the next draw names
abbrev pub drawn_run : Run → Progress → AfterRun
drawn_run r p =
    let v = drawn p.value in
    let E = r.network.edition in
    let S = r.network.sites in
    runs r.network p.state (drawn_site E S v) (drawn_code E S v)

unfoldable pub draw_turn : Run → Progress → Progress
draw_turn r p = drew p (drawn p.value) (drawn_run r p).state (drawn_run r p).answer

-- ---- turn by turn

unfoldable pub turned : Run → Progress → Progress
turned r p = cond (due r p) (send_turn r p) (draw_turn r p)

unfoldable pub progress : Run → List ℕ → ℕ → Progress
progress r room zero = begin r.seed room
progress r room (suc k) = turned r (progress r room k)

-- ---- what a loop over turns cites

-- before its first turn
pub no_turn : (r : Run) (room : List ℕ) → begin r.seed room ≡ progress r room 0
unfolding progress
no_turn r room = refl

-- after each turn
pub one_turn : (r : Run) (room : List ℕ) (k : ℕ) (p p' : Progress) → p ≡ progress r room k → p' ≡ turned r p
    → p' ≡ progress r room (k + 1)
unfolding progress
one_turn r room k p p' e f = rw (add-one k) (f ∙ ap (turned r) e)

-- with room for one more, and without
pub room_left : (b : List ℕ) (k d q s : ℕ) → 4 * k + 4 ≤ length b
    → (entries_after b k ≡ k + 1) × (book_after b k d q s ≡ entered_at b (4 * k) d q s)
unfolding entries_after book_after
room_left b k d q s h = let e = le-ltb (length b) (4 * k + 4) h in (rw e refl, rw e refl)

pub no_room : (b : List ℕ) (k d q s : ℕ) → length b < 4 * k + 4 → (entries_after b k ≡ k) × (book_after b k d q s ≡ b)
unfolding entries_after book_after
no_room b k d q s h = let e = lt-ltb (length b) (4 * k + 4) h in (rw e refl, rw e refl)

pub entries_most : (b : List ℕ) (k : ℕ) → entries_after b k ≤ k + 1
unfolding entries_after
entries_most b k = cond_ok (λ (m : ℕ). m ≤ k + 1) (ltb (length b) (4 * k + 4)) _ _ (λ h. omega arith) (λ h. omega arith)

pub book_length : (b : List ℕ) (k d q s : ℕ) → length (book_after b k d q s) ≡ length b
unfolding book_after entered_at
book_length b k d q s =
    cond_ok (λ (l : List ℕ). length l ≡ length b) (ltb (length b) (4 * k + 4)) _ _ (λ h. refl)
    (λ h. rw (length-set, length-set, length-set, length-set))

-- ---- the next stored send

-- the place of send k, or the last one
abbrev pub capped_at : ℕ → ℕ
capped_at k = cond (ltb k sends_most) k (sends_most - 1)

pub capped_below : (k : ℕ) → capped_at k < sends_most
capped_below k = cond_ok (λ (m : ℕ). m < sends_most) (ltb k sends_most) _ _ (λ h. ltb-true k sends_most h) (λ h. omega arith)

pub capped_same : (k : ℕ) → k < sends_most → capped_at k ≡ k
capped_same k h = rw (lt-ltb k sends_most h) refl

-- the test for a send, where the place that is read is the next send's only if there is one
pub due_at : (r : Run) (p : Progress) (e : StoredSend) (k : ℕ) → (p.next < r.count → k ≡ p.next) → e ≡ send_at r k
    → (ltb p.next r.count && eqb e.draw p.draw) ≡ due r p
due_at r p e k h i = go (ltb p.next r.count) refl
  where
    go : (b : Bool) → ltb p.next r.count ≡ b
        → (b && eqb e.draw p.draw) ≡ (b && eqb (send_at r p.next).draw p.draw)
    go true t =
        ap (λ (o : StoredSend). eqb o.draw p.draw) (i ∙ ap (send_at r) (h (ltb-true p.next r.count t)))
    go false t = refl

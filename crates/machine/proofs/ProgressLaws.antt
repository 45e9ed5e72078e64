-- What a run is known by after any number of turns, whatever run it is: how far its sends and draws have come, what is
-- counted, and the lent bytes' length. Assumes nothing.
use Prim.Native.Nat.{ℕ, zero, suc, ◌+◌, ◌*◌, ◌≤◌, ◌<◌}
use mathlib.Core.Path.{◌≡◌, refl, sym, ap, ◌∙◌}
use mathlib.Core.List.{List}
use mathlib.Core.Bool.{true, false}
use native.Mathlib.Omega.{arith}
use borrow.Author.Tests.{ltb-true, eqb-true}
use lib.Dec.{ltb}
use lib.ListN.{length}
use Rattle.base.specs.Sizes.{set_bits, sends_most}
use Rattle.base.specs.Bools.{cond_ok, both}
use Rattle.base.specs.Sums.{upto}
use Rattle.draws.specs.Draws.{drawn, value_after}
use Rattle.draws.proofs.Laws.{value_none, value_more}
use Rattle.types.specs.declared.State.{State}
use Rattle.types.specs.declared.Run.{Run}
use Rattle.types.specs.declared.AfterSend.{AfterSend}
use Rattle.types.specs.declared.AfterRun.{AfterRun}
use Rattle.types.specs.declared.Sent.TheVariants.{the_data as Sent, Accepted, Refused as SendRefused}
use Rattle.types.specs.declared.Ran.TheVariants.{the_data as Ran, Nothing, Changed, Serviced, Refused as RunRefused}
use Rattle.model.specs.Types.{send_at}
use Rattle.model.specs.Runs.{sends_ok, stored_refusal, try_send}
use Rattle.machine.specs.Progress.{Progress, due, answered, send_turn, drew, drawn_run, draw_turn, turned, progress}
use Rattle.machine.specs.Progress.{entries_by, book_by, entries_most, book_length}
use Rattle.theorems.proofs.SoundRuns.{sound}
use Rattle.machine.proofs.PlayerRoom.{sizes_to, sizes_next, sizes_most}

-- ---- a turn's two ways

pub is_due : (r : Run) (p : Progress) → due r p ≡ true → (p.next < r.count) × ((send_at r p.next).draw ≡ p.draw)
is_due r p h = let w = both (ltb p.next r.count) _ h in (ltb-true _ _ w.0, eqb-true _ _ w.1)

pub turned_by : (P : Progress → Type 0) (r : Run) (p : Progress)
    → (due r p ≡ true → (a : AfterSend) (s : Sent) → P (answered p (send_at r p.next).set a s))
    → (due r p ≡ false → (a : AfterRun) → P (drew p (drawn p.value) a.state a.answer)) → P (turned r p)
unfolding turned send_turn draw_turn
turned_by P r p h k =
    let e = send_at r p.next in
    let a = try_send r.network p.state e.site e.set in
    cond_ok P (due r p) _ _ (λ b. h b a a.answer) (λ b. k b (drawn_run r p))

-- ---- a valid run's sends: no more than it may have, and each as it should be

pub stored_sends : (r : Run) → stored_refusal r ≡ 0 → (r.count ≤ sends_most) × (sends_ok r ≡ true)
stored_sends r h = let k = sound r h in (k.count, k.sends)

-- ---- what a RUN leaves of the book

entries_by_most : (a : Ran) (b : List ℕ) (k : ℕ) → entries_by a b k ≤ k + 1
entries_by_most Nothing b k = omega arith
entries_by_most Changed b k = omega arith
entries_by_most (Serviced q s) b k = entries_most b k
entries_by_most (RunRefused f) b k = omega arith

pub book_by_length : (a : Ran) (b : List ℕ) (k d : ℕ) → length (book_by a b k d) ≡ length b
book_by_length Nothing b k d = refl
book_by_length Changed b k d = refl
book_by_length (Serviced q s) b k d = book_length b k d q s
book_by_length (RunRefused f) b k d = refl

-- ---- after k turns

pub record Facts (r : Run) (room : List ℕ) (k : ℕ) (p : Progress) : Type 0 where
  pub turns : p.next + p.draw ≡ k
  pub sends : p.next ≤ r.count
  pub accepted : p.accepted ≤ p.next
  pub pairs : p.pairs ≤ sizes_to r.sends p.next
  pub serviced : p.serviced ≤ p.draw
  pub value : p.value ≡ value_after p.draw r.seed
  pub kept : length p.book ≡ length room

module _ (r : Run) (room : List ℕ) (k : ℕ) (p : Progress) (ok : Facts r room k p) where
  sent_facts : p.next < r.count → (a : AfterSend) (s : Sent)
      → Facts r room (suc k) (answered p (send_at r p.next).set a s)
  sent_facts h a (Accepted q) =
      record {
        turns = omega (arith, ok.turns);
        sends = omega (arith, h);
        accepted = omega (arith, ok.accepted);
        pairs = omega (arith, ok.pairs, sizes_next r.sends p.next);
        serviced = ok.serviced;
        value = ok.value;
        kept = ok.kept;
      }
  sent_facts h a (SendRefused q) =
      record {
        turns = omega (arith, ok.turns);
        sends = omega (arith, h);
        accepted = omega (arith, ok.accepted);
        pairs = omega (arith, ok.pairs, sizes_next r.sends p.next);
        serviced = ok.serviced;
        value = ok.value;
        kept = ok.kept;
      }

  pub next_value : drawn p.value ≡ value_after (p.draw + 1) r.seed
  next_value = ap drawn ok.value ∙ sym (value_more p.draw r.seed)

  drew_facts : (y : State) (s : Ran) → Facts r room (suc k) (drew p (drawn p.value) y s)
  drew_facts y s =
      record {
        turns = omega (arith, ok.turns);
        sends = ok.sends;
        accepted = ok.accepted;
        pairs = ok.pairs;
        serviced = omega (arith, ok.serviced, entries_by_most s p.book p.serviced);
        value = next_value;
        kept = book_by_length s p.book p.serviced p.draw ∙ ok.kept;
      }

  turned_facts : Facts r room (suc k) (turned r p)
  turned_facts =
      turned_by (Facts r room (suc k)) r p (λ h a s. sent_facts (is_due r p h).0 a s)
      (λ h a. drew_facts a.state a.answer)

pub facts : (r : Run) (room : List ℕ) (k : ℕ) → Facts r room k (progress r room k)
unfolding progress upto
facts r room zero =
    record {
      turns = refl;
      sends = omega arith;
      accepted = omega arith;
      pairs = omega arith;
      serviced = omega arith;
      value = sym (value_none r.seed);
      kept = refl;
    }
facts r room (suc k) = turned_facts r room k (progress r room k) (facts r room k)

-- ---- the pairs, for a loop's arithmetic

module _ (r : Run) (room : List ℕ) (k : ℕ) where
  pub pairs_count : (progress r room k).pairs ≤ set_bits * r.count
  pairs_count =
      let p = progress r room k in omega (arith, (facts r room k).sends, (facts r room k).pairs, sizes_most r.sends p.next)

  -- at most 255 * 64
  pub pairs_most : stored_refusal r ≡ 0 → (progress r room k).pairs ≤ sends_most * set_bits
  pairs_most ok = omega (arith, pairs_count, (stored_sends r ok).0)

-- the same of the variables of a loop
pub facts_of : (r : Run) (room : List ℕ) (k : ℕ) (p : Progress) → p ≡ progress r room k → Facts r room k p
facts_of r room k p e = rw e (facts r room k)

pub pairs_of : (r : Run) (room : List ℕ) (k : ℕ) (p : Progress) → p ≡ progress r room k → stored_refusal r ≡ 0
    → p.pairs ≤ sends_most * set_bits
pairs_of r room k p e ok = rw e (pairs_most r room k ok)

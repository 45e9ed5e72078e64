-- Document 02, L5, "The run played is the same before and after, book included": a file and the file that it is moved to,
-- over or back, are played alike with every room, and ask for the same room. Assumes nothing but that bytes are below 256.
use Prim.Native.Nat.{ℕ}
use mathlib.Core.Path.{◌≡◌, refl, ap, ◌∙◌}
use mathlib.Core.Bool.{true, ◌||◌}
use mathlib.Core.List.{List}
use lib.Dec.{eqb}
use lib.ListN.{length}
use Rattle.types.specs.declared.Run.{Run}
use Rattle.model.specs.Runs.{book_room, under, played_run}
use Rattle.theorems.proofs.Versions.{under_played}
use Rattle.format.specs.Format.{Bytes, run_of}
use Rattle.format.specs.Moves.{file_under, over_refusal, back_refusal}
use Rattle.archive.proofs.RoundTripRuns.{read_stored}
use Rattle.archive.proofs.Moved.{Moves, move_passes, moved_stored, moved_valid, moved_run}
use Rattle.machine.specs.Play.{play_refusal, play_answer, play_book}

-- the two files are played alike
pub record PlayedAlike (b m : List ℕ) : Type 0 where
  -- the bytes that 14 asks of the book's room
  pub room : book_room (run_of m) ≡ book_room (run_of b)
  -- the refusal and all four counts, with every room
  pub answer : (lent : ℕ) → play_answer m lent ≡ play_answer b lent
  -- every byte of the lent book
  pub book : (lent : List ℕ) → play_book m lent ≡ play_book b lent

module _ (from to : ℕ) (known : (eqb to 1 || eqb to 2) ≡ true) (b : List ℕ) (w : Bytes b) (m : Moves from to b) where
  same_room : book_room (run_of (file_under to b)) ≡ book_room (run_of b)
  unfolding under
  same_room = ap (λ (r : Run). book_room r) (moved_run from to known b w m)

  same_refusal : (lent : ℕ) → play_refusal (file_under to b) lent ≡ play_refusal b lent
  unfolding play_refusal
  same_refusal lent = rw (moved_valid from to known b w m, m.valid, same_room) refl

  same_played : played_run (run_of (file_under to b)) ≡ played_run (run_of b)
  same_played =
      ap played_run (moved_run from to known b w m)
      ∙ under_played to (run_of b) (read_stored b w m.valid) (moved_stored from to known b w m)

  same_answer : (lent : ℕ) → play_answer (file_under to b) lent ≡ play_answer b lent
  unfolding play_answer
  same_answer lent = rw (same_refusal lent, same_played) refl

  same_book : (lent : List ℕ) → play_book (file_under to b) lent ≡ play_book b lent
  unfolding play_book
  same_book lent = rw (same_refusal (length lent), same_played) refl

  alike : PlayedAlike b (file_under to b)
  alike = record { room = same_room; answer = same_answer; book = same_book }

-- ---- the theorems

pub over_played : (b : List ℕ) → Bytes b → (room : ℕ) → over_refusal b room ≡ 0 → PlayedAlike b (file_under 2 b)
over_played b w room h = alike 1 2 refl b w (move_passes 1 2 b room h).0

pub back_played : (b : List ℕ) → Bytes b → (room : ℕ) → back_refusal b room ≡ 0 → PlayedAlike b (file_under 1 b)
back_played b w room h = alike 2 1 refl b w (move_passes 2 1 b room h).0

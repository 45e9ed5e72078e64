-- Document 01, "Draws and the stored run": what the player answers to any bytes, with any room lent for the book.
-- Assumes nothing.
use Rattle.std.specs.Prelude.{ℕ, ◌*◌, ◌≤◌, ◌≡◌, List, cond, eqb, ltb, length, get_or, Result, Ok, Err}
use Rattle.base.specs.Sizes.{sends_most}
use Rattle.base.specs.Answers.{or_next, at_front}
use Rattle.base.specs.Sums.{upto}
use Rattle.sets.specs.Sets.{size}
use Rattle.types.specs.declared.Counts.{Counts}
use Rattle.types.specs.declared.Network.{Network}
use Rattle.types.specs.declared.Run.{Run}
use Rattle.types.specs.declared.StoredSend.{StoredSend}
use Rattle.model.specs.Types.{send_d}
use Rattle.model.specs.Runs.{stored_refusal, book_bytes, book_room, played_run, counts_of}
use Rattle.format.specs.Format.{run_of}
use Rattle.format.specs.Refusals.{Decoded}
use Rattle.format.specs.Refusals.{read_refusal, decode}
use Rattle.base.specs.declared.refusal.Refusal.{Refusal}
use Rattle.base.specs.Refusals.{number, number_of}
use Rattle.machine.specs.declared.player.PlayAnswer.{PlayAnswer}
use Rattle.machine.specs.declared.player.Started.{Started}

-- "player 1 to 8, then 14": the reader's, then "14 .. for the book below 4 times the summed sizes of the stored sends'
-- sets"; 0 for bytes b that are played with so much room
unfoldable pub play_refusal : List ℕ → ℕ → ℕ
play_refusal b room = or_next (read_refusal b) (cond (ltb room (book_room (run_of b))) 14 0)

-- "A refusal's other numbers are zero."
abbrev pub no_counts : Counts
no_counts = record { accepted = 0; pairs = 0; serviced = 0; owed = 0 }

abbrev pub refused_by : ℕ → PlayAnswer
refused_by k = record { refusal = k; counts = no_counts }

-- "The player's answer also holds the packets accepted, their summed set sizes (pairs), the services and the owed pairs
-- counted over the final state."
unfoldable pub play_answer : List ℕ → ℕ → PlayAnswer
play_answer b room =
    cond (eqb (play_refusal b room) 0) (record { refusal = 0; counts = counts_of (played_run (run_of b)) })
    (refused_by (play_refusal b room))

-- an answer of the code in these words
abbrev pub told_play : Result Counts Refusal → PlayAnswer
told_play (Ok c) = record { refusal = 0; counts = c }
told_play (Err e) = refused_by (number e)

-- the book of run r in the lent bytes
abbrev pub book_in : Run → List ℕ → List ℕ
book_in r room = at_front (book_bytes (played_run r).book) room

unfoldable pub play_book : List ℕ → List ℕ → List ℕ
play_book b room = cond (eqb (play_refusal b (length room)) 0) (book_in (run_of b) room) room

-- ---- what the functions of the player ask and compute on the way

-- a run by its parts
abbrev pub run_with : Network → List StoredSend → ℕ → ℕ → ℕ → Run
run_with n sends count seed draws =
    record { network = n; seed = seed; draws = draws; count = count; sends = sends }

-- the bytes that a book of the first count sends may take
abbrev pub room_of : List StoredSend → ℕ → ℕ
room_of sends count = 4 * upto count (λ k. size (get_or sends k send_d).set)

-- the same for any count: there are no more than 255 places
unfoldable pub book_space : List StoredSend → ℕ → ℕ
book_space sends count = room_of sends (cond (ltb count sends_most) count sends_most)

-- a run that a player plays: valid, with as many places for sends as its type says, and lent bytes for its book
pub record Playable (r : Run) (room : ℕ) : Type 0 where
  pub valid : stored_refusal r ≡ 0
  pub held : length r.sends ≡ sends_most
  pub wide : book_room r ≤ room

-- what the code starts from in these words
abbrev pub told_start : Started → Decoded
told_start s = record { refusal = number_of s.refused; run = s.run }

-- what a player starts from, with so many bytes lent: its refusal, and the run that the reader hands over
unfoldable pub start_of : List ℕ → ℕ → Decoded
start_of b room = record { refusal = play_refusal b room; run = (decode b).run }

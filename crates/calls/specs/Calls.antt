-- The calls of the C library: the refusal that each answers, and each lent slice afterwards. Document 01 gives the
-- player's and the reader's part; the slice for the counts, and the copy, are this library's own. Assumes nothing.
use Rattle.std.specs.Prelude.{ℕ, cond, List, [], ◌∷◌, eqb, ltb, length}
use Rattle.base.specs.Answers.{or_next, at_front}
use Rattle.types.specs.declared.Counts.{Counts}
use Rattle.model.specs.Runs.{played_run, counts_of}
use Rattle.format.specs.Format.{run_of}
use Rattle.format.specs.Refusals.{read_refusal}
use Rattle.machine.specs.Play.{play_refusal, book_in}

-- the places of a slice that the counts of a run take
abbrev pub count_places : ℕ
count_places = 4

-- ---- fennqualo_play: bytes b, a book of so many bytes, a slice of so many places for the counts

-- "player 1 to 8, then 14"; after these 14 for too few places
unfoldable pub call_refusal : List ℕ → ℕ → ℕ → ℕ
call_refusal b room places = or_next (play_refusal b room) (cond (ltb places count_places) 14 0)

unfoldable pub book_after : List ℕ → List ℕ → ℕ → List ℕ
book_after b book places = cond (eqb (call_refusal b (length book) places) 0) (book_in (run_of b) book) book

-- "the packets accepted, their summed set sizes (pairs), the services and the owed pairs"
abbrev pub four_counts : Counts → List ℕ
four_counts c = c.accepted ∷ c.pairs ∷ c.serviced ∷ c.owed ∷ []

unfoldable pub counts_after : List ℕ → ℕ → List ℕ → List ℕ
counts_after b room counts =
    cond (eqb (call_refusal b room (length counts)) 0)
    (at_front (four_counts (counts_of (played_run (run_of b)))) counts)
    counts

-- ---- fennqualo_copy: bytes b read and written into so much room

-- the reader's refusals, then "14 .. if the room is below the archive's length"
unfoldable pub copy_refusal : List ℕ → ℕ → ℕ
copy_refusal b room = or_next (read_refusal b) (cond (ltb room (length b)) 14 0)

unfoldable pub copy_after : List ℕ → List ℕ → List ℕ
copy_after b out = cond (eqb (copy_refusal b (length out)) 0) (at_front b out) out

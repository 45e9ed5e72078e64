-- Document 02, L5, archives moved over to the other version and back: what a move answers, and the lent room after it. It
-- is said over the run that both files stand for: the moved file is the encoding of the same run under the other version.
-- Assumes nothing.
use Rattle.std.specs.Prelude.{Bool, true, cond, ◌&&◌, List, ℕ, eqb, ltb, leb, length}
use Rattle.base.specs.Sizes.{first_sites}
use Rattle.base.specs.Answers.{or_next, at_front}
use Rattle.types.specs.declared.Run.{Run}
use Rattle.model.specs.Runs.{under}
use Rattle.format.specs.Format.{in_version, length_of, encode, version_of, run_of}
use Rattle.format.specs.Refusals.{Written, length_ok, read_refusal}

-- the run of bytes b under version v, and its file
abbrev pub run_under : ℕ → List ℕ → Run
run_under v b = under v (run_of b)

unfoldable pub file_under : ℕ → List ℕ → List ℕ
file_under v b = encode (run_under v b)

-- the refusals of bytes that are to be a file of version v: 1; "2 for a file of the other version"; then the reader's 17,
-- 3 to 8
abbrev pub file_refusal : ℕ → List ℕ → ℕ
file_refusal v b = cond (length_ok b) (cond (eqb (version_of b) v) (read_refusal b) 2) 1

-- "A valid file, given room, moves back exactly if it has at most 16 sites and edition 1": whether a run goes into version
-- v, and into version 2 it always does
abbrev pub goes_into : ℕ → Run → Bool
goes_into v r = in_version v (leb r.network.sites first_sites && eqb r.network.edition 1) true

-- from a version to another: behind them "15 .. for a file that can't go back"
abbrev pub go_refusal : ℕ → ℕ → List ℕ → ℕ
go_refusal from to b = or_next (file_refusal from b) (cond (goes_into to (run_of b)) 0 15)

-- into so much room: 15 is "between 8 and 14", and 14 given exactly if the room is below the moved file's length
unfoldable pub move_refusal : ℕ → ℕ → List ℕ → ℕ → ℕ
move_refusal from to b room = or_next (go_refusal from to b) (cond (ltb room (length_of (run_under to b))) 14 0)

-- the refusal and the length; "A refusal's other numbers are zero."
unfoldable pub move_answer : ℕ → ℕ → List ℕ → ℕ → Written
move_answer from to b room =
    cond (eqb (move_refusal from to b room) 0) (record { refusal = 0; length = length_of (run_under to b) })
    (record { refusal = move_refusal from to b room; length = 0 })

-- "Success writes its bytes at the front; the rest stays."
unfoldable pub moved : ℕ → ℕ → List ℕ → List ℕ → List ℕ
moved from to b out = cond (eqb (move_refusal from to b (length out)) 0) (at_front (file_under to b) out) out

-- over: version 1 in, version 2 out; back: the other way
abbrev pub over_refusal : List ℕ → ℕ → ℕ
over_refusal = move_refusal 1 2

abbrev pub back_refusal : List ℕ → ℕ → ℕ
back_refusal = move_refusal 2 1

-- What reader and writer answer (document 01, "Numbers given back when something is turned down", and L4's 2 and 17): the
-- refusal, and what stands beside it. The network's and the run's own tests are the model's.
use Rattle.std.specs.Prelude.{Bool, cond, ◌&&◌, List, ℕ, eqb, ltb, leb, length, Result, Ok, Err}
use Rattle.types.specs.declared.Run.{Run}
use Rattle.base.specs.Answers.{or_next, at_front}
use Rattle.model.specs.Network.{kind_then, sizes_ok}
use Rattle.model.specs.Runs.{body_refusal, stored_refusal}
use Rattle.base.specs.declared.refusal.Refusal.{Refusal}
use Rattle.base.specs.Refusals.{number}
use Rattle.format.specs.Format.{word, length_place, length_of, encode, network_of, run_of, no_run}

-- ---- the reader, "1 to 8", with 17 behind 2

-- "1: fewer than 13 bytes, or length field unequal to the slice's length", in both versions
abbrev pub least_length : ℕ
least_length = 13

abbrev pub length_ok : List ℕ → Bool
length_ok b = leb least_length (length b) && eqb (word b length_place) (length b)

-- "5: length not 13 + 4S + 2S² + 5N", in version 2 not 14 + 8S + 2S² + 11N: "13 bytes of version 2 get 5", as N, read as 0
-- there, makes at least 24
abbrev pub size_ok : List ℕ → Bool
size_ok b = eqb (length b) (length_of (run_of b))

-- "3: S, T or D outside its limits"; "4: seed 0"; 5; or what follows them
abbrev pub fields_then : List ℕ → ℕ → ℕ
fields_then b rest = cond (sizes_ok (network_of b)) (cond (eqb (run_of b).seed 0) 4 (cond (size_ok b) rest 5)) 3

-- 1; 2, 17; 3 to 5; or what follows them
unfoldable pub head_then : List ℕ → ℕ → ℕ
head_then b rest = cond (length_ok b) (kind_then (network_of b) (fields_then b rest)) 1

-- then 6, 7, 8; 0 for an archive
unfoldable pub read_refusal : List ℕ → ℕ
read_refusal b = head_then b (body_refusal (run_of b))

-- the run, or the refusal and the all-zero run
pub record Decoded : Type 0 where
  pub refusal : ℕ
  pub run : Run

-- an answer of the code in these words
abbrev pub told_run : Result Run Refusal → Decoded
told_run (Ok r) = record { refusal = 0; run = r }
told_run (Err e) = record { refusal = number e; run = no_run }

unfoldable pub decode : List ℕ → Decoded
decode b =
    cond (eqb (read_refusal b) 0) (record { refusal = 0; run = run_of b })
    (record { refusal = read_refusal b; run = no_run })

-- ---- the writer, "3, 4, 5, 6, 7, 8, 14", 2 and 17 before them, into a room of so many bytes

-- "14 is given exactly if the room is below the archive's length"
unfoldable pub write_refusal : Run → ℕ → ℕ
write_refusal r room = or_next (stored_refusal r) (cond (ltb room (length_of r)) 14 0)

-- the bytes written, or the refusal and 0: "A refusal's other numbers are zero."
pub record Written : Type 0 where
  pub refusal : ℕ
  pub length : ℕ

-- an answer of the code in these words
abbrev pub told_length : Result ℕ Refusal → Written
told_length (Ok n) = record { refusal = 0; length = n }
told_length (Err e) = record { refusal = number e; length = 0 }

unfoldable pub write_answer : Run → ℕ → Written
write_answer r room =
    cond (eqb (write_refusal r room) 0) (record { refusal = 0; length = length_of r })
    (record { refusal = write_refusal r room; length = 0 })

-- "Success writes its bytes at the front; the rest stays."
unfoldable pub written : Run → List ℕ → List ℕ
written r out = cond (eqb (write_refusal r (length out)) 0) (at_front (encode r) out) out

-- Computed examples of the calls on run R of document 01, whose book may take 4 bytes. Assumes nothing.
use mathlib.Core.Path.{◌≡◌, refl}
use mathlib.Core.List.{List, [], ◌∷◌}
use Prim.Native.Nat.{ℕ}
use lib.ListN.{take}
use Rattle.base.specs.All.{all}
use Rattle.base.specs.Over.{over}
use Rattle.base.specs.Sums.{sum}
use Rattle.sets.specs.Sets.{has, size_in}
use Rattle.format.specs.Format.{network_of, run_of}
use Rattle.format.specs.Refusals.{head_then, read_refusal}
use Rattle.model.specs.Runs.{body_refusal}
use Rattle.machine.specs.Play.{play_refusal}
use Rattle.calls.specs.Calls.{call_refusal, book_after, four_counts, counts_after, copy_refusal, copy_after}

abbrev run_r : List ℕ
run_r =
    0 ∷ 24 ∷ 1 ∷ 1 ∷ 3 ∷ 1 ∷ 0 ∷ 0 ∷ 0 ∷ 1 ∷ 0 ∷ 2 ∷ 1 ∷ 255 ∷ 255 ∷ 255 ∷ 255 ∷ 0 ∷ 0 ∷ 0 ∷ 0 ∷ 0 ∷ 0 ∷ 1 ∷ []

abbrev short : List ℕ
short = take 23 run_r

abbrev four : List ℕ
four = 7 ∷ 7 ∷ 7 ∷ 7 ∷ []

-- the reader's refusal comes before 14; 14 for a book of 3 bytes, for 3 places and for both
pub play_refusals : ◌≡◌ {A = List ℕ}
    (call_refusal short 0 0 ∷ call_refusal run_r 3 4 ∷ call_refusal run_r 4 3 ∷ call_refusal run_r 3 3
    ∷ call_refusal run_r 4 4 ∷ [])
    (1 ∷ 14 ∷ 14 ∷ 14 ∷ 0 ∷ [])
unfolding call_refusal play_refusal read_refusal head_then body_refusal run_of network_of all over sum size_in has
play_refusals = refl

-- accepted, pairs, services, owed, in this order
pub counts_order : four_counts (record { accepted = 5; pairs = 6; serviced = 7; owed = 8 }) ≡ 5 ∷ 6 ∷ 7 ∷ 8 ∷ []
counts_order = refl

-- a book too short leaves the counts, counts too short leave the book
pub counts_kept : counts_after run_r 3 four ≡ four
unfolding counts_after call_refusal play_refusal read_refusal head_then body_refusal run_of network_of all over sum size_in has
counts_kept = refl

pub book_kept : book_after run_r four 3 ≡ four
unfolding book_after call_refusal play_refusal read_refusal head_then body_refusal run_of network_of all over sum size_in has
book_kept = refl

-- a copy one byte short is 14 and leaves the room
pub copy_refusals : ◌≡◌ {A = List ℕ} (copy_refusal short 24 ∷ copy_refusal run_r 23 ∷ copy_refusal run_r 24 ∷ [])
    (1 ∷ 14 ∷ 0 ∷ [])
unfolding copy_refusal read_refusal head_then body_refusal run_of network_of all over
copy_refusals = refl

pub room_kept : copy_after run_r short ≡ short
unfolding copy_after copy_refusal read_refusal head_then body_refusal run_of network_of all over
room_kept = refl

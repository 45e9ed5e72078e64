-- Computed examples of the moves (document 02, L5; L6 for edition 2), typed by hand: run R and two sites over and back;
-- every refusal of both, and their order; which runs go into a version. Assumes nothing.
use mathlib.Core.Path.{◌≡◌, refl}
use mathlib.Core.Bool.{Bool, true, false}
use mathlib.Core.List.{List, [], ◌∷◌, ◌++◌, map}
use Prim.Native.Nat.{ℕ}
use lib.ListN.{set, take, replicate}
use Rattle.base.specs.Over.{over}
use Rattle.base.specs.All.{all}
use Rattle.base.specs.Answers.{at_front}
use Rattle.model.specs.Network.{network_under}
use Rattle.model.specs.Runs.{body_refusal, under}
use Rattle.model.proofs.Made.{net_in, run_on}
use Rattle.format.specs.Format.{each, head_bytes, channel_bytes, route_bytes, sends_bytes, encode, network_of, run_of}
use Rattle.format.specs.Refusals.{read_refusal, head_then}
use Rattle.format.specs.Moves.{file_under, file_refusal, goes_into, move_refusal, move_answer, moved}
use Rattle.format.specs.Moves.{over_refusal, back_refusal}
use Rattle.format.proofs.Examples.{bytes_r, bytes_two}
use Rattle.format.proofs.WideExamples.{wide_r, wide_two}

-- ---- the moved files, both ways: length, version, edition, channels (255 becomes 65535) and sets

pub files : map (file_under 2) (bytes_r ∷ bytes_two ∷ []) ++ map (file_under 1) (wide_r ∷ wide_two ∷ [])
    ≡ wide_r ∷ wide_two ∷ bytes_r ∷ bytes_two ∷ []
unfolding file_under encode each head_bytes channel_bytes route_bytes sends_bytes under network_under run_of network_of over
files = refl

-- rooms of nines, with two bytes more than the moved file: "writes at the front, the rest stays"; with one byte less: 14, and
-- nothing is written
pub over_rooms : moved 1 2 bytes_r (replicate 37 9) ∷ moved 1 2 bytes_r (replicate 34 9) ∷ []
    ≡ (wide_r ++ 9 ∷ 9 ∷ []) ∷ replicate 34 9 ∷ []
unfolding moved move_refusal file_under encode each head_bytes channel_bytes route_bytes sends_bytes under network_under at_front
    read_refusal head_then body_refusal run_of network_of over all
over_rooms = refl

pub answers : move_answer 1 2 bytes_two 60 ∷ move_answer 1 2 bytes_two 59 ∷ move_answer 2 1 wide_two 39 ∷ move_answer 2 1 bytes_two 39 ∷ []
    ≡ record { refusal = 0; length = 60 } ∷ record { refusal = 14; length = 0 } ∷ record { refusal = 0; length = 39 }
    ∷ record { refusal = 2; length = 0 } ∷ []
unfolding move_answer move_refusal under network_under read_refusal head_then body_refusal run_of network_of over all
answers = refl

-- ---- over: "1, 2 (version not 1), 3 to 8, 14"

-- run R with one byte, and with two bytes, changed, handed over with no room at all
abbrev over_one : ℕ → ℕ → ℕ
over_one i x = over_refusal (set bytes_r i x) 0

abbrev over_two : ℕ → ℕ → ℕ → ℕ → ℕ
over_two i x j y = over_refusal (set (set bytes_r i x) j y) 0

-- the room: 35 bytes are enough, 34 and 24 are not
pub over_14 : map (over_refusal bytes_r) (35 ∷ 36 ∷ 34 ∷ 24 ∷ 0 ∷ []) ≡ 0 ∷ 0 ∷ 14 ∷ 14 ∷ 14 ∷ []
unfolding move_refusal under network_under read_refusal head_then body_refusal run_of network_of over all
over_14 = refl

-- a wrong length field, 1, before version 2; versions 2, 0 and 3, 2, before S 0; a file of version 2, with whatever else is wrong
-- in it (edition 9, S 0, channel 4), is 2
pub over_2 : over_one 1 25 ∷ over_two 1 25 2 2 ∷ over_one 2 2 ∷ over_one 2 0 ∷ over_one 2 3 ∷ over_two 2 2 3 0
    ∷ map (λ (b : List ℕ). over_refusal b 99) (wide_r ∷ set wide_r 3 9 ∷ set wide_r 4 0 ∷ set (set wide_r 14 0) 15 4 ∷ take 34 wide_r ∷ [])
    ≡ 1 ∷ 1 ∷ 2 ∷ 2 ∷ 2 ∷ 2 ∷ 2 ∷ 2 ∷ 2 ∷ 2 ∷ 1 ∷ []
unfolding move_refusal under network_under read_refusal head_then body_refusal run_of network_of over all
over_2 = refl

-- S 0 and 17, 3, before seed 0; seed 0, 4, before N 0; N 0, 5, before channel 4; channel 4, 6, before route 1000; that, 7, before
-- the empty set; that, 8, before 14
pub over_3_8 : over_one 3 0 ∷ over_one 3 17 ∷ over_two 3 0 9 0 ∷ over_one 9 0 ∷ over_two 9 0 12 0 ∷ over_one 12 0 ∷ over_two 12 0 13 4
    ∷ over_one 13 4 ∷ over_two 13 4 17 16 ∷ over_one 17 16 ∷ over_two 17 16 23 0 ∷ over_one 23 0 ∷ []
    ≡ 3 ∷ 3 ∷ 3 ∷ 4 ∷ 4 ∷ 5 ∷ 5 ∷ 6 ∷ 6 ∷ 7 ∷ 7 ∷ 8 ∷ []
unfolding move_refusal under network_under read_refusal head_then body_refusal run_of network_of over all
over_3_8 = refl

-- ---- back: "1, 2 (version not 2), 17, 3 to 8, 15, 14"

abbrev back_one : ℕ → ℕ → ℕ
back_one i x = back_refusal (set wide_r i x) 0

abbrev back_two : ℕ → ℕ → ℕ → ℕ → ℕ
back_two i x j y = back_refusal (set (set wide_r i x) j y) 0

pub back_14 : map (back_refusal wide_r) (24 ∷ 25 ∷ 23 ∷ 0 ∷ []) ≡ 0 ∷ 0 ∷ 14 ∷ 14 ∷ []
unfolding move_refusal under network_under read_refusal head_then body_refusal run_of network_of over all
back_14 = refl

-- "a version 1 file .. is 2 whatever else is wrong behind it": run R, and with S 0, S 17, seed 0, N 0, channel 4, the empty set;
-- cut short it is 1
pub back_2 : back_one 1 36 ∷ back_two 1 36 2 1 ∷ back_one 2 1 ∷ back_one 2 0 ∷ back_one 2 3 ∷ back_two 2 3 3 0
    ∷ map (λ (b : List ℕ). back_refusal b 99)
    (bytes_r ∷ set bytes_r 3 0 ∷ set bytes_r 3 17 ∷ set bytes_r 9 0 ∷ set bytes_r 12 0 ∷ set bytes_r 13 4 ∷ set bytes_r 23 0 ∷ take 23 bytes_r ∷ [])
    ≡ 1 ∷ 1 ∷ 2 ∷ 2 ∷ 2 ∷ 2 ∷ 2 ∷ 2 ∷ 2 ∷ 2 ∷ 2 ∷ 2 ∷ 2 ∷ 1 ∷ []
unfolding move_refusal under network_under read_refusal head_then body_refusal run_of network_of over all
back_2 = refl

-- editions 0, 4 and 255, 17, before S 0; then as over
pub back_17_8 : back_one 3 0 ∷ back_one 3 4 ∷ back_one 3 255 ∷ back_two 3 4 4 0 ∷ back_one 4 0 ∷ back_two 4 0 10 0 ∷ back_one 10 0
    ∷ back_two 10 0 13 0 ∷ back_one 13 0 ∷ back_two 13 0 15 4 ∷ back_two 14 0 15 4 ∷ back_one 14 0 ∷ back_two 14 0 22 16
    ∷ back_one 22 16 ∷ back_two 22 16 34 0 ∷ back_one 34 0 ∷ []
    ≡ 17 ∷ 17 ∷ 17 ∷ 17 ∷ 3 ∷ 3 ∷ 4 ∷ 4 ∷ 5 ∷ 5 ∷ 6 ∷ 6 ∷ 6 ∷ 7 ∷ 7 ∷ 8 ∷ []
unfolding move_refusal under network_under read_refusal head_then body_refusal run_of network_of over all
back_17_8 = refl

-- ---- "15 .. for a file that can't go back"

-- whether a run with so many sites, of this edition, goes into version v
abbrev goes : ℕ → ℕ → ℕ → Bool
goes v S edition = goes_into v (run_on (net_in 2 edition 0 0 S 3 1 [] []) 1 2 [])

-- into version 1 with 1 and 16 sites and edition 1; not with 17 or 64 sites, nor with the editions 0, 2 and 3; into version 2 always
pub goes_back : goes 1 1 1 ∷ goes 1 16 1 ∷ goes 1 17 1 ∷ goes 1 64 1 ∷ goes 1 16 0 ∷ goes 1 16 2 ∷ goes 1 17 2 ∷ goes 1 1 3 ∷ []
    ≡ true ∷ true ∷ false ∷ false ∷ false ∷ false ∷ false ∷ false ∷ []
goes_back = refl

pub goes_over : goes 2 1 1 ∷ goes 2 17 1 ∷ goes 2 64 1 ∷ goes 2 16 2 ∷ goes 2 16 3 ∷ [] ≡ true ∷ true ∷ true ∷ true ∷ true ∷ []
goes_over = refl

-- run R in editions 2 and 3 is 15, in no room and in enough; S 0 and the empty set come before it
pub back_2_15 : back_one 3 2 ∷ back_refusal (set wide_r 3 2) 99 ∷ back_two 3 2 4 0 ∷ back_two 3 2 34 0
    ∷ back_one 3 3 ∷ back_refusal (set wide_r 3 3) 99 ∷ back_two 3 3 4 0 ∷ back_two 3 3 34 0 ∷ []
    ≡ 15 ∷ 15 ∷ 3 ∷ 8 ∷ 15 ∷ 15 ∷ 3 ∷ 8 ∷ []
unfolding move_refusal under network_under read_refusal head_then body_refusal run_of network_of over all
back_2_15 = refl

-- a file that passes the reader's tests and does not go is 15, whatever the room: 15 before 14
pub back_15 : (b : List ℕ) (room : ℕ) → file_refusal 2 b ≡ 0 → goes_into 1 (run_of b) ≡ false → back_refusal b room ≡ 15
unfolding move_refusal
back_15 b room e g = rw (e, g) refl

-- and one that the reader turns down is what it says, whether it goes or not: 8 before 15
pub back_8 : (b : List ℕ) (room : ℕ) → file_refusal 2 b ≡ 8 → back_refusal b room ≡ 8
unfolding move_refusal
back_8 b room e = rw e refl

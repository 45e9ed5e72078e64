-- Computed examples of the definitions in version 1: the document's run R both ways, its bounds, and an archive for each refusal that
-- it alone gives, with some where several hold and the lowest number is due. Assumes nothing.
use mathlib.Core.Path.{◌≡◌, refl}
use mathlib.Core.List.{List, [], ◌∷◌, ◌++◌, map}
use Prim.Native.Nat.{ℕ}
use lib.ListN.{set, take, replicate}
use Rattle.base.specs.Sizes.{no_channel}
use Rattle.base.specs.Over.{over}
use Rattle.base.specs.All.{all}
use Rattle.base.specs.Answers.{at_front}
use Rattle.types.specs.declared.Run.{Run}
use Rattle.model.specs.Runs.{stored_refusal}
use Rattle.format.specs.Format.{each, head_bytes, channel_bytes, route_bytes, sends_bytes, encode, network_of, run_of, no_run}
use Rattle.format.specs.Refusals.{read_refusal, head_then, decode, write_refusal, written}
use Rattle.model.specs.Runs.{body_refusal}
use Rattle.model.proofs.Made.{net_with, run_on}

-- ---- "Run R: 00 18 01 01 03 01 00 00 00 01 00 02 01 FF FF FF FF 00 00 00 00 00 00 01."

abbrev pub bytes_r : List ℕ
bytes_r =
    0 ∷ 24 ∷ 1 ∷ 1 ∷ 3 ∷ 1 ∷ 0 ∷ 0 ∷ 0 ∷ 1 ∷ 0 ∷ 2 ∷ 1 ∷ 255 ∷ 255 ∷ 255 ∷ 255 ∷ 0 ∷ 0 ∷ 0 ∷ 0 ∷ 0 ∷ 0 ∷ 1 ∷ []

abbrev pub run_r : Run
run_r =
    run_on (net_with 0 0 1 3 1 (no_channel ∷ no_channel ∷ no_channel ∷ no_channel ∷ []) []) 1 2
    (record { set = 1; draw = 0; site = 0 } ∷ [])

pub read_r : decode bytes_r ≡ record { refusal = 0; run = run_r }
unfolding decode read_refusal head_then body_refusal run_of network_of over all
read_r = refl

pub write_r : encode run_r ≡ bytes_r
unfolding encode each head_bytes channel_bytes route_bytes sends_bytes
write_r = refl

-- ---- the two sites of docs/FORMAT.md

abbrev pub bytes_two : List ℕ
bytes_two =
    0 ∷ 39 ∷ 1 ∷ 2 ∷ 8 ∷ 4 ∷ 0 ∷ 0 ∷ 0 ∷ 7 ∷ 3 ∷ 232 ∷ 2
    ∷ 4 ∷ 255 ∷ 255 ∷ 255 ∷ 0 ∷ 255 ∷ 255 ∷ 255
    ∷ 0 ∷ 0 ∷ 16 ∷ 0 ∷ 16 ∷ 0 ∷ 0 ∷ 0
    ∷ 0 ∷ 0 ∷ 0 ∷ 0 ∷ 3 ∷ 1 ∷ 244 ∷ 1 ∷ 0 ∷ 1 ∷ []

abbrev pub run_two : Run
run_two =
    run_on
    (net_with 0 0 2 8 4 (4 ∷ no_channel ∷ no_channel ∷ no_channel ∷ 0 ∷ no_channel ∷ no_channel ∷ no_channel ∷ [])
    (0 ∷ 4096 ∷ 4096 ∷ 0 ∷ []))
    7 1000
    (record { set = 3; draw = 0; site = 0 } ∷ record { set = 1; draw = 500; site = 1 } ∷ [])

pub read_two : decode bytes_two ≡ record { refusal = 0; run = run_two }
unfolding decode read_refusal head_then body_refusal run_of network_of over all
read_two = refl

pub write_two : encode run_two ≡ bytes_two
unfolding encode each head_bytes channel_bytes route_bytes sends_bytes
write_two = refl

-- ---- the reader's refusals

-- run R with one byte, and with two bytes, changed
abbrev one : ℕ → ℕ → List ℕ
one i v = set bytes_r i v

abbrev two : ℕ → ℕ → ℕ → ℕ → List ℕ
two i v j w = set (set bytes_r i v) j w

-- "24 bytes pass, 23 give 1"; no bytes; a byte too many
pub read_1 : map read_refusal (bytes_r ∷ take 23 bytes_r ∷ take 12 bytes_r ∷ [] ∷ (bytes_r ++ (0 ∷ [])) ∷ []) ≡ 0 ∷ 1 ∷ 1
    ∷ 1 ∷ 1 ∷ []
unfolding read_refusal head_then body_refusal run_of network_of over all
read_1 = refl

pub read_2 : map read_refusal (one 2 0 ∷ one 2 3 ∷ one 2 255 ∷ two 2 0 3 0 ∷ []) ≡ 2 ∷ 2 ∷ 2 ∷ 2 ∷ []
unfolding read_refusal head_then body_refusal run_of network_of over all
read_2 = refl

-- S 0 and 17, T 0, D 0 and 9 are refused; T 255 and D 8 are not; a bad size stands before seed 0
pub read_3 : map read_refusal (one 3 0 ∷ one 3 17 ∷ one 4 0 ∷ one 5 0 ∷ one 5 9 ∷ two 3 0 9 0 ∷ one 4 255 ∷ one 5 8 ∷ [])
    ≡ 3 ∷ 3 ∷ 3 ∷ 3 ∷ 3 ∷ 3 ∷ 0 ∷ 0 ∷ []
unfolding read_refusal head_then body_refusal run_of network_of over all
read_3 = refl

-- "P9 seed 0 is 4"; it stands before a bad length
pub read_4 : map read_refusal (one 9 0 ∷ two 9 0 12 0 ∷ []) ≡ 4 ∷ 4 ∷ []
unfolding read_refusal head_then body_refusal run_of network_of over all
read_4 = refl

-- N 0 and 2, S 2, and S 16, which is within its limits; a bad length stands before a bad channel
pub read_5 : map read_refusal (one 12 0 ∷ one 12 2 ∷ one 3 2 ∷ one 3 16 ∷ two 12 0 13 4 ∷ []) ≡ 5 ∷ 5 ∷ 5 ∷ 5 ∷ 5 ∷ []
unfolding read_refusal head_then body_refusal run_of network_of over all
read_5 = refl

-- channel bytes 4S and 254, an input fed twice, by the first two and by the last two; one channel is not refused; a
-- bad channel stands before a bad route
pub read_6 : map read_refusal (one 13 4 ∷ one 16 254 ∷ two 13 0 14 0 ∷ two 15 3 16 3 ∷ two 13 4 17 1 ∷ one 16 3 ∷ [])
    ≡ 6 ∷ 6 ∷ 6 ∷ 6 ∷ 6 ∷ 0 ∷ []
unfolding read_refusal head_then body_refusal run_of network_of over all
read_6 = refl

-- a route from a site to itself, also where the port has a channel; a bad route stands before a bad send
pub read_7 : map read_refusal (one 17 16 ∷ two 13 0 17 16 ∷ two 18 1 23 0 ∷ []) ≡ 7 ∷ 7 ∷ 7 ∷ []
unfolding read_refusal head_then body_refusal run_of network_of over all
read_7 = refl

-- site 1, the empty set, a set with site 1 or with site 8, a draw number above the draws; the last draw number is not
-- refused
pub read_8 : map read_refusal (one 21 1 ∷ one 23 0 ∷ one 23 3 ∷ one 22 1 ∷ one 20 3 ∷ one 19 1 ∷ one 20 2 ∷ [])
    ≡ 8 ∷ 8 ∷ 8 ∷ 8 ∷ 8 ∷ 8 ∷ 0 ∷ []
unfolding read_refusal head_then body_refusal run_of network_of over all
read_8 = refl

-- ---- two sites joined on ports 1 both ways and by ports 2 to 4 from site 0, with the routes 0 to 1 and 1 to 0
-- given; two sends marked d and e in 3 draws

abbrev pair : ℕ → ℕ → ℕ → ℕ → ℕ → ℕ → List ℕ
pair hi lo back low d e =
    0 ∷ 39 ∷ 1 ∷ 2 ∷ 1 ∷ 1 ∷ 0 ∷ 0 ∷ 0 ∷ 7 ∷ 0 ∷ 3 ∷ 2
    ∷ 4 ∷ 5 ∷ 6 ∷ 7 ∷ 0 ∷ 255 ∷ 255 ∷ 255
    ∷ 0 ∷ 0 ∷ hi ∷ lo ∷ back ∷ low ∷ 0 ∷ 0
    ∷ 0 ∷ d ∷ 0 ∷ 0 ∷ 3 ∷ 0 ∷ e ∷ 1 ∷ 0 ∷ 1 ∷ []

-- lists of one and of four ports; draw numbers that stay and that rise
pub pair_ok : map read_refusal (pair 16 0 16 0 0 0 ∷ pair 67 33 16 0 1 3 ∷ pair 50 0 16 0 2 2 ∷ []) ≡ 0 ∷ 0 ∷ 0 ∷ []
unfolding read_refusal head_then body_refusal run_of network_of over all
pair_ok = refl

-- no list; zeros before a port (0100, 1010, 1001); a port twice (1100, 1010 above, 1231); port 5; a port without a
-- channel
pub pair_7 : map read_refusal
    (pair 0 0 16 0 0 0 ∷ pair 1 0 16 0 0 0 ∷ pair 16 16 16 0 0 0 ∷ pair 16 1 16 0 0 0 ∷ pair 17 0 16 0 0 0 ∷ pair 18
    49 16 0 0 0
    ∷ pair 80 0 16 0 0 0 ∷ pair 16 5 16 0 0 0 ∷ pair 16 0 32 0 0 0 ∷ pair 16 0 18 0 0 0 ∷ [])
    ≡ 7 ∷ 7 ∷ 7 ∷ 7 ∷ 7 ∷ 7 ∷ 7 ∷ 7 ∷ 7 ∷ 7 ∷ []
unfolding read_refusal head_then body_refusal run_of network_of over all
pair_7 = refl

-- draw numbers falling
pub pair_8 : map read_refusal (pair 16 0 16 0 1 0 ∷ pair 16 0 16 0 3 2 ∷ []) ≡ 8 ∷ 8 ∷ []
unfolding read_refusal head_then body_refusal run_of network_of over all
pair_8 = refl

-- ---- the writer

-- run R with another seed and count
abbrev counted : ℕ → ℕ → Run
counted x n = record { network = run_r.network; seed = x; draws = 2; count = n; sends = run_r.sends }

-- rooms of 24 and 25 bytes are enough, 23 and 0 give 14; seed 0 stands before 256 sends, these before the room, and
-- the largest count is turned down too; the all-zero run has version 0
pub write_refusals : (write_refusal run_r 24 ∷ write_refusal run_r 25 ∷ write_refusal run_r 23 ∷ write_refusal run_r 0 ∷ [])
    ++ (write_refusal (counted 0 256) 0 ∷ write_refusal (counted 1 256) 0 ∷ write_refusal
    (counted 1 18446744073709551615) 9999 ∷ write_refusal no_run 0 ∷ [])
    ≡ 0 ∷ 0 ∷ 14 ∷ 14 ∷ 4 ∷ 5 ∷ 5 ∷ 2 ∷ []
unfolding write_refusal stored_refusal body_refusal all
write_refusals = refl

-- a room of 26 nines: two of them stay
pub written_r : written run_r (replicate 26 9) ≡ bytes_r ++ (9 ∷ 9 ∷ [])
unfolding written at_front write_refusal stored_refusal body_refusal all encode each head_bytes channel_bytes route_bytes sends_bytes
written_r = refl

-- a room one byte short stays as it was
pub written_short : written run_r (replicate 23 9) ≡ replicate 23 9
unfolding written write_refusal stored_refusal body_refusal all
written_short = refl

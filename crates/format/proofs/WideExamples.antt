-- Computed examples of the definitions in version 2 (document 02, L4 and L6), typed by hand: run R and two sites stored in version 2,
-- both ways, run R also in editions 2 and 3; an archive for each refusal, and the order 1, 2, 17, 3, 4, 5. Assumes nothing.
use mathlib.Core.Path.{◌≡◌, refl}
use mathlib.Core.List.{List, [], ◌∷◌, ◌++◌, map}
use Prim.Native.Nat.{ℕ}
use lib.ListN.{set, take}
use Rattle.base.specs.Sizes.{no_channel}
use Rattle.base.specs.Over.{over}
use Rattle.base.specs.All.{all}
use Rattle.types.specs.declared.Run.{Run}
use Rattle.model.specs.Runs.{stored_refusal, body_refusal}
use Rattle.model.proofs.Made.{net_in, run_on}
use Rattle.format.specs.Format.{each, head_bytes, channel_bytes, route_bytes, sends_bytes, encode, set_in, set_part, length_with}
use Rattle.format.specs.Format.{network_of, run_of}
use Rattle.format.specs.Refusals.{read_refusal, head_then, decode, write_refusal}

-- ---- run R: "after the version byte an edition byte", two-byte channels, an eight-byte set; 14 + 8 + 2 + 11 bytes

abbrev pub wide_r : List ℕ
wide_r =
    0 ∷ 35 ∷ 2 ∷ 1 ∷ 1 ∷ 3 ∷ 1 ∷ 0 ∷ 0 ∷ 0 ∷ 1 ∷ 0 ∷ 2 ∷ 1
    ∷ 255 ∷ 255 ∷ 255 ∷ 255 ∷ 255 ∷ 255 ∷ 255 ∷ 255
    ∷ 0 ∷ 0
    ∷ 0 ∷ 0 ∷ 0 ∷ 0 ∷ 0 ∷ 0 ∷ 0 ∷ 0 ∷ 0 ∷ 0 ∷ 1 ∷ []

-- in a version and an edition
abbrev run_in : ℕ → ℕ → Run
run_in version edition =
    run_on (net_in version edition 0 0 1 3 1 (no_channel ∷ no_channel ∷ no_channel ∷ no_channel ∷ []) []) 1 2
    (record { set = 1; draw = 0; site = 0 } ∷ [])

pub read_r : decode wide_r ≡ record { refusal = 0; run = run_in 2 1 }
unfolding decode read_refusal head_then body_refusal run_of network_of over all
read_r = refl

pub write_r : encode (run_in 2 1) ≡ wide_r
unfolding encode each head_bytes channel_bytes route_bytes sends_bytes
write_r = refl

-- the same in editions 2 and 3
pub read_r_2 : decode (set wide_r 3 2) ≡ record { refusal = 0; run = run_in 2 2 }
unfolding decode read_refusal head_then body_refusal run_of network_of over all
read_r_2 = refl

pub write_r_2 : encode (run_in 2 2) ≡ set wide_r 3 2
unfolding encode each head_bytes channel_bytes route_bytes sends_bytes
write_r_2 = refl

pub read_r_3 : decode (set wide_r 3 3) ≡ record { refusal = 0; run = run_in 2 3 }
unfolding decode read_refusal head_then body_refusal run_of network_of over all
read_r_3 = refl

pub write_r_3 : encode (run_in 2 3) ≡ set wide_r 3 3
unfolding encode each head_bytes channel_bytes route_bytes sends_bytes
write_r_3 = refl

-- ---- the two sites of docs/FORMAT.md, 14 + 16 + 8 + 22 bytes

abbrev pub wide_two : List ℕ
wide_two =
    0 ∷ 60 ∷ 2 ∷ 1 ∷ 2 ∷ 8 ∷ 4 ∷ 0 ∷ 0 ∷ 0 ∷ 7 ∷ 3 ∷ 232 ∷ 2
    ∷ 0 ∷ 4 ∷ 255 ∷ 255 ∷ 255 ∷ 255 ∷ 255 ∷ 255 ∷ 0 ∷ 0 ∷ 255 ∷ 255 ∷ 255 ∷ 255 ∷ 255 ∷ 255
    ∷ 0 ∷ 0 ∷ 16 ∷ 0 ∷ 16 ∷ 0 ∷ 0 ∷ 0
    ∷ 0 ∷ 0 ∷ 0 ∷ 0 ∷ 0 ∷ 0 ∷ 0 ∷ 0 ∷ 0 ∷ 0 ∷ 3
    ∷ 1 ∷ 244 ∷ 1 ∷ 0 ∷ 0 ∷ 0 ∷ 0 ∷ 0 ∷ 0 ∷ 0 ∷ 1 ∷ []

abbrev pub run_two : Run
run_two =
    run_on
    (net_in 2 1 0 0 2 8 4 (4 ∷ no_channel ∷ no_channel ∷ no_channel ∷ 0 ∷ no_channel ∷ no_channel ∷ no_channel ∷ [])
    (0 ∷ 4096 ∷ 4096 ∷ 0 ∷ []))
    7 1000
    (record { set = 3; draw = 0; site = 0 } ∷ record { set = 1; draw = 500; site = 1 } ∷ [])

pub read_two : decode wide_two ≡ record { refusal = 0; run = run_two }
unfolding decode read_refusal head_then body_refusal run_of network_of over all
read_two = refl

pub write_two : encode run_two ≡ wide_two
unfolding encode each head_bytes channel_bytes route_bytes sends_bytes
write_two = refl

-- ---- "The length is 14 + 8S + 2S² + 11N", at most 11,523; version 1's "at most 1,864"

pub longest : length_with 2 64 255 ∷ length_with 1 16 255 ∷ [] ≡ 11523 ∷ 1864 ∷ []
longest = refl

-- a set with bit 63 is one of eight bytes, both ways
pub bit_63 : set_in 2 (128 ∷ 0 ∷ 0 ∷ 0 ∷ 0 ∷ 0 ∷ 0 ∷ 1 ∷ []) 0 ≡ 9223372036854775809
bit_63 = refl

pub bit_63_bytes : set_part 2 9223372036854775809 ≡ 128 ∷ 0 ∷ 0 ∷ 0 ∷ 0 ∷ 0 ∷ 0 ∷ 1 ∷ []
bit_63_bytes = refl

-- ---- the reader's refusals

-- run R with one byte, and with two bytes, changed
abbrev one : ℕ → ℕ → List ℕ
one i x = set wide_r i x

abbrev two : ℕ → ℕ → ℕ → ℕ → List ℕ
two i x j y = set (set wide_r i x) j y

-- its first n bytes, with the length field saying so
abbrev front : ℕ → List ℕ
front n = set (take n wide_r) 1 n

-- 12 bytes are 1 whatever they say; "13 bytes of version 2 get 5 if nothing earlier": they have no N; 14 bytes and 34 are 5
pub read_short : map read_refusal (take 34 wide_r ∷ front 12 ∷ front 13 ∷ front 14 ∷ front 34 ∷ []) ≡ 1 ∷ 1 ∷ 5 ∷ 5 ∷ 5 ∷ []
unfolding read_refusal head_then body_refusal run_of network_of over all
read_short = refl

-- 13 bytes of version 2: edition 0, T 0, D 9 and seed 0 are earlier; in version 1 N is there, and 13 bytes are 5 too
pub read_thirteen : map read_refusal
    (set (front 13) 3 0 ∷ set (front 13) 5 0 ∷ set (front 13) 6 9 ∷ set (front 13) 10 0 ∷ set (front 13) 2 1 ∷ [])
    ≡ 17 ∷ 3 ∷ 3 ∷ 4 ∷ 5 ∷ []
unfolding read_refusal head_then body_refusal run_of network_of over all
read_thirteen = refl

-- "2 means neither 1 nor 2"; it stands before edition 0
pub read_2 : map read_refusal (one 2 0 ∷ one 2 3 ∷ one 2 255 ∷ two 2 3 3 0 ∷ []) ≡ 2 ∷ 2 ∷ 2 ∷ 2 ∷ []
unfolding read_refusal head_then body_refusal run_of network_of over all
read_2 = refl

-- "17, an edition unknown": 0, 4 and 255; 1 is known, L6: "17 accepts edition 2", L10: "17 accepts edition 3"; 17 stands before S 0,
-- which is 3 in editions 2 and 3
pub read_17 : map read_refusal
    (one 3 0 ∷ one 3 1 ∷ one 3 2 ∷ one 3 3 ∷ one 3 4 ∷ one 3 255 ∷ two 3 0 4 0 ∷ two 3 4 4 0 ∷ two 3 2 4 0 ∷ two 3 3 4 0 ∷ [])
    ≡ 17 ∷ 0 ∷ 0 ∷ 0 ∷ 17 ∷ 17 ∷ 17 ∷ 17 ∷ 3 ∷ 3 ∷ []
unfolding read_refusal head_then body_refusal run_of network_of over all
read_17 = refl

-- "3 allows 64 sites in version 2": 0 and 65 are refused, 16, 17 and 64 are within the limits (and 5 here); T 0, D 0 and 9; S 0
-- stands before seed 0
pub read_3 : map read_refusal
    (one 4 0 ∷ one 4 65 ∷ one 4 255 ∷ one 5 0 ∷ one 6 0 ∷ one 6 9 ∷ two 4 0 10 0 ∷ one 4 16 ∷ one 4 17 ∷ one 4 64 ∷ one 5 255 ∷ one 6 8 ∷ [])
    ≡ 3 ∷ 3 ∷ 3 ∷ 3 ∷ 3 ∷ 3 ∷ 3 ∷ 5 ∷ 5 ∷ 5 ∷ 0 ∷ 0 ∷ []
unfolding read_refusal head_then body_refusal run_of network_of over all
read_3 = refl

-- seed 0, before a bad length; N 0 and 2, S 2, before a bad channel
pub read_4_5 : map read_refusal (one 10 0 ∷ two 10 0 13 0 ∷ one 13 0 ∷ one 13 2 ∷ one 4 2 ∷ two 13 0 15 4 ∷ [])
    ≡ 4 ∷ 4 ∷ 5 ∷ 5 ∷ 5 ∷ 5 ∷ []
unfolding read_refusal head_then body_refusal run_of network_of over all
read_4_5 = refl

-- channels 4, 255, 256, 65534 and 65280 of one site; 0 fed twice; 0 alone, and 65535
pub read_6 : map read_refusal
    (two 14 0 15 4 ∷ one 14 0 ∷ two 14 1 15 0 ∷ one 15 254 ∷ one 15 0 ∷ set (two 14 0 15 0) 16 0 ∷ set (set (two 14 0 15 0) 16 0) 17 0
    ∷ two 14 0 15 0 ∷ wide_r ∷ [])
    ≡ 6 ∷ 6 ∷ 6 ∷ 6 ∷ 6 ∷ 6 ∷ 6 ∷ 0 ∷ 0 ∷ []
unfolding read_refusal head_then body_refusal run_of network_of over all
read_6 = refl

-- a route from a site to itself, before a bad send
pub read_7 : map read_refusal (one 22 16 ∷ one 23 1 ∷ two 22 16 26 1 ∷ []) ≡ 7 ∷ 7 ∷ 7 ∷ []
unfolding read_refusal head_then body_refusal run_of network_of over all
read_7 = refl

-- site 1, the empty set, a set with site 1, with site 8 and with site 63, a draw number above the draws; the last one is not refused
pub read_8 : map read_refusal (one 26 1 ∷ one 34 0 ∷ one 34 3 ∷ one 33 1 ∷ one 27 128 ∷ one 25 3 ∷ one 25 2 ∷ [])
    ≡ 8 ∷ 8 ∷ 8 ∷ 8 ∷ 8 ∷ 8 ∷ 0 ∷ []
unfolding read_refusal head_then body_refusal run_of network_of over all
read_8 = refl

-- ---- the writer

-- rooms of 35 and 34 bytes; versions 0 and 3 before the edition; editions 0 and 4 in version 2, editions 2 and 3 in version 1;
-- editions 2 and 3 in version 2, in rooms of 35 and 34 bytes
pub write_refusals : (write_refusal (run_in 2 1) 35 ∷ write_refusal (run_in 2 1) 34 ∷ write_refusal (run_in 0 1) 0 ∷ [])
    ++ (write_refusal (run_in 3 2) 0 ∷ write_refusal (run_in 2 0) 0 ∷ write_refusal (run_in 2 4) 0 ∷ write_refusal (run_in 1 2) 0 ∷ [])
    ++ (write_refusal (run_in 1 3) 0 ∷ write_refusal (run_in 2 2) 35 ∷ write_refusal (run_in 2 2) 34 ∷ [])
    ++ (write_refusal (run_in 2 3) 35 ∷ write_refusal (run_in 2 3) 34 ∷ [])
    ≡ 0 ∷ 14 ∷ 2 ∷ 2 ∷ 17 ∷ 17 ∷ 17 ∷ 17 ∷ 0 ∷ 14 ∷ 0 ∷ 14 ∷ []
unfolding write_refusal stored_refusal body_refusal all
write_refusals = refl

-- a network of one site in memory with the channel b
abbrev joined_to : ℕ → ℕ → Run
joined_to version b = run_on (net_in version 1 0 0 1 3 1 (b ∷ no_channel ∷ no_channel ∷ no_channel ∷ []) []) 1 2 []

-- channel 255 in memory is none in no version, 65535 in both
pub write_255 : write_refusal (joined_to 1 255) 99 ∷ write_refusal (joined_to 2 255) 99 ∷ write_refusal (joined_to 1 no_channel) 99
    ∷ write_refusal (joined_to 2 no_channel) 99 ∷ []
    ≡ 6 ∷ 6 ∷ 0 ∷ 0 ∷ []
unfolding write_refusal stored_refusal body_refusal all
write_255 = refl

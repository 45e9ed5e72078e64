-- Computed examples, typed from docs/FORMAT.md: the archive of two sites with a byte or two changed, and a ring of three
-- sites; the refusal and the number of the first channel, route or send at fault. Assumes nothing.
use mathlib.Core.Path.{◌≡◌, refl}
use mathlib.Core.List.{List, [], ◌∷◌, map}
use Prim.Native.Nat.{ℕ}
use lib.ListN.{set, take}
use Rattle.base.specs.Over.{over}
use Rattle.base.specs.All.{all}
use Rattle.model.specs.Runs.{body_refusal}
use Rattle.format.specs.Format.{network_of, run_of}
use Rattle.format.specs.Refusals.{head_then, read_refusal}
use Rattle.format.specs.Faults.{Fault}
use Rattle.format.specs.First.{first}
use Rattle.format.specs.Faults.{item_count, item_ok, place_of, fault_of}

-- "Two sites and a multicast": the head, the channels from 13, the routes from 21, the sends from 29 and 34
abbrev two : List ℕ
two =
    0 ∷ 39 ∷ 1 ∷ 2 ∷ 8 ∷ 4 ∷ 0 ∷ 0 ∷ 0 ∷ 7 ∷ 3 ∷ 232 ∷ 2
    ∷ 4 ∷ 255 ∷ 255 ∷ 255 ∷ 0 ∷ 255 ∷ 255 ∷ 255
    ∷ 0 ∷ 0 ∷ 16 ∷ 0 ∷ 16 ∷ 0 ∷ 0 ∷ 0
    ∷ 0 ∷ 0 ∷ 0 ∷ 0 ∷ 3 ∷ 1 ∷ 244 ∷ 1 ∷ 0 ∷ 1 ∷ []

-- the same with one, and with two bytes changed
abbrev one : ℕ → ℕ → List ℕ
one i v = set two i v

abbrev both : ℕ → ℕ → ℕ → ℕ → List ℕ
both i v j w = set (set two i v) j w

abbrev fault : ℕ → ℕ → Fault
fault f k = record { refusal = f; place = k }

-- as it stands; no byte; the length, the version, S, the seed, N
pub heads : map fault_of (two ∷ [] ∷ take 38 two ∷ one 2 9 ∷ one 3 17 ∷ one 9 0 ∷ one 12 3 ∷ [])
    ≡ fault 0 0 ∷ fault 1 0 ∷ fault 1 0 ∷ fault 2 0 ∷ fault 3 0 ∷ fault 4 0 ∷ fault 5 0 ∷ []
unfolding fault_of place_of item_ok item_count first read_refusal head_then body_refusal run_of network_of over all
heads = refl

-- site 0 port 2 to byte 77; the last port to 4S; an input fed twice by one site and by two; the first of two bad ones;
-- a bad route and a bad send beside it are not asked
pub channels : map fault_of (one 14 77 ∷ one 20 8 ∷ one 14 4 ∷ one 17 4 ∷ both 16 8 20 9 ∷ both 19 254 21 1 ∷ both 20 4 31 2 ∷ [])
    ≡ fault 6 1 ∷ fault 6 7 ∷ fault 6 1 ∷ fault 6 4 ∷ fault 6 3 ∷ fault 6 6 ∷ fault 6 7 ∷ []
unfolding fault_of place_of item_ok item_count first read_refusal head_then body_refusal run_of network_of over all
channels = refl

-- from a site to itself, site 0 and site 1; an empty list; digit 5; port 1 twice; port 2, which has no channel; a 0 left of
-- port 1; the first of two; a bad send beside it is not asked
pub routes : map fault_of
    (one 21 16 ∷ one 28 1 ∷ one 23 0 ∷ one 25 80 ∷ one 23 17 ∷ one 25 32 ∷ both 25 1 26 0 ∷ both 23 18 27 1 ∷ both 26 5 31 2 ∷ [])
    ≡ fault 7 0 ∷ fault 7 3 ∷ fault 7 1 ∷ fault 7 2 ∷ fault 7 1 ∷ fault 7 2 ∷ fault 7 2 ∷ fault 7 1 ∷ fault 7 2 ∷ []
unfolding fault_of place_of item_ok item_count first read_refusal head_then body_refusal run_of network_of over all
routes = refl

-- site 2, in the first and in the second send; the empty set; a set with site 2, and with site 8; draw 1,001 of 1,000; draw
-- 500 behind draw 512; the first of two
pub sends : map fault_of
    (one 31 2 ∷ one 36 2 ∷ one 33 0 ∷ one 38 4 ∷ one 37 1 ∷ both 34 3 35 233 ∷ one 29 2 ∷ both 32 1 36 9 ∷ [])
    ≡ fault 8 0 ∷ fault 8 1 ∷ fault 8 0 ∷ fault 8 1 ∷ fault 8 1 ∷ fault 8 1 ∷ fault 8 1 ∷ fault 8 0 ∷ []
unfolding fault_of place_of item_ok item_count first read_refusal head_then body_refusal run_of network_of over all
sends = refl

-- three sites in a ring on their ports 1, no sends: the channels from 13, the routes from 25
abbrev ring : List ℕ
ring =
    0 ∷ 43 ∷ 1 ∷ 3 ∷ 1 ∷ 1 ∷ 0 ∷ 0 ∷ 0 ∷ 1 ∷ 0 ∷ 0 ∷ 0
    ∷ 4 ∷ 255 ∷ 255 ∷ 255 ∷ 8 ∷ 255 ∷ 255 ∷ 255 ∷ 0 ∷ 255 ∷ 255 ∷ 255
    ∷ 0 ∷ 0 ∷ 16 ∷ 0 ∷ 16 ∷ 0
    ∷ 16 ∷ 0 ∷ 0 ∷ 0 ∷ 16 ∷ 0
    ∷ 16 ∷ 0 ∷ 16 ∷ 0 ∷ 0 ∷ 0 ∷ []

-- as it stands; from site 0 to site 2, from site 1 to site 2, from site 2 to site 0 and to itself
pub rings : map fault_of (ring ∷ set ring 30 1 ∷ set ring 35 64 ∷ set ring 37 0 ∷ set ring 41 16 ∷ [])
    ≡ fault 0 0 ∷ fault 7 2 ∷ fault 7 5 ∷ fault 7 6 ∷ fault 7 8 ∷ []
unfolding fault_of place_of item_ok item_count first read_refusal head_then body_refusal run_of network_of over all
rings = refl

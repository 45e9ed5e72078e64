-- Uncontended latency on arguments typed by hand. Each row is what the definitions compute, the refusal and the four doubled
-- values, beside what the formulas give; a = ⌈t/W⌉ and b = ⌈L/W⌉ stand behind it. Assumes nothing.
use mathlib.Core.Path.{◌≡◌, refl}
use mathlib.Core.List.{List, [], ◌∷◌, map}
use Prim.Native.Nat.{ℕ}
use lib.ListN.{replicate}
use Rattle.latency.specs.Latency.{ceiling, twice_unicast, twice_multi, twice_resumable, twice_restricted, by_cycles, latencies}

-- of t, L, D, n and W
abbrev of : ℕ → ℕ → ℕ → ℕ → ℕ → List ℕ
of t L D n W =
    let r = latencies t L D n W in r.refusal ∷ r.unicast ∷ r.multi ∷ r.resumable ∷ r.restricted ∷ []

pub values : List (List ℕ × List ℕ)
values =
    (of 8 256 8 4 8, 0 ∷ 80 ∷ 179 ∷ 86 ∷ 107 ∷ [])  -- 1, 32
    ∷ (of 9 255 3 4 8, 0 ∷ 76 ∷ 178 ∷ 88 ∷ 100 ∷ [])  -- 2, 32: a rest takes one cycle more
    ∷ (of 7 1 2 2 8, 0 ∷ 6 ∷ 8 ∷ 8 ∷ 9 ∷ [])  -- 1, 1
    ∷ (of 8 32 4 3 8, 0 ∷ 16 ∷ 26 ∷ 20 ∷ 26 ∷ [])  -- 1, 4: aD is b
    ∷ (of 8 33 4 3 8, 0 ∷ 18 ∷ 30 ∷ 22 ∷ 28 ∷ [])  -- 1, 5: aD is below b
    ∷ (of 8 8 1 1 8, 0 ∷ 4 ∷ 4 ∷ 4 ∷ 4 ∷ [])  -- 1, 1: one target
    ∷ (of 1 1 1 1 1, 0 ∷ 4 ∷ 4 ∷ 4 ∷ 4 ∷ [])  -- 1, 1: the least of each
    ∷ (of 65535 65535 65535 65535 65535, 0 ∷ 131072 ∷ 262140 ∷ 262140 ∷ 4294967296 ∷ [])  -- 1, 1: the largest of each
    ∷ (of 65535 65535 65535 65535 1, 0 ∷ 8589803520 ∷ 17179344900 ∷ 17179344900 ∷ 281470681743360 ∷ [])  -- 65535, 65535
    ∷ []

pub values_read : map (λ row. row.0) values ≡ map (λ row. row.1) values
unfolding values latencies ceiling by_cycles twice_unicast twice_multi twice_resumable twice_restricted
values_read = refl

-- each argument just outside its range, at both ends, and all five
pub outside_read : ◌≡◌ {A = List (List ℕ)}
    (of 0 256 8 4 8 ∷ of 8 0 8 4 8 ∷ of 8 256 0 4 8 ∷ of 8 256 8 0 8 ∷ of 8 256 8 4 0
    ∷ of 65536 256 8 4 8 ∷ of 8 65536 8 4 8 ∷ of 8 256 65536 4 8 ∷ of 8 256 8 65536 8 ∷ of 8 256 8 4 65536
    ∷ of 0 65536 0 65536 0 ∷ [])
    (replicate 11 (20 ∷ 0 ∷ 0 ∷ 0 ∷ 0 ∷ []))
unfolding latencies
outside_read = refl

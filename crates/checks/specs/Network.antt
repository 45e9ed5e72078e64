-- The model's tests of a network's parts as numbers: version and edition, S, T and D, and a route over a table of the hex
-- digits that may stand in a list. Assumes nothing.
use Rattle.std.specs.Prelude.{Bool, true, false, cond, not, ◌&&◌, ◌||◌, List, [], ◌∷◌, ℕ, ◌+◌, ◌-◌, eqb, leb, get_or}
use Rattle.base.specs.Sizes.{port_count, queue_room}
use Rattle.base.specs.Bools.{implies}
use Rattle.base.specs.All.{all}
use Rattle.types.specs.declared.Network.{Network}
use Rattle.model.specs.Network.{edition_in, sites_in, sizes_ok, joins_then, joined, choice, choices, differs}

-- 2 or 17 of a version and an edition, or 0
abbrev pub kind_in : ℕ → ℕ → ℕ
kind_in version edition = cond (eqb version 1 || eqb version 2) (cond (edition_in version edition) 0 17) 2

-- sizes_ok of the version, S, T and D
abbrev pub sizes_in : ℕ → ℕ → ℕ → ℕ → Bool
sizes_in version S T D = leb 1 S && leb S (sites_in version) && leb 1 T && leb 1 D && leb D queue_room

-- network_refusal behind version and edition
abbrev pub parts_refusal : Network → ℕ
parts_refusal n = cond (sizes_ok n) (joins_then n 0) 3

-- the digits 0 to 15 that may stand in a list of site s: 0, and the ports with a channel
abbrev pub ports_by : Bool → Bool → Bool → Bool → List Bool
ports_by a b c d =
    true ∷ a ∷ b ∷ c ∷ d
    ∷ false ∷ false ∷ false ∷ false ∷ false ∷ false ∷ false ∷ false ∷ false ∷ false ∷ false ∷ []

abbrev pub ports_of : Network → ℕ → List Bool
ports_of n s = ports_by (joined n s 1) (joined n s 2) (joined n s 3) (joined n s 4)

-- list_ok and route_ok with such a table for port_ok
abbrev pub list_by : List Bool → List ℕ → Bool
list_by ports l =
    not (eqb (choice l 0) 0)
    && all (λ k. get_or ports (choice l k) false) port_count
    && all (λ k. implies (eqb (choice l k) 0) (eqb (choice l (k + 1)) 0)) (port_count - 1)
    && all (differs l) port_count

unfoldable pub route_by : List Bool → ℕ → ℕ → ℕ → Bool
route_by ports s t r = eqb s t && eqb r 0 || not (eqb s t) && list_by ports (choices r)

-- The router's rules and the tries on one network, typed from document 01: each row is what the definitions compute
-- beside what the document says. Demand 3 holds for routers of other tastes too; these rows do not.
use Prim.Native.Nat.{ℕ, zero, suc}
use mathlib.Core.Path.{◌≡◌, refl}
use mathlib.Core.Bool.{true, false}
use mathlib.Core.List.{List, [], ◌∷◌, map}
use lib.Count.{count_trailing_zeros}
use Rattle.base.specs.Sizes.{no_channel}
use Rattle.base.specs.All.{all, any}
use Rattle.base.specs.Over.{over}
use Rattle.base.specs.Sums.{sum}
use Rattle.sets.specs.Sets.{has, plus, minus, size_in, lowest}
use Rattle.model.specs.Types.{Input, Output, Network, Seek, t_none, no_marks, no_output}
use Rattle.types.specs.Numbers.{state_number, connection_number, connection_of}
use Rattle.model.specs.Network.{network_refusal}
use Rattle.model.specs.Router.{Choice, Chosen, Unserved, first_port, gather_from, gather, spread, or_else, route}
use Rattle.model.specs.NetInput.{Turn, Stay, To, occupy, marks_of, seek, in_state}
use Rattle.model.proofs.Made.{net}
use Rattle.model.proofs.Shown.{out, shut}

-- Four sites, T = 3. Site 0's ports 1, 2, 3 lead to sites 1, 2, 3, its port 4 to site 1 again; their ports 1 lead back.
-- Its lists: ports 1, 4 to site 1; 2, 1 to site 2; 1, 3 to site 3.
abbrev hub : Network
hub =
    net 4 3 1
    (4 ∷ 8 ∷ 12 ∷ 5 ∷ 0 ∷ no_channel ∷ no_channel ∷ no_channel ∷ 1 ∷ no_channel ∷ no_channel ∷ no_channel ∷ 2 ∷ [])
    (0 ∷ 5120 ∷ 8448 ∷ 4864 ∷ 4096 ∷ 0 ∷ 4096 ∷ 4096 ∷ 4096 ∷ 4096 ∷ 0 ∷ 4096 ∷ 4096 ∷ 4096 ∷ 4096 ∷ 0 ∷ [])

pub hub_valid : network_refusal hub ≡ 0
unfolding network_refusal all any
hub_valid = refl

-- site 0's outputs: 1 for one in use, by another packet with the set {3}, 2 for the same, closing, 0 for an empty one
outputs_of : List ℕ → List Output
outputs_of [] = []
outputs_of (zero ∷ us) = no_output ∷ outputs_of us
outputs_of (suc zero ∷ us) = out 9 8 4 true t_none ∷ outputs_of us
outputs_of (suc (suc u) ∷ us) = shut 9 8 4 ∷ outputs_of us

-- the connection's number and each output's set; nothing for no choice
chosen : Choice → List ℕ
chosen (Chosen c sets) = connection_number c ∷ sets
chosen Unserved = []

at : List ℕ → ℕ → List ℕ
at us X = chosen (route hub 0 (outputs_of us) X)

pub routes : List (List ℕ × List ℕ)
routes =
    -- "X = {s}: output 0, unicast."
    (at (0 ∷ 0 ∷ 0 ∷ 0 ∷ 0 ∷ []) 1, 1 ∷ 1 ∷ 0 ∷ 0 ∷ 0 ∷ 0 ∷ 0 ∷ [])
    ∷ (at (1 ∷ 0 ∷ 0 ∷ 0 ∷ 0 ∷ []) 1, [])
    -- "X = {t}, another site: the first empty output in t's list, unicast."
    ∷ (at (0 ∷ 0 ∷ 0 ∷ 0 ∷ 0 ∷ []) 2, 1 ∷ 0 ∷ 2 ∷ 0 ∷ 0 ∷ 0 ∷ 0 ∷ [])
    ∷ (at (0 ∷ 1 ∷ 0 ∷ 0 ∷ 0 ∷ []) 2, 1 ∷ 0 ∷ 0 ∷ 0 ∷ 0 ∷ 2 ∷ 0 ∷ [])
    ∷ (at (0 ∷ 1 ∷ 0 ∷ 0 ∷ 1 ∷ []) 2, [])
    ∷ (at (0 ∷ 0 ∷ 0 ∷ 0 ∷ 0 ∷ []) 4, 1 ∷ 0 ∷ 0 ∷ 4 ∷ 0 ∷ 0 ∷ 0 ∷ [])
    -- "Two or more targets ..: split: each remote output gets its own targets, output 0 gets the whole X; some-local if s is
    -- in X, else all-remote."
    ∷ (at (0 ∷ 0 ∷ 0 ∷ 0 ∷ 0 ∷ []) 6, 3 ∷ 6 ∷ 2 ∷ 4 ∷ 0 ∷ 0 ∷ 0 ∷ [])
    ∷ (at (0 ∷ 0 ∷ 0 ∷ 0 ∷ 0 ∷ []) 7, 4 ∷ 7 ∷ 2 ∷ 4 ∷ 0 ∷ 0 ∷ 0 ∷ [])
    ∷ (at (0 ∷ 0 ∷ 0 ∷ 0 ∷ 0 ∷ []) 14, 3 ∷ 14 ∷ 10 ∷ 4 ∷ 0 ∷ 0 ∷ 0 ∷ [])
    -- "empty or already chosen for this packet"; "where a single remote output was chosen and s isn't in X, passthru on it
    -- with X, output 0 not taken."
    ∷ (at (0 ∷ 0 ∷ 0 ∷ 0 ∷ 0 ∷ []) 10, 2 ∷ 0 ∷ 10 ∷ 0 ∷ 0 ∷ 0 ∷ 0 ∷ [])
    ∷ (at (0 ∷ 0 ∷ 1 ∷ 0 ∷ 0 ∷ []) 6, 2 ∷ 0 ∷ 6 ∷ 0 ∷ 0 ∷ 0 ∷ 0 ∷ [])
    -- a single remote output and s in X: split
    ∷ (at (0 ∷ 0 ∷ 0 ∷ 0 ∷ 0 ∷ []) 11, 4 ∷ 11 ∷ 10 ∷ 0 ∷ 0 ∷ 0 ∷ 0 ∷ [])
    -- "Otherwise, with two or more targets: passthru of the whole X to the first empty output in the list of the lowest t
    -- other than s."
    ∷ (at (1 ∷ 0 ∷ 0 ∷ 0 ∷ 0 ∷ []) 11, 2 ∷ 0 ∷ 11 ∷ 0 ∷ 0 ∷ 0 ∷ 0 ∷ [])
    ∷ (at (1 ∷ 1 ∷ 0 ∷ 0 ∷ 0 ∷ []) 7, 2 ∷ 0 ∷ 0 ∷ 0 ∷ 0 ∷ 7 ∷ 0 ∷ [])
    ∷ (at (0 ∷ 1 ∷ 1 ∷ 0 ∷ 0 ∷ []) 6, 2 ∷ 0 ∷ 0 ∷ 0 ∷ 0 ∷ 6 ∷ 0 ∷ [])
    ∷ (at (0 ∷ 1 ∷ 0 ∷ 0 ∷ 1 ∷ []) 6, [])
    -- L6: a closing output "serves nobody"
    ∷ (at (0 ∷ 2 ∷ 0 ∷ 0 ∷ 0 ∷ []) 2, 1 ∷ 0 ∷ 0 ∷ 0 ∷ 0 ∷ 2 ∷ 0 ∷ [])
    ∷ (at (0 ∷ 2 ∷ 0 ∷ 0 ∷ 2 ∷ []) 2, [])
    ∷ (at (0 ∷ 0 ∷ 2 ∷ 0 ∷ 0 ∷ []) 6, 2 ∷ 0 ∷ 6 ∷ 0 ∷ 0 ∷ 0 ∷ 0 ∷ [])
    ∷ (at (0 ∷ 2 ∷ 2 ∷ 0 ∷ 0 ∷ []) 7, 2 ∷ 0 ∷ 0 ∷ 0 ∷ 0 ∷ 7 ∷ 0 ∷ [])
    ∷ []

pub routed : map (λ row. row.0) routes ≡ map (λ row. row.1) routes
unfolding routes at chosen outputs_of first_port gather_from gather spread or_else route sum has plus minus size_in lowest
    count_trailing_zeros
routed = refl

-- ---- a net-input that seeks, after some tries

-- state, connection, tries, and each output's set; nothing if nothing changes
shown : Turn Input (List Output) → List ℕ
shown Stay = []
shown (To y os) = state_number y.phase ∷ connection_of y.phase ∷ y.tries ∷ map (λ o. o.set) os

seeking : ℕ → List ℕ → ℕ → List ℕ
seeking tries us X =
    let y : Input = record { set = X; phase = Seek; outputs = no_marks; packet = 5; tries = tries } in
    shown (in_state hub 0 1 y (outputs_of us) (λ j. false) Seek)

pub asks : List (List ℕ × List ℕ)
asks =
    -- "Success puts the net-input in open"; the tries stay
    (seeking 2 (0 ∷ 0 ∷ 0 ∷ 0 ∷ 0 ∷ []) 2, 2 ∷ 1 ∷ 2 ∷ 0 ∷ 2 ∷ 0 ∷ 0 ∷ 0 ∷ [])
    -- "below T, one more try", also with output 0 empty
    ∷ (seeking 2 (0 ∷ 1 ∷ 0 ∷ 0 ∷ 1 ∷ []) 2, 1 ∷ 0 ∷ 3 ∷ 0 ∷ 8 ∷ 0 ∷ 0 ∷ 8 ∷ [])
    -- "At T, if output 0 is empty, the whole X goes to it, handed. Else nothing changes."
    ∷ (seeking 3 (0 ∷ 1 ∷ 0 ∷ 0 ∷ 1 ∷ []) 2, 2 ∷ 5 ∷ 3 ∷ 2 ∷ 8 ∷ 0 ∷ 0 ∷ 8 ∷ [])
    ∷ (seeking 3 (1 ∷ 1 ∷ 0 ∷ 0 ∷ 1 ∷ []) 2, [])
    ∷ (seeking 2 (0 ∷ 2 ∷ 0 ∷ 0 ∷ 1 ∷ []) 2, 1 ∷ 0 ∷ 3 ∷ 0 ∷ 8 ∷ 0 ∷ 0 ∷ 8 ∷ [])
    ∷ (seeking 3 (0 ∷ 2 ∷ 0 ∷ 0 ∷ 2 ∷ []) 2, 2 ∷ 5 ∷ 3 ∷ 2 ∷ 8 ∷ 0 ∷ 0 ∷ 8 ∷ [])
    ∷ []

pub asked : map (λ row. row.0) asks ≡ map (λ row. row.1) asks
unfolding asks seeking shown outputs_of occupy marks_of seek in_state over first_port gather_from gather spread or_else
    route sum has plus minus size_in lowest count_trailing_zeros
asked = refl

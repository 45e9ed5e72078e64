-- The outputs in the way, typed from document 02, L7, on the hub of BranchCases in editions 1, 2 and 3: what the router names, what a
-- net-input passes on, what RUN answers. A set of outputs is a number: bit j is output j. Each row is what the definitions compute
-- beside what the document says. Assumes nothing.
use Prim.Native.Nat.{ℕ}
use mathlib.Core.Path.{◌≡◌, refl}
use mathlib.Core.List.{List, [], ◌∷◌, map}
use lib.Count.{count_trailing_zeros}
use lib.ListN.{replicate}
use Rattle.base.specs.All.{all, any}
use Rattle.base.specs.Over.{over}
use Rattle.base.specs.Sums.{sum}
use Rattle.sets.specs.Sets.{has, plus, minus, size_in, lowest, those}
use Rattle.types.specs.Numbers.{ran_numbers}
use Rattle.model.specs.Types.{Unicast, Handed, got_end, Phase, Free, Seek, Open, Wait, Done, Input, Site, State}
use Rattle.model.specs.Types.{no_marks, no_site, no_state, set_in, set_site, with_outputs}
use Rattle.model.specs.Network.{network_refusal}
use Rattle.model.specs.Range.{in_range}
use Rattle.model.specs.Router.{first_port, gather_from, gather, spread, branch, or_else, route, blocks, ask}
use Rattle.model.specs.NetInput.{hears, give, occupy, marks_of, seek, in_state, failed, passes_on}
use Rattle.model.specs.Steps.{act, run, blocking_at}
use Rattle.model.specs.Events.{run_refusal, ran}
use Rattle.model.proofs.BranchCases.{hub, outputs_of}

-- in the three editions, in their order
in_each : (ℕ → ℕ) → List ℕ
in_each f = map f (1 ∷ 2 ∷ 3 ∷ [])

alike : ℕ → List ℕ
alike B = replicate 3 B

-- ---- the router: site 0's outputs 0 to 5 (1 in use, 2 closing, 0 empty) and the packet's set. Site 0's lists: ports 1, 4 to site 1; 2, 1
-- to site 2; 1, 3 to site 3

named : List ℕ → ℕ → List ℕ
named us X = in_each (λ e. (ask (hub e) 0 (outputs_of us) X).blocking)

pub names : List (List ℕ × List ℕ)
names =
    -- "output 0 stands in it only for a packet whose single target is its own site"
    (named (1 ∷ 0 ∷ 0 ∷ 0 ∷ 0 ∷ 0 ∷ []) 1, alike 1)
    ∷ (named (1 ∷ 1 ∷ 1 ∷ 1 ∷ 1 ∷ 1 ∷ []) 1, alike 1)
    -- "empty where the router .. did not fail": output 0 serves
    ∷ (named (0 ∷ 1 ∷ 1 ∷ 1 ∷ 1 ∷ 1 ∷ []) 1, alike 0)
    -- "outputs whose emptying would each, alone, have let this packet connect": every port of the target's list, {1, 4}, {1, 2}, {1, 3}
    ∷ (named (0 ∷ 1 ∷ 0 ∷ 0 ∷ 1 ∷ 0 ∷ []) 2, alike 18)
    ∷ (named (1 ∷ 1 ∷ 1 ∷ 1 ∷ 1 ∷ 1 ∷ []) 2, alike 18)
    ∷ (named (0 ∷ 1 ∷ 1 ∷ 0 ∷ 0 ∷ 0 ∷ []) 4, alike 6)
    ∷ (named (0 ∷ 1 ∷ 0 ∷ 1 ∷ 0 ∷ 0 ∷ []) 8, alike 10)
    -- one of them serves
    ∷ (named (1 ∷ 1 ∷ 1 ∷ 1 ∷ 0 ∷ 1 ∷ []) 2, alike 0)
    ∷ (named (1 ∷ 0 ∷ 1 ∷ 1 ∷ 1 ∷ 1 ∷ []) 2, alike 0)
    -- two targets: the list of the lowest; output 0 and the split output are empty, and are not in it
    ∷ (named (0 ∷ 1 ∷ 0 ∷ 0 ∷ 1 ∷ 0 ∷ []) 6, alike 18)
    -- the outputs of the other target are in use, and are not in it: without the lowest nothing connects
    ∷ (named (0 ∷ 1 ∷ 1 ∷ 0 ∷ 1 ∷ 0 ∷ []) 6, alike 18)
    ∷ (named (0 ∷ 1 ∷ 1 ∷ 1 ∷ 0 ∷ 0 ∷ []) 12, alike 6)
    ∷ (named (0 ∷ 1 ∷ 1 ∷ 1 ∷ 1 ∷ 0 ∷ []) 14, alike 18)
    -- output 0 in use: emptied alone it makes no way to the lowest target
    ∷ (named (1 ∷ 1 ∷ 0 ∷ 0 ∷ 1 ∷ 0 ∷ []) 6, alike 18)
    ∷ (named (1 ∷ 1 ∷ 1 ∷ 1 ∷ 1 ∷ 0 ∷ []) 14, alike 18)
    -- the lowest target is served, another is not: passthru
    ∷ (named (0 ∷ 1 ∷ 1 ∷ 1 ∷ 0 ∷ 0 ∷ []) 6, alike 0)
    ∷ (named (1 ∷ 1 ∷ 1 ∷ 1 ∷ 0 ∷ 0 ∷ []) 14, alike 0)
    -- the own site among several: "the lowest t other than s"; the split output, in use or empty, is not in it
    ∷ (named (0 ∷ 1 ∷ 0 ∷ 0 ∷ 1 ∷ 0 ∷ []) 3, alike 18)
    ∷ (named (1 ∷ 1 ∷ 0 ∷ 0 ∷ 1 ∷ 1 ∷ []) 3, alike 18)
    ∷ (named (0 ∷ 1 ∷ 1 ∷ 0 ∷ 0 ∷ 1 ∷ []) 5, alike 6)
    ∷ (named (1 ∷ 1 ∷ 1 ∷ 1 ∷ 1 ∷ 1 ∷ []) 13, alike 6)
    -- L6: a closing output "serves nobody": it is in the way as any in use is
    ∷ (named (0 ∷ 2 ∷ 0 ∷ 0 ∷ 1 ∷ 0 ∷ []) 2, alike 18)
    ∷ (named (0 ∷ 2 ∷ 0 ∷ 0 ∷ 2 ∷ 0 ∷ []) 7, alike 18)
    ∷ (named (2 ∷ 0 ∷ 0 ∷ 0 ∷ 0 ∷ 0 ∷ []) 1, alike 1)
    ∷ []

pub names_read : map (λ row. row.0) names ≡ map (λ row. row.1) names
unfolding names named in_each alike outputs_of ask blocks those first_port gather_from gather spread branch or_else route sum has plus minus
    size_in lowest count_trailing_zeros
names_read = refl

-- ---- a net-input with the set X after so many tries, T = 3

asking : Phase → ℕ → ℕ → Input
asking ph tries X = record { set = X; phase = ph; outputs = no_marks; packet = 5; tries = tries }

passed : Phase → ℕ → List ℕ → ℕ → List ℕ
passed ph tries us X = in_each (λ e. passes_on (hub e) 0 (asking ph tries X) (outputs_of us))

pub passes : List (List ℕ × List ℕ)
passes =
    -- "The net-input's step passes it on": below T, also with output 0 empty, and at T
    (passed Seek 0 (0 ∷ 1 ∷ 0 ∷ 0 ∷ 1 ∷ 0 ∷ []) 2, alike 18)
    ∷ (passed Seek 2 (0 ∷ 1 ∷ 0 ∷ 0 ∷ 1 ∷ 0 ∷ []) 6, alike 18)
    ∷ (passed Seek 2 (1 ∷ 1 ∷ 0 ∷ 0 ∷ 1 ∷ 0 ∷ []) 7, alike 18)
    ∷ (passed Seek 3 (1 ∷ 1 ∷ 0 ∷ 0 ∷ 1 ∷ 0 ∷ []) 2, alike 18)
    ∷ (passed Seek 3 (1 ∷ 0 ∷ 0 ∷ 0 ∷ 0 ∷ 0 ∷ []) 1, alike 1)
    -- at T with output 0 empty it is handed
    ∷ (passed Seek 3 (0 ∷ 1 ∷ 0 ∷ 0 ∷ 1 ∷ 0 ∷ []) 2, alike 0)
    ∷ (passed Seek 3 (0 ∷ 1 ∷ 1 ∷ 1 ∷ 1 ∷ 1 ∷ []) 7, alike 0)
    -- "empty where the router was not asked or did not fail"
    ∷ (passed Seek 0 (1 ∷ 1 ∷ 0 ∷ 0 ∷ 0 ∷ 0 ∷ []) 2, alike 0)
    ∷ (passed Free 0 (1 ∷ 1 ∷ 1 ∷ 1 ∷ 1 ∷ 1 ∷ []) 2, alike 0)
    ∷ (passed (Open Unicast) 0 (1 ∷ 1 ∷ 1 ∷ 1 ∷ 1 ∷ 1 ∷ []) 2, alike 0)
    ∷ (passed (Wait Handed) 3 (1 ∷ 1 ∷ 1 ∷ 1 ∷ 1 ∷ 1 ∷ []) 2, alike 0)
    ∷ (passed (Done Unicast got_end) 3 (1 ∷ 1 ∷ 1 ∷ 1 ∷ 1 ∷ 1 ∷ []) 2, alike 0)
    ∷ []

pub passes_read : map (λ row. row.0) passes ≡ map (λ row. row.1) passes
unfolding passes passed asking in_each alike outputs_of passes_on failed ask blocks those first_port gather_from gather spread branch or_else
    route sum has plus minus size_in lowest count_trailing_zeros
passes_read = refl

-- ---- RUN: net-input 2 of site 0 asks for {1}, whose ports 1 and 4 are in use by other packets

busy : Site
busy = set_in (with_outputs no_site (outputs_of (0 ∷ 1 ∷ 0 ∷ 0 ∷ 1 ∷ 0 ∷ []))) 2 (asking Seek 1 2)

counted : ℕ → State
counted k = record { sites = set_site no_state.sites 0 busy; counter = k }

-- the numbers of RUN's answer: the refusal, the answer, packet and site, the outputs in the way
answer : ℕ → ℕ → ℕ → ℕ → List ℕ
answer edition k s code = let w = ran (hub edition) (counted k) s code in ran_numbers w.answer w.blocking

pub answers : List (List ℕ × List ℕ)
answers =
    -- code 2 asks; the other net-inputs are free, no other code asks
    (map (blocking_at (hub 3) 0 busy) (0 ∷ 1 ∷ 2 ∷ 3 ∷ 4 ∷ 5 ∷ 6 ∷ 7 ∷ 8 ∷ 9 ∷ 10 ∷ 11 ∷ 12 ∷ 13 ∷ 14 ∷ []), 0 ∷ 0 ∷ 18 ∷ replicate 12 0)
    ∷ (answer 1 10 0 2, 0 ∷ 1 ∷ 0 ∷ 0 ∷ 18 ∷ [])
    ∷ (answer 3 10 0 2, 0 ∷ 1 ∷ 0 ∷ 0 ∷ 18 ∷ [])
    ∷ (answer 1 10 1 2, replicate 5 0)
    -- refused: 13 for a packet that was not accepted, 9 for a site or a code that there is not, 17 for an edition
    ∷ (answer 1 5 0 2, 13 ∷ replicate 4 0)
    ∷ (answer 1 10 4 2, 9 ∷ replicate 4 0)
    ∷ (answer 1 10 0 15, 9 ∷ replicate 4 0)
    ∷ (answer 4 10 0 2, 17 ∷ replicate 4 0)
    ∷ []

pub answers_named : map (λ row. row.0) answers ≡ map (λ row. row.1) answers
unfolding answers answer busy counted asking outputs_of ran run_refusal network_refusal in_range run act in_state seek hears give occupy marks_of
    over all any blocking_at passes_on failed ask blocks those first_port gather_from gather spread branch or_else route sum has plus minus
    size_in lowest count_trailing_zeros
answers_named = refl

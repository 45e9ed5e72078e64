-- Edition 3, typed from document 02, L10: the router's choice beside that of editions 1 and 2, the split output's readiness and
-- terminator, the timeout, what is in range, the codes and draws. Each row is what the definitions compute beside what the document
-- says. BranchRuns.antt has the worked run.
use Prim.Native.Nat.{ℕ, zero, suc}
use mathlib.Core.Path.{◌≡◌, refl}
use mathlib.Core.Bool.{Bool, true, false, not}
use mathlib.Core.List.{List, [], ◌∷◌, map}
use lib.Count.{count_trailing_zeros}
use lib.Dec.{eqb}
use lib.ListN.{replicate}
use Rattle.base.specs.Sizes.{no_channel}
use Rattle.base.specs.All.{all, any}
use Rattle.base.specs.Bools.{count}
use Rattle.base.specs.Over.{over}
use Rattle.base.specs.Sums.{sum}
use Rattle.sets.specs.Sets.{has, plus, minus, size_in, lowest}
use Rattle.draws.specs.Draws.{drawn_site, drawn_code}
use Rattle.types.specs.Numbers.{state_number, connection_number, connection_of}
use Rattle.model.specs.Types.{Passthru, AllRemote, SomeLocal, Handed, Branch, got_end, got_abort, t_none, t_end, t_abort, t_keep}
use Rattle.model.specs.Types.{Phase, Free, Seek, Open, Wait, Done, Last, Aborted, FinAbort, Input, Output, InEntry, Site, Network}
use Rattle.model.specs.Types.{no_marks, no_output, no_site, set_in, set_out, set_queue}
use Rattle.model.specs.Network.{network_refusal}
use Rattle.model.specs.Router.{Choice, Chosen, Unserved, first_port, gather_from, gather, spread, branch, or_else, route}
use Rattle.model.specs.NetInput.{Turn, Stay, To, hears, ready, give, occupy, marks_of, seek, in_state, net_input}
use Rattle.model.specs.Places.{cut_at, timeout}
use Rattle.model.specs.Range.{place_ok}
use Rattle.model.specs.Events.{run_fault}
use Rattle.model.proofs.Made.{net_in}
use Rattle.model.proofs.Shown.{of_input, of_output, of_turn, each, inp, out, shut, arrived, in_q}
use Rattle.model.proofs.WorkCases.{outs as late_outs, zeroth, lacking, open_to_it}

-- ---- the router. Four sites, T = 3: the hub of RouterCases in version 2, in an edition. Site 0's lists: ports 1, 4 to site 1; 2, 1 to
-- site 2; 1, 3 to site 3

abbrev pub hub : ℕ → Network
hub edition =
    net_in 2 edition no_channel 0 4 3 1
    (4 ∷ 8 ∷ 12 ∷ 5 ∷ 0 ∷ no_channel ∷ no_channel ∷ no_channel ∷ 1 ∷ no_channel ∷ no_channel ∷ no_channel ∷ 2 ∷ [])
    (0 ∷ 5120 ∷ 8448 ∷ 4864 ∷ 4096 ∷ 0 ∷ 4096 ∷ 4096 ∷ 4096 ∷ 4096 ∷ 0 ∷ 4096 ∷ 4096 ∷ 4096 ∷ 4096 ∷ 0 ∷ [])

pub hub_valid : map (λ e. network_refusal (hub e)) (1 ∷ 2 ∷ 3 ∷ 4 ∷ []) ≡ 0 ∷ 0 ∷ 0 ∷ 17 ∷ []
unfolding network_refusal all any
hub_valid = refl

-- site 0's outputs 0 to 5: 1 for one in use, by another packet with the set {3}, 2 for the same, closing, 0 for an empty one
unfoldable pub outputs_of : List ℕ → List Output
outputs_of [] = []
outputs_of (zero ∷ us) = no_output ∷ outputs_of us
outputs_of (suc zero ∷ us) = out 9 8 4 true t_none ∷ outputs_of us
outputs_of (suc (suc u) ∷ us) = shut 9 8 4 ∷ outputs_of us

-- the connection's number and each output's set; nothing for no choice
chosen : Choice → List ℕ
chosen (Chosen c sets) = connection_number c ∷ sets
chosen Unserved = []

at : ℕ → List ℕ → ℕ → List ℕ
at edition us X = chosen (route (hub edition) 0 (outputs_of us) X)

empties : List ℕ
empties = replicate 6 0

pub routes : List (List ℕ × List ℕ)
routes =
    -- "s among them and the split output empty: {s} goes there and the rest to the first empty output of the lowest other target"; "That
    -- split is connection 6". Editions 1 and 2 split to every target with the same sends
    (at 3 empties 3, 6 ∷ 0 ∷ 2 ∷ 0 ∷ 0 ∷ 0 ∷ 1 ∷ [])
    ∷ (at 1 empties 3, 4 ∷ 3 ∷ 2 ∷ 0 ∷ 0 ∷ 0 ∷ 0 ∷ [])
    ∷ (at 3 empties 7, 6 ∷ 0 ∷ 6 ∷ 0 ∷ 0 ∷ 0 ∷ 1 ∷ [])
    ∷ (at 2 empties 7, 4 ∷ 7 ∷ 2 ∷ 4 ∷ 0 ∷ 0 ∷ 0 ∷ [])
    ∷ (at 3 empties 13, 6 ∷ 0 ∷ 0 ∷ 12 ∷ 0 ∷ 0 ∷ 1 ∷ [])
    ∷ (at 3 empties 15, 6 ∷ 0 ∷ 14 ∷ 0 ∷ 0 ∷ 0 ∷ 1 ∷ [])
    -- the first one in use or closing, then the next of its list; output 0 and the other targets' outputs do not matter
    ∷ (at 3 (0 ∷ 1 ∷ 0 ∷ 0 ∷ 0 ∷ 0 ∷ []) 7, 6 ∷ 0 ∷ 0 ∷ 0 ∷ 0 ∷ 6 ∷ 1 ∷ [])
    ∷ (at 3 (0 ∷ 2 ∷ 0 ∷ 0 ∷ 0 ∷ 0 ∷ []) 7, 6 ∷ 0 ∷ 0 ∷ 0 ∷ 0 ∷ 6 ∷ 1 ∷ [])
    ∷ (at 3 (1 ∷ 0 ∷ 1 ∷ 1 ∷ 1 ∷ 0 ∷ []) 7, 6 ∷ 0 ∷ 6 ∷ 0 ∷ 0 ∷ 0 ∷ 1 ∷ [])
    -- "With the split output busy, or s not among them: the whole set that way."
    ∷ (at 3 (0 ∷ 0 ∷ 0 ∷ 0 ∷ 0 ∷ 1 ∷ []) 7, 2 ∷ 0 ∷ 7 ∷ 0 ∷ 0 ∷ 0 ∷ 0 ∷ [])
    ∷ (at 3 (0 ∷ 2 ∷ 0 ∷ 0 ∷ 0 ∷ 1 ∷ []) 7, 2 ∷ 0 ∷ 0 ∷ 0 ∷ 0 ∷ 7 ∷ 0 ∷ [])
    ∷ (at 3 empties 6, 2 ∷ 0 ∷ 6 ∷ 0 ∷ 0 ∷ 0 ∷ 0 ∷ [])
    ∷ (at 1 empties 6, 3 ∷ 6 ∷ 2 ∷ 4 ∷ 0 ∷ 0 ∷ 0 ∷ [])
    ∷ (at 3 (0 ∷ 0 ∷ 0 ∷ 0 ∷ 0 ∷ 1 ∷ []) 14, 2 ∷ 0 ∷ 14 ∷ 0 ∷ 0 ∷ 0 ∷ 0 ∷ [])
    ∷ (at 3 empties 12, 2 ∷ 0 ∷ 0 ∷ 12 ∷ 0 ∷ 0 ∷ 0 ∷ [])
    -- no such output: no choice, whether the split output is empty or not
    ∷ (at 3 (0 ∷ 1 ∷ 0 ∷ 0 ∷ 1 ∷ 0 ∷ []) 7, [])
    ∷ (at 3 (0 ∷ 1 ∷ 0 ∷ 0 ∷ 2 ∷ 1 ∷ []) 7, [])
    ∷ (at 3 (0 ∷ 1 ∷ 0 ∷ 0 ∷ 1 ∷ 0 ∷ []) 6, [])
    -- "One target .. as in edition 1"
    ∷ (at 3 empties 1, 1 ∷ 1 ∷ 0 ∷ 0 ∷ 0 ∷ 0 ∷ 0 ∷ [])
    ∷ (at 3 (0 ∷ 0 ∷ 0 ∷ 0 ∷ 0 ∷ 1 ∷ []) 1, 1 ∷ 1 ∷ 0 ∷ 0 ∷ 0 ∷ 0 ∷ 0 ∷ [])
    ∷ (at 3 (1 ∷ 0 ∷ 0 ∷ 0 ∷ 0 ∷ 0 ∷ []) 1, [])
    ∷ (at 3 (0 ∷ 1 ∷ 0 ∷ 0 ∷ 0 ∷ 0 ∷ []) 2, 1 ∷ 0 ∷ 0 ∷ 0 ∷ 0 ∷ 2 ∷ 0 ∷ [])
    ∷ (at 3 (0 ∷ 1 ∷ 0 ∷ 0 ∷ 1 ∷ 0 ∷ []) 2, [])
    ∷ []

pub routed : map (λ row. row.0) routes ≡ map (λ row. row.1) routes
unfolding routes at chosen outputs_of empties first_port gather_from gather spread branch or_else route sum has plus minus size_in lowest
    count_trailing_zeros
routed = refl

-- ---- a net-input that seeks: state, connection, tries, and each output's set; nothing if nothing changes

shown : Turn Input (List Output) → List ℕ
shown Stay = []
shown (To y os) = state_number y.phase ∷ connection_of y.phase ∷ y.tries ∷ map (λ o. o.set) os

seeking : ℕ → List ℕ → ℕ → List ℕ
seeking tries us X =
    let y : Input = record { set = X; phase = Seek; outputs = no_marks; packet = 5; tries = tries } in
    shown (in_state (hub 3) 0 1 y (outputs_of us) (λ j. false) Seek)

pub asks : List (List ℕ × List ℕ)
asks =
    (seeking 2 empties 7, 2 ∷ 6 ∷ 2 ∷ 0 ∷ 6 ∷ 0 ∷ 0 ∷ 0 ∷ 1 ∷ [])
    -- "the handed rule, as in edition 1": below T one more try, at T the whole set to output 0, though the split output is empty
    ∷ (seeking 2 (0 ∷ 1 ∷ 0 ∷ 0 ∷ 1 ∷ 0 ∷ []) 7, 1 ∷ 0 ∷ 3 ∷ 0 ∷ 8 ∷ 0 ∷ 0 ∷ 8 ∷ 0 ∷ [])
    ∷ (seeking 3 (0 ∷ 1 ∷ 0 ∷ 0 ∷ 1 ∷ 0 ∷ []) 7, 2 ∷ 5 ∷ 3 ∷ 7 ∷ 8 ∷ 0 ∷ 0 ∷ 8 ∷ 0 ∷ [])
    ∷ (seeking 3 (1 ∷ 1 ∷ 0 ∷ 0 ∷ 1 ∷ 0 ∷ []) 7, [])
    ∷ (seeking 3 (0 ∷ 1 ∷ 0 ∷ 0 ∷ 1 ∷ 1 ∷ []) 7, 2 ∷ 5 ∷ 3 ∷ 7 ∷ 8 ∷ 0 ∷ 0 ∷ 8 ∷ 8 ∷ [])
    ∷ []

pub asked : map (λ row. row.0) asks ≡ map (λ row. row.1) asks
unfolding asks seeking shown outputs_of empties occupy marks_of seek in_state over first_port branch route has minus size_in lowest count_trailing_zeros
asked = refl

-- ---- the split output "is ready .. as output 0 does; both branches get the received terminator"

-- connected to outputs 1 and 5
abbrev pub forked : List Bool
forked = false ∷ true ∷ false ∷ false ∷ false ∷ true ∷ []

-- outputs 0 to 5 with packet 5, fed by input 1, heads taken; output 0 is input 3's
abbrev outs : List Output
outs =
    out 6 1 3 true t_none ∷ out 5 6 1 true t_none ∷ no_output ∷ no_output ∷ no_output ∷ out 5 1 1 true t_none ∷ []

-- whether output 5 is ready, whatever the channels are; that of 0 too
abbrev heard : Output → List ℕ
heard o = map (λ j. count (ready (λ j. false) (λ j. inp Free no_marks) (replicate 6 o) j)) (0 ∷ 1 ∷ 4 ∷ 5 ∷ [])

-- net-input 1 of site 0 by its state; which outputs are ready: every one, every one but k
abbrev turn : Phase → (ℕ → Bool) → List ℕ
turn ph isReady = of_turn of_input (map of_output) (net_input (hub 3) 0 1 (inp ph forked) outs isReady)

abbrev every : ℕ → Bool
every j = true

abbrev but : ℕ → ℕ → Bool
but k j = not (eqb j k)

abbrev kept : List ℕ
kept = 161310 ∷ 156110 ∷ 0 ∷ 0 ∷ 0 ∷ 151110 ∷ []

pub branches : List (List ℕ × List ℕ)
branches =
    (heard (out 5 1 1 true t_none), 1 ∷ 0 ∷ 0 ∷ 1 ∷ [])
    ∷ (heard (out 5 1 1 false t_none), 0 ∷ 0 ∷ 0 ∷ 0 ∷ [])
    ∷ (heard no_output, 0 ∷ 0 ∷ 0 ∷ 0 ∷ [])
    ∷ (turn (Done Branch got_end) every, 0 ∷ 0 ∷ 161310 ∷ 156111 ∷ 0 ∷ 0 ∷ 0 ∷ 151111 ∷ [])
    ∷ (turn (Done Branch got_abort) every, 0 ∷ 0 ∷ 161310 ∷ 156112 ∷ 0 ∷ 0 ∷ 0 ∷ 151112 ∷ [])
    ∷ (turn (Done Branch got_end) (but 0), 0 ∷ 0 ∷ 161310 ∷ 156111 ∷ 0 ∷ 0 ∷ 0 ∷ 151111 ∷ [])
    ∷ (turn (Done Branch got_end) (but 5), 557621 ∷ 34 ∷ kept)
    ∷ (turn (Done Branch got_end) (but 1), 557621 ∷ 34 ∷ kept)
    ∷ (turn (Open Branch) (but 5), 357620 ∷ 34 ∷ kept)
    ∷ (turn (Open Branch) every, [])
    ∷ (turn (Wait Branch) (but 5), [])
    ∷ (turn (Wait Branch) every, 257620 ∷ 34 ∷ kept)
    ∷ (turn (Last Branch got_end) (but 5), [])
    ∷ (turn (Last Branch got_end) every, 457621 ∷ 34 ∷ kept)
    ∷ []

pub branched : map (λ row. row.0) branches ≡ map (λ row. row.1) branches
unfolding branches hears give in_state over all
branched = refl

-- ---- "timeouts do nothing": where one of editions 1 and 2 cuts an input off, and at a split of edition 3

pub late : each (λ y. of_turn of_input (map of_output) (timeout 3 (in_q (lacking ∷ [])) (late_outs zeroth) y)) open_to_it ≡ []
unfolding cut_at give over
late = refl

pub late_branch : each (λ ph. each (λ e. of_turn of_input (map of_output) (timeout e (in_q (lacking ∷ [])) (late_outs zeroth) (inp ph forked)))
    (1 ∷ 2 ∷ 3 ∷ [])) (Open Branch ∷ Wait Branch ∷ Done Branch got_end ∷ Last Branch got_abort ∷ []) ≡ []
unfolding cut_at give over
late_branch = refl

-- ---- "9 reads by the edition's codes"; "draws then use 15 in place of 13": codes 11 to 15 in editions 1, 2, 3; the events of two values

pub codes : map (λ e. map (run_fault (hub e) 3) (11 ∷ 12 ∷ 13 ∷ 14 ∷ 15 ∷ [])) (1 ∷ 2 ∷ 3 ∷ [])
    ≡ (0 ∷ 0 ∷ 9 ∷ 9 ∷ 9 ∷ []) ∷ (0 ∷ 0 ∷ 9 ∷ 9 ∷ 9 ∷ []) ∷ (0 ∷ 0 ∷ 0 ∷ 0 ∷ 9 ∷ []) ∷ []
codes = refl

pub drawn : map (λ e. drawn_site e 2 100 ∷ drawn_code e 2 100 ∷ drawn_site e 4 59 ∷ drawn_code e 4 59 ∷ []) (1 ∷ 2 ∷ 3 ∷ [])
    ≡ (1 ∷ 9 ∷ 0 ∷ 7 ∷ []) ∷ (1 ∷ 9 ∷ 0 ∷ 7 ∷ []) ∷ (0 ∷ 10 ∷ 3 ∷ 14 ∷ []) ∷ []
drawn = refl

-- ---- in range: S = 2, T = 3, D = 2, 9 packets accepted; a site in editions 1, 2 and 3

abbrev sited : ℕ → Site → List Bool
sited s x = map (λ e. place_ok e 2 3 2 9 s x) (1 ∷ 2 ∷ 3 ∷ [])

abbrev never : List Bool
never = false ∷ false ∷ false ∷ []

abbrev third : List Bool
third = false ∷ false ∷ true ∷ []

abbrev but_third : List Bool
but_third = true ∷ true ∷ false ∷ []

abbrev always : List Bool
always = true ∷ true ∷ true ∷ []

-- a site whose split output is this; whose split output's in-queue has these entries
abbrev split : Output → List Bool
split o = sited 0 (set_out no_site 5 o)

abbrev queued : List InEntry → Site
queued es = set_queue no_site 1 (in_q es)

-- net-input 1 in this state on these outputs, of which 0, 1 and 5 are its own
abbrev joined : Phase → List Bool → List Bool
joined ph bs =
    sited 0
    (set_in (set_out (set_out (set_out no_site 0 (out 6 3 1 true t_none)) 1 (out 6 2 1 true t_none)) 5 (out 6 1 1 true t_none)) 1
    (record { set = 3; phase = ph; outputs = bs; packet = 6; tries = 0 }))

-- the same without the split output
abbrev local : Phase → List Bool → List Bool
local ph bs =
    sited 1
    (set_in (set_out (set_out no_site 0 (out 6 3 1 true t_none)) 1 (out 6 2 1 true t_none)) 1
    (record { set = 3; phase = ph; outputs = bs; packet = 6; tries = 0 }))

abbrev pair : List Bool
pair = true ∷ true ∷ false ∷ false ∷ false ∷ false ∷ []

abbrev own : List Bool
own = true ∷ false ∷ false ∷ false ∷ false ∷ false ∷ []

abbrev onward : List Bool
onward = false ∷ true ∷ false ∷ false ∷ false ∷ false ∷ []

abbrev parting : List Bool
parting = false ∷ false ∷ false ∷ false ∷ false ∷ true ∷ []

pub places : List (List Bool × List Bool)
places =
    -- "A split output .. join[s] each site": with any terminator but keep-local, never closing
    (split (out 6 1 1 false t_none), third)
    ∷ (split (out 6 3 4 true t_end), third)
    ∷ (split (out 6 1 0 true t_abort), third)
    ∷ (split (out 6 1 1 true t_keep), never)
    ∷ (split (shut 6 1 1), never)
    ∷ (split (out 9 1 1 true t_none), never)
    ∷ (split (out 6 0 1 true t_none), never)
    ∷ (split (out 6 4 1 true t_none), never)
    ∷ (split (out 6 1 5 true t_none), never)
    ∷ (split no_output, always)
    ∷ (split (record { set = 0; terminator = t_end; packet = 0; input = 0; used = false; head = false; closing = false }), never)
    ∷ (sited 2 (set_out no_site 5 (out 6 1 1 false t_none)), never)
    -- "and an in-queue for it, depth D", keep-local in it as in the other
    ∷ (sited 0 (queued (arrived 6 1 t_none ∷ [])), third)
    ∷ (sited 1 (queued (arrived 6 3 t_keep ∷ arrived 8 2 t_end ∷ [])), third)
    ∷ (sited 0 (queued (arrived 6 1 t_end ∷ arrived 6 1 t_end ∷ arrived 6 1 t_end ∷ [])), never)
    ∷ (sited 0 (queued (arrived 9 1 t_end ∷ [])), never)
    ∷ (sited 0 (queued (arrived 6 4 t_end ∷ [])), never)
    ∷ (sited 2 (queued (arrived 6 1 t_end ∷ [])), never)
    ∷ (sited 0 (set_queue no_site 1 (record { entries = arrived 0 0 t_end ∷ replicate 7 (arrived 0 0 t_none); count = 0 })), never)
    -- connection 6 "is in range here only, exactly where the split output is connected"
    ∷ (joined (Open Branch) forked, third)
    ∷ (joined (Done Branch got_abort) forked, third)
    ∷ (joined (Last Branch got_end) parting, third)
    ∷ (joined (Open Branch) onward, never)
    ∷ (joined (Open Passthru) forked, never)
    ∷ (joined (Wait Handed) parting, never)
    ∷ (local (Open Branch) onward, never)
    ∷ (joined (Open Passthru) onward, third)
    ∷ (local (Open Passthru) onward, always)
    -- "and 3 and 4 are not", so that abort and fin-abort are nowhere
    ∷ (local (Open AllRemote) pair, but_third)
    ∷ (local (Done SomeLocal got_end) pair, but_third)
    ∷ (local (Aborted SomeLocal) own, but_third)
    ∷ (local (FinAbort AllRemote got_end) own, but_third)
    ∷ (joined (Aborted Branch) parting, never)
    ∷ (joined (FinAbort Branch got_end) forked, never)
    -- "channels close as in edition 2"
    ∷ (sited 0 (set_out no_site 1 (shut 6 3 1)), false ∷ true ∷ true ∷ [])
    ∷ (sited 0 (set_out no_site 0 (shut 6 3 1)), never)
    ∷ []

pub places_read : map (λ row. row.0) places ≡ map (λ row. row.1) places
unfolding places all any
places_read = refl

-- When an output is ready, typed from document 01: "An output is ready when it is in use, its head is taken, and either it is
-- output 0 or its channel's input is open or abort. Outputs 1 to 4 without a channel are never ready and never move." One that is
-- closing (L6) has nothing to pass on any more.
use Prim.Native.Nat.{ℕ}
use mathlib.Core.Path.{◌≡◌, refl}
use mathlib.Core.Bool.{Bool, true, false}
use mathlib.Core.List.{List, [], ◌∷◌, map}
use lib.ListN.{get_or, replicate}
use Rattle.base.specs.Bools.{count}
use Rattle.model.specs.Types.{Unicast, Passthru, AllRemote, SomeLocal, Handed, got_end, got_abort, t_none, t_end}
use Rattle.model.specs.Types.{Phase, Free, Seek, Open, Wait, Done, Last, Aborted, FinAbort, Output, no_output}
use Rattle.model.specs.NetInput.{hears, ready}
use Rattle.model.proofs.Shown.{inp, out, shut, alone}

-- outputs 0 to 4, 1 for one that is ready; which of the ports 1 to 4 have a channel; the state of the input at the end of each
abbrev readies : List Bool → List Phase → List Output → List ℕ
readies cs phs os =
    map (λ j. count (ready (λ j. get_or (false ∷ cs) j false) (λ j. inp (get_or (Free ∷ phs) j Free) alone) os j))
    (0 ∷ 1 ∷ 2 ∷ 3 ∷ 4 ∷ [])

abbrev joins : List Bool
joins = replicate 4 true

-- an output with its head taken, with its head not taken, with its head taken and a terminator
abbrev full : Output
full = out 5 7 1 true t_none

abbrev fresh : Output
fresh = out 5 7 1 false t_none

abbrev closed : Output
closed = out 5 7 1 true t_end

pub readiness : List (List ℕ × List ℕ)
readiness =
    -- "its channel's input is open or abort", state by state
    (readies joins (replicate 4 Free) (replicate 5 full), 1 ∷ 0 ∷ 0 ∷ 0 ∷ 0 ∷ [])
    ∷ (readies joins (replicate 4 Seek) (replicate 5 full), 1 ∷ 0 ∷ 0 ∷ 0 ∷ 0 ∷ [])
    ∷ (readies joins (replicate 4 (Open Unicast)) (replicate 5 full), 1 ∷ 1 ∷ 1 ∷ 1 ∷ 1 ∷ [])
    ∷ (readies joins (replicate 4 (Wait Handed)) (replicate 5 full), 1 ∷ 0 ∷ 0 ∷ 0 ∷ 0 ∷ [])
    ∷ (readies joins (replicate 4 (Done Passthru got_end)) (replicate 5 full), 1 ∷ 0 ∷ 0 ∷ 0 ∷ 0 ∷ [])
    ∷ (readies joins (replicate 4 (Last Unicast got_abort)) (replicate 5 full), 1 ∷ 0 ∷ 0 ∷ 0 ∷ 0 ∷ [])
    ∷ (readies joins (replicate 4 (Aborted AllRemote)) (replicate 5 full), 1 ∷ 1 ∷ 1 ∷ 1 ∷ 1 ∷ [])
    ∷ (readies joins (replicate 4 (FinAbort SomeLocal got_end)) (replicate 5 full), 1 ∷ 0 ∷ 0 ∷ 0 ∷ 0 ∷ [])
    -- each output by the input at the end of its own channel
    ∷ (readies joins (Open Handed ∷ Free ∷ Free ∷ Free ∷ []) (replicate 5 full), 1 ∷ 1 ∷ 0 ∷ 0 ∷ 0 ∷ [])
    ∷ (readies joins (Seek ∷ Seek ∷ Seek ∷ Aborted SomeLocal ∷ []) (replicate 5 full), 1 ∷ 0 ∷ 0 ∷ 0 ∷ 1 ∷ [])
    -- "Outputs 1 to 4 without a channel are never ready"
    ∷ (readies (replicate 4 false) (replicate 4 (Open Unicast)) (replicate 5 full), 1 ∷ 0 ∷ 0 ∷ 0 ∷ 0 ∷ [])
    ∷ (readies (true ∷ false ∷ true ∷ false ∷ []) (replicate 4 (Open Unicast)) (replicate 5 full), 1 ∷ 1 ∷ 0 ∷ 1 ∷ 0 ∷ [])
    -- "when it is in use, its head is taken"; a terminator there does not matter
    ∷ (readies joins (replicate 4 (Open Unicast)) (replicate 5 no_output), 0 ∷ 0 ∷ 0 ∷ 0 ∷ 0 ∷ [])
    ∷ (readies joins (replicate 4 (Open Unicast)) (replicate 5 fresh), 0 ∷ 0 ∷ 0 ∷ 0 ∷ 0 ∷ [])
    ∷ (readies joins (replicate 4 (Open Unicast)) (replicate 5 closed), 1 ∷ 1 ∷ 1 ∷ 1 ∷ 1 ∷ [])
    ∷ (readies joins (replicate 4 (Open Unicast)) (replicate 5 (shut 5 7 1)), 0 ∷ 0 ∷ 0 ∷ 0 ∷ 0 ∷ [])
    ∷ (readies joins (replicate 4 (Aborted AllRemote)) (full ∷ shut 5 7 1 ∷ full ∷ shut 5 7 1 ∷ fresh ∷ []), 1 ∷ 0 ∷ 1 ∷ 0 ∷ 0 ∷ [])
    ∷ (readies joins (replicate 4 (Open Unicast)) (fresh ∷ full ∷ no_output ∷ fresh ∷ full ∷ []), 0 ∷ 1 ∷ 0 ∷ 0 ∷ 1 ∷ [])
    ∷ []

pub ready_read : map (λ row. row.0) readiness ≡ map (λ row. row.1) readiness
unfolding readiness hears
ready_read = refl

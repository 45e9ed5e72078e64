-- The rules of net-outputs and of the out-queue, typed from document 01: each row is what the definitions compute beside what
-- the document says, written as Shown has it.
use Prim.Native.Nat.{ℕ}
use mathlib.Core.Path.{◌≡◌, refl}
use mathlib.Core.Bool.{Bool, true, false}
use mathlib.Core.List.{List, [], ◌∷◌, ◌++◌, map}
use lib.ListN.{replicate}
use Rattle.model.specs.Types.{Unicast, Passthru, AllRemote, SomeLocal, Handed, got_end, got_abort, t_none, t_end, t_abort, t_keep}
use Rattle.model.specs.Types.{Seek, Open, Wait, Done, Last, Aborted, FinAbort}
use Rattle.model.specs.Types.{Input, Output, OutEntry, InEntry, no_marks, no_input, no_output}
use Rattle.model.specs.Places.{local_output, deliver, channel_output, out_queue}
use Rattle.model.proofs.Shown.{of_input, of_output, of_out_queue, of_in_queue, of_turn, queue, each}
use Rattle.model.proofs.Shown.{inp, out, leaving, arrived, out_q, in_q, alone, first, second, split}

-- ---- net-output 0, with depth D and the in-queue's entries

abbrev own : ℕ → Output → List InEntry → List ℕ
own D o es = of_turn (λ o'. of_output o' ∷ []) of_in_queue (local_output D o (in_q es))

-- entries of other packets, with terminators, and the one that output 0 itself has put there
abbrev other : InEntry
other = arrived 4 6 t_end

abbrev older : InEntry
older = arrived 3 1 t_none

abbrev mine : InEntry
mine = arrived 5 7 t_none

pub locals : List (List ℕ × List ℕ)
locals =
    -- "In use, head not taken: output 0 appends (packet, set, no terminator) to the in-queue if it has room"
    (own 2 (out 5 7 1 false t_none) [], 157110 ∷ queue (570 ∷ []))
    ∷ (own 2 (out 5 7 1 false t_none) (other ∷ []), 157110 ∷ queue (461 ∷ 570 ∷ []))
    ∷ (own 2 (out 5 7 1 false t_none) (older ∷ []), 157110 ∷ queue (310 ∷ 570 ∷ []))
    ∷ (own 3 (out 5 7 1 false t_none) (other ∷ older ∷ []), 157110 ∷ queue (461 ∷ 310 ∷ 570 ∷ []))
    ∷ (own 8 (out 5 7 1 false t_none) (replicate 7 other), 157110 ∷ queue (replicate 7 461 ++ (570 ∷ [])))
    ∷ (own 1 (out 5 7 1 false t_none) (other ∷ []), [])
    ∷ (own 2 (out 5 7 1 false t_none) (other ∷ older ∷ []), [])
    ∷ (own 8 (out 5 7 1 false t_none) (replicate 8 other), [])
    -- the head first, whatever terminator is there
    ∷ (own 2 (out 5 7 1 false t_end) [], 157111 ∷ queue (570 ∷ []))
    ∷ (own 2 (out 5 7 1 false t_abort) (older ∷ []), 157112 ∷ queue (310 ∷ 570 ∷ []))
    ∷ (own 2 (out 5 7 1 false t_keep) (other ∷ []), 157113 ∷ queue (461 ∷ 570 ∷ []))
    ∷ (own 1 (out 5 7 1 false t_end) (older ∷ []), [])
    -- "Head taken with a terminator: if ready, deliver it and become empty."; "To the in-queue: its last entry gets it"
    ∷ (own 2 (out 5 7 1 true t_end) (mine ∷ []), 0 ∷ queue (571 ∷ []))
    ∷ (own 2 (out 5 7 1 true t_abort) (mine ∷ []), 0 ∷ queue (572 ∷ []))
    ∷ (own 2 (out 5 7 1 true t_keep) (mine ∷ []), 0 ∷ queue (573 ∷ []))
    ∷ (own 2 (out 5 7 1 true t_end) (other ∷ mine ∷ []), 0 ∷ queue (461 ∷ 571 ∷ []))
    ∷ (own 3 (out 5 7 1 true t_keep) (older ∷ mine ∷ []), 0 ∷ queue (310 ∷ 573 ∷ []))
    -- "if the queue is empty or that entry has one already, nothing changes."
    ∷ (each (λ h. own 2 (out 5 7 1 true h) []) (t_end ∷ t_abort ∷ t_keep ∷ []), [])
    ∷ (each (λ h. own 2 (out 5 7 1 true h) (arrived 5 7 t_end ∷ [])) (t_end ∷ t_abort ∷ t_keep ∷ []), [])
    ∷ (each (λ h. own 2 (out 5 7 1 true h) (arrived 5 7 t_abort ∷ [])) (t_end ∷ t_abort ∷ t_keep ∷ []), [])
    ∷ (each (λ h. own 2 (out 5 7 1 true h) (older ∷ arrived 5 7 t_keep ∷ [])) (t_end ∷ t_abort ∷ t_keep ∷ []), [])
    -- head taken, no terminator; an empty output
    ∷ (each (own 2 (out 5 7 1 true t_none)) ([] ∷ (mine ∷ []) ∷ (other ∷ mine ∷ []) ∷ (other ∷ []) ∷ []), [])
    ∷ (each (own 2 no_output) ([] ∷ (mine ∷ []) ∷ (other ∷ []) ∷ []), [])
    ∷ []

pub local_read : map (λ row. row.0) locals ≡ map (λ row. row.1) locals
unfolding locals local_output
local_read = refl

-- ---- net-outputs 1 to 4: with a channel or without, and the input at its end

abbrev pub on_in : ℕ → Bool → Output → Input → List ℕ
on_in edition there o y = of_turn (λ o'. of_output o' ∷ []) of_input (channel_output edition there o y)

abbrev on : Bool → Output → Input → List ℕ
on = on_in 1

-- net-inputs that are open or abort; that are neither, nor free; free or one of those
abbrev pub hearing : List Input
hearing =
    inp (Open Unicast) first
    ∷ inp (Open SomeLocal) split
    ∷ inp (Aborted AllRemote) alone
    ∷ inp (Aborted SomeLocal) alone
    ∷ []

abbrev pub busy : List Input
busy =
    inp Seek no_marks
    ∷ inp (Wait Unicast) first
    ∷ inp (Wait SomeLocal) split
    ∷ inp (Done Passthru got_end) second
    ∷ inp (Done AllRemote got_abort) split
    ∷ inp (Last Handed got_abort) alone
    ∷ inp (Last SomeLocal got_end) split
    ∷ inp (FinAbort AllRemote got_end) alone
    ∷ inp (FinAbort SomeLocal got_abort) alone
    ∷ []

abbrev pub deaf : List Input
deaf = no_input ∷ busy

pub remotes : List (List ℕ × List ℕ)
remotes =
    -- "another passes it to its channel's input if that is free, which goes to seek with no tries"
    (on true (out 6 3 1 false t_none) no_input, 163110 ∷ 163000 ∷ 0 ∷ [])
    ∷ (each (on true (out 6 3 1 false t_none)) (busy ++ hearing), [])
    -- the head first, whatever terminator is there
    ∷ (on true (out 6 3 1 false t_end) no_input, 163111 ∷ 163000 ∷ 0 ∷ [])
    ∷ (on true (out 6 3 1 false t_abort) no_input, 163112 ∷ 163000 ∷ 0 ∷ [])
    ∷ (each (on true (out 6 3 1 false t_end)) (busy ++ hearing), [])
    ∷ (each (on true (out 6 3 1 false t_abort)) (busy ++ hearing), [])
    -- "Head taken with a terminator: if ready, deliver it and become empty. Delivery to an input: open to done, abort to
    -- fin-abort."
    ∷ (on true (out 6 3 1 true t_end) (inp (Open Unicast) first), 0 ∷ 457121 ∷ 2 ∷ [])
    ∷ (on true (out 6 3 1 true t_abort) (inp (Open Unicast) first), 0 ∷ 457122 ∷ 2 ∷ [])
    ∷ (on true (out 6 3 1 true t_end) (inp (Open Passthru) second), 0 ∷ 457221 ∷ 4 ∷ [])
    ∷ (on true (out 6 3 1 true t_end) (inp (Open AllRemote) split), 0 ∷ 457321 ∷ 7 ∷ [])
    ∷ (on true (out 6 3 1 true t_abort) (inp (Open AllRemote) split), 0 ∷ 457322 ∷ 7 ∷ [])
    ∷ (on true (out 6 3 1 true t_end) (inp (Open SomeLocal) split), 0 ∷ 457421 ∷ 7 ∷ [])
    ∷ (on true (out 6 3 1 true t_abort) (inp (Open SomeLocal) split), 0 ∷ 457422 ∷ 7 ∷ [])
    ∷ (on true (out 6 3 1 true t_abort) (inp (Open Handed) alone), 0 ∷ 457522 ∷ 1 ∷ [])
    ∷ (on true (out 6 3 1 true t_end) (inp (Aborted AllRemote) alone), 0 ∷ 757321 ∷ 1 ∷ [])
    ∷ (on true (out 6 3 1 true t_abort) (inp (Aborted AllRemote) alone), 0 ∷ 757322 ∷ 1 ∷ [])
    ∷ (on true (out 6 3 1 true t_end) (inp (Aborted SomeLocal) alone), 0 ∷ 757421 ∷ 1 ∷ [])
    ∷ (on true (out 6 3 1 true t_abort) (inp (Aborted SomeLocal) alone), 0 ∷ 757422 ∷ 1 ∷ [])
    -- not ready, no terminator, an empty output
    ∷ (each (on true (out 6 3 1 true t_end)) deaf, [])
    ∷ (each (on true (out 6 3 1 true t_abort)) deaf, [])
    ∷ (each (on true (out 6 3 1 true t_none)) (deaf ++ hearing), [])
    ∷ (each (on true no_output) (deaf ++ hearing), [])
    -- "Outputs 1 to 4 without a channel are never ready and never move."
    ∷ (each (on false (out 6 3 1 false t_none)) (deaf ++ hearing), [])
    ∷ (each (on false (out 6 3 1 true t_end)) (deaf ++ hearing), [])
    ∷ (each (on false (out 6 3 1 true t_abort)) (deaf ++ hearing), [])
    ∷ []

pub remote_read : map (λ row. row.0) remotes ≡ map (λ row. row.1) remotes
unfolding remotes channel_output deliver
remote_read = refl

-- ---- the out-queue, and net-input 0

abbrev from : List OutEntry → Input → List ℕ
from us y = of_turn of_out_queue of_input (out_queue (out_q us) y)

abbrev behind : List OutEntry
behind = leaving 4 1 false ∷ leaving 7 5 false ∷ []

pub fronts : List (List ℕ × List ℕ)
fronts =
    -- an empty place
    (each (from []) (deaf ++ hearing), [])
    -- "Front not started: net-input 0, if free, takes it into seek."
    ∷ (from (leaving 6 3 false ∷ []) no_input, queue (631 ∷ []) ++ (163000 ∷ 0 ∷ []))
    ∷ (from (leaving 6 3 false ∷ behind) no_input, queue (631 ∷ 410 ∷ 750 ∷ []) ++ (163000 ∷ 0 ∷ []))
    ∷ (each (from (leaving 6 3 false ∷ behind)) (busy ++ hearing), [])
    -- "Started: if net-input 0 is open or abort, it receives end as above and the entry leaves."
    ∷ (from (leaving 5 7 true ∷ []) (inp (Open Unicast) first), queue [] ++ (457121 ∷ 2 ∷ []))
    ∷ (from (leaving 5 7 true ∷ behind) (inp (Open Passthru) second), queue (410 ∷ 750 ∷ []) ++ (457221 ∷ 4 ∷ []))
    ∷ (from (leaving 5 7 true ∷ behind) (inp (Open AllRemote) split), queue (410 ∷ 750 ∷ []) ++ (457321 ∷ 7 ∷ []))
    ∷ (from (leaving 5 7 true ∷ behind) (inp (Open SomeLocal) split), queue (410 ∷ 750 ∷ []) ++ (457421 ∷ 7 ∷ []))
    ∷ (
      from (leaving 5 7 true ∷ replicate 7 (leaving 4 1 false)) (inp (Open Handed) alone),
      queue (replicate 7 410) ++ (457521 ∷ 1 ∷ []),
    )
    ∷ (from (leaving 5 7 true ∷ []) (inp (Aborted AllRemote) alone), queue [] ++ (757321 ∷ 1 ∷ []))
    ∷ (from (leaving 5 7 true ∷ behind) (inp (Aborted SomeLocal) alone), queue (410 ∷ 750 ∷ []) ++ (757421 ∷ 1 ∷ []))
    ∷ (each (from (leaving 5 7 true ∷ behind)) deaf, [])
    ∷ []

pub front_read : map (λ row. row.0) fronts ≡ map (λ row. row.1) fronts
unfolding fronts out_queue
front_read = refl

-- The operator and the timeout, typed from document 01: each row is what the definitions compute beside what the document says,
-- written as Shown has it.
use Prim.Native.Nat.{ℕ}
use mathlib.Core.Path.{◌≡◌, refl}
use mathlib.Core.Bool.{Bool, true, false}
use mathlib.Core.List.{List, [], ◌∷◌, ◌++◌, map}
use lib.ListN.{replicate}
use Rattle.base.specs.Over.{over}
use Rattle.sets.specs.Sets.{has, minus}
use Rattle.model.specs.Types.{Unicast, Passthru, AllRemote, SomeLocal, Handed, got_end, got_abort, t_none, t_end, t_abort, t_keep}
use Rattle.model.specs.Types.{Phase, Seek, Open, Wait, Done, Last, Aborted, FinAbort}
use Rattle.model.specs.Types.{Input, Output, OutEntry, InEntry, no_marks, no_input, no_output}
use Rattle.model.specs.NetInput.{give}
use Rattle.model.specs.Places.{Work, Rest, Cleared, Service, operate, operator, cut_at, timeout}
use Rattle.model.proofs.Shown.{of_input, of_output, of_out_queue, of_in_queue, of_turn, queue, each}
use Rattle.model.proofs.Shown.{inp, out, leaving, arrived, out_q, in_q, alone, split, five}

-- ---- the operator of site s

-- nothing, or the answer: 1, or 2 with the packet; then the in-queue and the out-queue
abbrev of_work : Work → List ℕ
of_work Rest = []
of_work (Cleared iq oq) = 1 ∷ of_in_queue iq ++ of_out_queue oq
of_work (Service iq oq q) = 2 ∷ q ∷ of_in_queue iq ++ of_out_queue oq

abbrev work : ℕ → ℕ → List InEntry → List OutEntry → List ℕ
work D s es us = of_work (operator D s (in_q es) (out_q us))

-- the entry behind the in-queue's front; what the out-queue has already
abbrev next : InEntry
next = arrived 6 1 t_end

abbrev going : OutEntry
going = leaving 4 7 true

abbrev later : OutEntry
later = leaving 7 2 false

pub works : List (List ℕ × List ℕ)
works =
    -- "Front in-queue entry with a terminator"; "No terminator: nothing."
    (work 2 0 [] [], [])
    ∷ (work 2 0 [] (going ∷ []), [])
    ∷ (work 2 0 (arrived 5 7 t_none ∷ []) [], [])
    ∷ (work 2 0 (arrived 5 1 t_none ∷ []) (going ∷ []), [])
    ∷ (work 2 1 (arrived 5 1 t_none ∷ next ∷ []) [], [])
    -- "Abort: discard."
    ∷ (work 2 0 (arrived 5 7 t_abort ∷ []) [], 1 ∷ queue [] ++ queue [])
    ∷ (work 2 0 (arrived 5 1 t_abort ∷ next ∷ []) (going ∷ []), 1 ∷ queue (611 ∷ []) ++ queue (471 ∷ []))
    ∷ (work 2 0 (arrived 5 6 t_abort ∷ []) (going ∷ later ∷ []), 1 ∷ queue [] ++ queue (471 ∷ 720 ∷ []))
    -- "Keep-local: service s if in X, then discard."
    ∷ (work 2 0 (arrived 5 7 t_keep ∷ []) [], 2 ∷ 5 ∷ queue [] ++ queue [])
    ∷ (work 2 0 (arrived 5 1 t_keep ∷ []) (going ∷ []), 2 ∷ 5 ∷ queue [] ++ queue (471 ∷ []))
    ∷ (work 2 0 (arrived 5 6 t_keep ∷ []) [], 1 ∷ queue [] ++ queue [])
    ∷ (work 2 2 (arrived 5 7 t_keep ∷ next ∷ []) (going ∷ later ∷ []), 2 ∷ 5 ∷ queue (611 ∷ []) ++ queue (471 ∷ 720 ∷ []))
    ∷ (work 2 2 (arrived 5 3 t_keep ∷ next ∷ []) (going ∷ later ∷ []), 1 ∷ queue (611 ∷ []) ++ queue (471 ∷ 720 ∷ []))
    -- "End: service s if in X; the rest, if any, goes to the back of the out-queue under the same packet number"
    ∷ (work 2 0 (arrived 5 7 t_end ∷ []) [], 2 ∷ 5 ∷ queue [] ++ queue (560 ∷ []))
    ∷ (work 2 1 (arrived 5 7 t_end ∷ []) [], 2 ∷ 5 ∷ queue [] ++ queue (550 ∷ []))
    ∷ (work 2 2 (arrived 5 7 t_end ∷ []) (later ∷ []), 2 ∷ 5 ∷ queue [] ++ queue (720 ∷ 530 ∷ []))
    ∷ (
      work 3 1 (arrived 5 3 t_end ∷ next ∷ []) (going ∷ later ∷ []),
      2 ∷ 5 ∷ queue (611 ∷ []) ++ queue (471 ∷ 720 ∷ 510 ∷ []),
    )
    ∷ (work 8 0 (arrived 5 5 t_end ∷ []) (replicate 7 later), 2 ∷ 5 ∷ queue [] ++ queue (replicate 7 720 ++ (540 ∷ [])))
    -- s not in X: the whole of it is the rest
    ∷ (work 2 0 (arrived 5 6 t_end ∷ []) [], 1 ∷ queue [] ++ queue (560 ∷ []))
    ∷ (work 2 2 (arrived 5 3 t_end ∷ next ∷ []) (going ∷ []), 1 ∷ queue (611 ∷ []) ++ queue (471 ∷ 530 ∷ []))
    -- "and if that is full nothing at all happens"
    ∷ (work 1 0 (arrived 5 7 t_end ∷ []) (going ∷ []), [])
    ∷ (work 2 1 (arrived 5 3 t_end ∷ next ∷ []) (going ∷ later ∷ []), [])
    ∷ (work 1 0 (arrived 5 6 t_end ∷ []) (later ∷ []), [])
    ∷ (work 8 2 (arrived 5 7 t_end ∷ []) (replicate 8 later), [])
    -- without a rest, full or not
    ∷ (work 2 0 (arrived 5 1 t_end ∷ []) [], 2 ∷ 5 ∷ queue [] ++ queue [])
    ∷ (work 1 0 (arrived 5 1 t_end ∷ []) (going ∷ []), 2 ∷ 5 ∷ queue [] ++ queue (471 ∷ []))
    ∷ (work 2 2 (arrived 5 4 t_end ∷ next ∷ []) (going ∷ later ∷ []), 2 ∷ 5 ∷ queue (611 ∷ []) ++ queue (471 ∷ 720 ∷ []))
    ∷ (
      work 8 1 (arrived 5 2 t_end ∷ replicate 7 next) (replicate 8 later),
      2 ∷ 5 ∷ queue (replicate 7 611) ++ queue (replicate 8 720),
    )
    ∷ []

pub worked : map (λ row. row.0) works ≡ map (λ row. row.1) works
unfolding works operate has minus
worked = refl

-- ---- the timeout: input 1 feeds output 0

-- Outputs 0, 1 and 2 with packet 5, fed by input 1, output 2's head not taken; output 3 is input 3's; output 4 waits to pass
-- on packet 4, which input 1 had before, and its abort.
abbrev pub outs : Output → List Output
outs zeroth = zeroth ∷ out 5 2 1 true t_none ∷ out 5 4 1 false t_none ∷ out 6 4 3 true t_none ∷ out 4 2 1 false t_abort ∷ []

-- output 0 with its head taken and no terminator; the in-queue's entry of the same packet, which lacks one
abbrev pub zeroth : Output
zeroth = out 5 7 1 true t_none

abbrev pub lacking : InEntry
lacking = arrived 5 7 t_none

abbrev late : List InEntry → List Output → Input → List ℕ
late es os y = of_turn of_input (map of_output) (timeout 1 (in_q es) os y)

abbrev cut : Phase → List Bool → List ℕ
cut ph bs = late (lacking ∷ []) (outs zeroth) (inp ph bs)

-- outputs 1 and 2 with abort, the others as they were
abbrev severed : List ℕ
severed = 157110 ∷ 152112 ∷ 154102 ∷ 164310 ∷ 142102 ∷ []

-- connected to outputs 0 and 1
abbrev pair : List Bool
pair = true ∷ true ∷ false ∷ false ∷ false ∷ []

-- inputs that a timeout cuts off: in each of the four states, with each of the two connections
abbrev pub open_to_it : List Input
open_to_it =
    inp (Open AllRemote) split
    ∷ inp (Open SomeLocal) split
    ∷ inp (Wait AllRemote) split
    ∷ inp (Wait SomeLocal) split
    ∷ inp (Done AllRemote got_end) split
    ∷ inp (Done SomeLocal got_abort) split
    ∷ inp (Last AllRemote got_abort) split
    ∷ inp (Last SomeLocal got_end) split
    ∷ []

pub cuts : List (List ℕ × List ℕ)
cuts =
    -- "the input feeding it is open, wait, done or last with connection 3 or 4: its remote outputs get abort and are disconnected;
    -- it goes to abort from open or wait"
    (cut (Open AllRemote) split, 657320 ∷ 1 ∷ severed)
    ∷ (cut (Open SomeLocal) split, 657420 ∷ 1 ∷ severed)
    ∷ (cut (Wait AllRemote) split, 657320 ∷ 1 ∷ severed)
    ∷ (cut (Wait SomeLocal) split, 657420 ∷ 1 ∷ severed)
    -- "to fin-abort from done or last"
    ∷ (cut (Done AllRemote got_end) split, 757321 ∷ 1 ∷ severed)
    ∷ (cut (Done AllRemote got_abort) split, 757322 ∷ 1 ∷ severed)
    ∷ (cut (Done SomeLocal got_end) split, 757421 ∷ 1 ∷ severed)
    ∷ (cut (Done SomeLocal got_abort) split, 757422 ∷ 1 ∷ severed)
    ∷ (cut (Last AllRemote got_end) split, 757321 ∷ 1 ∷ severed)
    ∷ (cut (Last AllRemote got_abort) split, 757322 ∷ 1 ∷ severed)
    ∷ (cut (Last SomeLocal got_end) split, 757421 ∷ 1 ∷ severed)
    ∷ (cut (Last SomeLocal got_abort) split, 757422 ∷ 1 ∷ severed)
    -- only those remote outputs that are connected: none, output 1, all four
    ∷ (cut (Open SomeLocal) alone, 657420 ∷ 1 ∷ 157110 ∷ 152110 ∷ 154100 ∷ 164310 ∷ 142102 ∷ [])
    ∷ (cut (Wait AllRemote) pair, 657320 ∷ 1 ∷ 157110 ∷ 152112 ∷ 154100 ∷ 164310 ∷ 142102 ∷ [])
    ∷ (
      late (lacking ∷ []) (replicate 5 zeroth) (inp (Last SomeLocal got_end) five),
      757421 ∷ 1 ∷ 157110 ∷ 157112 ∷ 157112 ∷ 157112 ∷ 157112 ∷ [],
    )
    -- "Otherwise ignored.": connections 1, 2 and 5, from each of the four states
    ∷ (each (λ c. cut (Open c) split) (Unicast ∷ Passthru ∷ Handed ∷ []), [])
    ∷ (each (λ c. cut (Wait c) split) (Unicast ∷ Passthru ∷ Handed ∷ []), [])
    ∷ (each (λ c. cut (Done c got_end) split) (Unicast ∷ Passthru ∷ Handed ∷ []), [])
    ∷ (each (λ c. cut (Done c got_abort) alone) (Unicast ∷ Passthru ∷ Handed ∷ []), [])
    ∷ (each (λ c. cut (Last c got_end) alone) (Unicast ∷ Passthru ∷ Handed ∷ []), [])
    ∷ (each (λ c. cut (Last c got_abort) split) (Unicast ∷ Passthru ∷ Handed ∷ []), [])
    -- free, seek, abort, fin-abort
    ∷ (late (lacking ∷ []) (outs zeroth) no_input, [])
    ∷ (cut Seek no_marks, [])
    ∷ (each (λ c. cut (Aborted c) alone) (AllRemote ∷ SomeLocal ∷ []), [])
    ∷ (each (λ c. cut (FinAbort c got_end) alone) (AllRemote ∷ SomeLocal ∷ []), [])
    ∷ (each (λ c. cut (FinAbort c got_abort) alone) (AllRemote ∷ SomeLocal ∷ []), [])
    -- "If the last in-queue entry lacks a terminator": an empty in-queue; one already there; the last, not the front
    ∷ (each (late [] (outs zeroth)) open_to_it, [])
    ∷ (each (late (arrived 5 7 t_end ∷ []) (outs zeroth)) open_to_it, [])
    ∷ (each (late (arrived 5 7 t_abort ∷ []) (outs zeroth)) open_to_it, [])
    ∷ (each (late (arrived 5 7 t_keep ∷ []) (outs zeroth)) open_to_it, [])
    ∷ (each (late (arrived 4 1 t_none ∷ arrived 5 7 t_end ∷ []) (outs zeroth)) open_to_it, [])
    ∷ (late (next ∷ lacking ∷ []) (outs zeroth) (inp (Open SomeLocal) split), 657420 ∷ 1 ∷ severed)
    -- "output 0 is in use with head taken and no terminator" (of these, in range lets only the head be lacking)
    ∷ (each (late (lacking ∷ []) (outs no_output)) open_to_it, [])
    ∷ (each (late (lacking ∷ []) (outs (out 5 7 1 false t_none))) open_to_it, [])
    ∷ (each (late (lacking ∷ []) (outs (out 5 7 1 true t_end))) open_to_it, [])
    ∷ (each (late (lacking ∷ []) (outs (out 5 7 1 true t_abort))) open_to_it, [])
    ∷ (each (late (lacking ∷ []) (outs (out 5 7 1 true t_keep))) open_to_it, [])
    ∷ []

pub cut_off : map (λ row. row.0) cuts ≡ map (λ row. row.1) cuts
unfolding cuts cut_at give over
cut_off = refl

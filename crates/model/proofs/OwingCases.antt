-- What a place owes, place by place, and the room that a book needs, typed from document 01: each row is what the
-- definitions compute beside what the document says.
use Prim.Native.Nat.{ℕ}
use mathlib.Core.Path.{◌≡◌, refl}
use mathlib.Core.Bool.{true, false}
use mathlib.Core.List.{List, [], ◌∷◌, ◌++◌, map}
use lib.ListN.{replicate}
use Rattle.base.specs.Sums.{sum, isum}
use Rattle.sets.specs.Sets.{has, size_in}
use Rattle.model.specs.Types.{Unicast, Passthru, AllRemote, SomeLocal, Handed, got_end, got_abort}
use Rattle.model.specs.Types.{Terminator, t_none, t_end, t_abort, t_keep}
use Rattle.model.specs.Types.{Phase, Seek, Open, Wait, Done, Last, Aborted, FinAbort}
use Rattle.model.specs.Types.{Site, Run as StoredRun, no_input, no_output, no_site, set_out, set_queue}
use Rattle.model.specs.Owing.{owes_as, owes_input, owes_output, owes_out_entry, owes_in_entry, owed}
use Rattle.model.specs.Owing.{pairs_as, pairs_input, pairs_output, pairs_out_entry, pairs_in_entry, owed_pairs}
use Rattle.model.specs.Runs.{book_room}
use Rattle.model.proofs.Shown.{inp, out, shut, leaving, arrived, out_q, in_q, alone, first, second}
use Rattle.model.proofs.Made.{net}

-- a place at site s with packet 5 and set X: what it owes to the sites 0 to 3, of packet 5, then of packet 6
abbrev owes : Terminator → ℕ → ℕ → List ℕ
owes h s X =
    map (λ t. owes_as h s 5 t 5 X) (0 ∷ 1 ∷ 2 ∷ 3 ∷ []) ++ map (λ t. owes_as h s 6 t 5 X) (0 ∷ 1 ∷ 2 ∷ 3 ∷ [])

abbrev nothing : List ℕ
nothing = replicate 4 0

-- a net-input of site 1 in each state from seek on, done, last and fin-abort with end and with abort
abbrev states : List Phase
states =
    Seek
    ∷ Open Handed
    ∷ Wait SomeLocal
    ∷ Done Unicast got_end
    ∷ Done SomeLocal got_abort
    ∷ Last Passthru got_end
    ∷ Last AllRemote got_abort
    ∷ Aborted SomeLocal
    ∷ FinAbort AllRemote got_end
    ∷ FinAbort SomeLocal got_abort
    ∷ []

abbrev terminators : List Terminator
terminators = t_none ∷ t_end ∷ t_abort ∷ t_keep ∷ []

-- a site with a place of every kind, all of packet 5; at site 0 and at site 1
abbrev crowded : Site
crowded =
    record {
      inputs = inp (Done Passthru got_end) second ∷ inp (Open Unicast) first ∷ replicate 3 no_input;
      outputs =
          out 5 3 2 true t_keep
          ∷ out 5 7 1 true t_none
          ∷ out 5 7 0 true t_none
          ∷ out 5 4 2 false t_end
          ∷ out 5 7 3 true t_abort
          ∷ no_output
          ∷ [];
      outgoing = out_q (leaving 5 2 true ∷ leaving 5 5 false ∷ []);
      incoming = in_q (arrived 5 3 t_end ∷ arrived 5 2 t_keep ∷ arrived 5 7 t_abort ∷ arrived 5 7 t_none ∷ []) ∷ in_q [] ∷ [];
    }

-- the split output's end for {0}; in its in-queue an end for {0} and what keep-local leaves of {1, 2}
abbrev parted : Site
parted = set_queue (set_out no_site 5 (out 5 1 0 true t_end)) 1 (in_q (arrived 5 1 t_end ∷ arrived 5 6 t_keep ∷ []))

pub debts : List (List ℕ × List ℕ)
debts =
    -- "whose terminator is end owes its set"
    (owes t_end 1 3, 1 ∷ 1 ∷ 0 ∷ 0 ∷ nothing)
    ∷ (owes t_end 2 3, 1 ∷ 1 ∷ 0 ∷ 0 ∷ nothing)
    ∷ (owes t_end 0 12, 0 ∷ 0 ∷ 1 ∷ 1 ∷ nothing)
    ∷ (map (pairs_as t_end 1) (1 ∷ 3 ∷ 7 ∷ 12 ∷ 65535 ∷ []), 1 ∷ 2 ∷ 3 ∷ 2 ∷ 16 ∷ [])
    -- "with keep-local it owes its own site if in the set"
    ∷ (owes t_keep 0 3, 1 ∷ 0 ∷ 0 ∷ 0 ∷ nothing)
    ∷ (owes t_keep 1 3, 0 ∷ 1 ∷ 0 ∷ 0 ∷ nothing)
    ∷ (owes t_keep 2 3, 0 ∷ 0 ∷ 0 ∷ 0 ∷ nothing)
    ∷ (map (pairs_as t_keep 1) (1 ∷ 2 ∷ 3 ∷ 7 ∷ 12 ∷ 65535 ∷ []), 0 ∷ 1 ∷ 1 ∷ 1 ∷ 0 ∷ 1 ∷ [])
    -- "A place with abort or no terminator owes nothing."
    ∷ (owes t_abort 1 3, nothing ++ nothing)
    ∷ (owes t_none 1 3, nothing ++ nothing)
    ∷ (map (pairs_as t_abort 1) (1 ∷ 2 ∷ 7 ∷ []) ++ map (pairs_as t_none 1) (1 ∷ 2 ∷ 7 ∷ []), replicate 6 0)
    -- "A net-input, net-output or in-queue entry": packet 5, of which a net-input here has the set {0,1,2}
    ∷ (map (λ ph. owes_input 1 5 2 (inp ph alone)) states, 0 ∷ 0 ∷ 0 ∷ 1 ∷ 0 ∷ 1 ∷ 0 ∷ 0 ∷ 1 ∷ 0 ∷ [])
    ∷ (map (λ ph. owes_input 1 5 3 (inp ph alone)) states, replicate 10 0)
    ∷ (map (λ ph. pairs_input 1 (inp ph alone)) states, 0 ∷ 0 ∷ 0 ∷ 3 ∷ 0 ∷ 3 ∷ 0 ∷ 0 ∷ 3 ∷ 0 ∷ [])
    ∷ (owes_input 1 0 2 no_input ∷ pairs_input 1 no_input ∷ owes_output 1 0 2 no_output ∷ pairs_output 1 no_output ∷ [], replicate 4 0)
    ∷ (map (λ h. owes_output 1 5 1 (out 5 3 0 true h)) terminators, 0 ∷ 1 ∷ 0 ∷ 1 ∷ [])
    ∷ (map (λ h. owes_output 1 5 0 (out 5 3 0 false h)) terminators, 0 ∷ 1 ∷ 0 ∷ 0 ∷ [])
    ∷ (map (λ h. pairs_output 1 (out 5 3 0 true h)) terminators, 0 ∷ 2 ∷ 0 ∷ 1 ∷ [])
    -- L6: a closing output "owes nothing"
    ∷ (owes_output 1 5 1 (shut 5 3 0) ∷ owes_output 1 5 0 (shut 5 3 0) ∷ pairs_output 1 (shut 5 3 0) ∷ [], replicate 3 0)
    ∷ (map (λ h. owes_in_entry 1 5 1 (arrived 5 3 h)) terminators, 0 ∷ 1 ∷ 0 ∷ 1 ∷ [])
    ∷ (map (λ h. owes_in_entry 1 5 0 (arrived 5 3 h)) terminators, 0 ∷ 1 ∷ 0 ∷ 0 ∷ [])
    ∷ (map (λ h. pairs_in_entry 2 (arrived 5 3 h)) terminators, 0 ∷ 2 ∷ 0 ∷ 0 ∷ [])
    -- "An out-queue entry owes its set.", started or not
    ∷ (map (λ b. owes_out_entry 1 5 2 (leaving 5 6 b)) (false ∷ true ∷ []), 1 ∷ 1 ∷ [])
    ∷ (map (λ b. owes_out_entry 1 5 0 (leaving 5 6 b)) (false ∷ true ∷ []), 0 ∷ 0 ∷ [])
    ∷ (map (λ b. owes_out_entry 1 6 2 (leaving 5 6 b)) (false ∷ true ∷ []), 0 ∷ 0 ∷ [])
    ∷ (map (λ b. pairs_out_entry 1 (leaving 5 6 b)) (false ∷ true ∷ []), 2 ∷ 2 ∷ [])
    -- all places of two sites: packet 5 to the sites 0, 1, 2, 3, packet 6 to the same
    ∷ (map (owed (crowded ∷ crowded ∷ []) 5) (0 ∷ 1 ∷ 2 ∷ 3 ∷ []), 7 ∷ 8 ∷ 6 ∷ 0 ∷ [])
    ∷ (map (owed (crowded ∷ crowded ∷ []) 6) (0 ∷ 1 ∷ 2 ∷ 3 ∷ []), nothing)
    -- L10: the split output and its in-queue owe as the others do
    ∷ (map (owed (parted ∷ parted ∷ []) 5) (0 ∷ 1 ∷ 2 ∷ 3 ∷ []), 4 ∷ 1 ∷ 0 ∷ 0 ∷ [])
    ∷ (owed_pairs (parted ∷ []) ∷ owed_pairs (parted ∷ parted ∷ []) ∷ [], 2 ∷ 5 ∷ [])
    -- "the owed pairs counted over the final state"
    ∷ (owed_pairs (crowded ∷ []) ∷ owed_pairs (crowded ∷ crowded ∷ []) ∷ [], 10 ∷ 21 ∷ [])
    ∷ []

pub owed_read : map (λ row. row.0) debts ≡ map (λ row. row.1) debts
unfolding debts owed owed_pairs sum isum has size_in
owed_read = refl

-- ---- the book

-- a run with N sends, and the sets of what stands in its list of sends
abbrev run_of : ℕ → List ℕ → StoredRun
run_of N Xs =
    record {
      network = net 16 1 1 [] [];
      seed = 1;
      draws = 9;
      count = N;
      sends = map (λ X. record { set = X; draw = 3; site = 1 }) Xs;
    }

pub rooms : List (ℕ × ℕ)
rooms =
    -- "4 times the summed sizes of the stored sends' sets"
    (book_room (run_of 0 []), 0)
    ∷ (book_room (run_of 1 (1 ∷ [])), 4)
    ∷ (book_room (run_of 1 (7 ∷ [])), 12)
    ∷ (book_room (run_of 1 (65535 ∷ [])), 64)
    ∷ (book_room (run_of 2 (3 ∷ 3 ∷ [])), 16)
    ∷ (book_room (run_of 3 (7 ∷ 2 ∷ 5 ∷ [])), 24)
    -- "Room beyond .. N sends .. is not looked at"
    ∷ (book_room (run_of 2 (7 ∷ 2 ∷ 5 ∷ [])), 16)
    ∷ (book_room (run_of 0 (7 ∷ 2 ∷ 5 ∷ [])), 0)
    ∷ []

pub rooms_read : map (λ row. row.0) rooms ≡ map (λ row. row.1) rooms
unfolding rooms sum has size_in
rooms_read = refl

-- Document 01's numbers, typed from it: of the enums, and of the answers, with packet, site and accepted number that are not 0 and
-- differ.
use Prim.Native.Nat.{ℕ}
use mathlib.Core.Path.{◌≡◌, refl}
use mathlib.Core.List.{List, [], ◌∷◌, map}
use Rattle.types.specs.Names.{Unicast, Passthru, AllRemote, SomeLocal, Handed, Branch, got_end, got_abort, t_none, t_end, t_abort, t_keep}
use Rattle.types.specs.Names.{Free, Seek, Open, Wait, Done, Last, Aborted, FinAbort}
use Rattle.types.specs.Names.{Accepted, SendRefused, Nothing, Changed, Serviced, RunRefused}
use Rattle.types.specs.Numbers.{connection_number, received_number, terminator_number, state_number, connection_of}
use Rattle.types.specs.Numbers.{sent_numbers, ran_numbers, sent_refusal, sent_packet, answer_of, ran_packet, ran_site}

pub rows : List (List ℕ × List ℕ)
rows =
    -- "connection (0 none, 1 unicast, 2 passthru, 3 all-remote, 4 some-local, 5 handed)"
    -- "That split is connection 6"
    (map connection_number (Unicast ∷ Passthru ∷ AllRemote ∷ SomeLocal ∷ Handed ∷ Branch ∷ []), 1 ∷ 2 ∷ 3 ∷ 4 ∷ 5 ∷ 6 ∷ [])
    ∷ (map connection_of (Free ∷ Seek ∷ Open Handed ∷ FinAbort AllRemote got_end ∷ []), 0 ∷ 0 ∷ 5 ∷ 3 ∷ [])
    -- "terminator (0 none, 1 end, 2 abort)"; "(0 to 2, or 3 keep-local)"
    ∷ (map received_number (got_end ∷ got_abort ∷ []), 1 ∷ 2 ∷ [])
    ∷ (map terminator_number (t_none ∷ t_end ∷ t_abort ∷ t_keep ∷ []), 0 ∷ 1 ∷ 2 ∷ 3 ∷ [])
    -- "state number (0 free, 1 seek, 2 open, 3 wait, 4 done, 5 last, 6 abort, 7 fin-abort)"
    ∷ (map state_number (Free ∷ Seek ∷ Open Handed ∷ Wait Handed ∷ []), 0 ∷ 1 ∷ 2 ∷ 3 ∷ [])
    ∷ (map state_number (Done Handed got_end ∷ Last Handed got_end ∷ Aborted SomeLocal ∷ FinAbort SomeLocal got_end ∷ []), 4 ∷ 5 ∷ 6 ∷ 7 ∷ [])
    -- SEND: "The answer is the packet number."; "A refusal's other numbers are zero."
    ∷ (sent_numbers (Accepted 3), 0 ∷ 3 ∷ [])
    ∷ (sent_numbers (SendRefused 11), 11 ∷ 0 ∷ [])
    ∷ (sent_refusal (Accepted 3) ∷ sent_packet (Accepted 3) ∷ sent_refusal (SendRefused 11) ∷ [], 0 ∷ 3 ∷ 11 ∷ [])
    -- RUN: "The answer is 2 with packet and site where the operator serviced, else 1 .., else 0."
    -- L7: the set of outputs in the way, {1, 2} here and none, with 0 and with 1
    ∷ (ran_numbers Nothing 6, 0 ∷ 0 ∷ 0 ∷ 0 ∷ 6 ∷ [])
    ∷ (ran_numbers Nothing 0, 0 ∷ 0 ∷ 0 ∷ 0 ∷ 0 ∷ [])
    ∷ (ran_numbers Changed 6, 0 ∷ 1 ∷ 0 ∷ 0 ∷ 6 ∷ [])
    ∷ (ran_numbers Changed 0, 0 ∷ 1 ∷ 0 ∷ 0 ∷ 0 ∷ [])
    ∷ (ran_numbers (Serviced 4 1) 0, 0 ∷ 2 ∷ 4 ∷ 1 ∷ 0 ∷ [])
    ∷ (ran_numbers (RunRefused 13) 0, 13 ∷ 0 ∷ 0 ∷ 0 ∷ 0 ∷ [])
    ∷ (answer_of (Serviced 4 1) ∷ ran_packet (Serviced 4 1) ∷ ran_site (Serviced 4 1) ∷ [], 2 ∷ 4 ∷ 1 ∷ [])
    ∷ []

pub numbered : map (λ row. row.0) rows ≡ map (λ row. row.1) rows
unfolding rows
numbered = refl

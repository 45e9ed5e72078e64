-- Document 01's number for each case of an enum, and its numbers for each answer.
use Rattle.std.specs.Prelude.{ℕ, List, [], ◌∷◌, get_or}
use Rattle.types.specs.Names.{Connection, Unicast, Passthru, AllRemote, SomeLocal, Handed, Branch, Received, got_end, got_abort}
use Rattle.types.specs.Names.{Terminator, t_none, t_end, t_abort, t_keep, Phase, Free, Seek, Open, Wait, Done, Last, Aborted, FinAbort}
use Rattle.types.specs.Names.{Sent, Accepted, SendRefused, Ran, Nothing, Changed, Serviced, RunRefused}

-- "connection (0 none, 1 unicast, 2 passthru, 3 all-remote, 4 some-local, 5 handed)"; L10: "That split is connection 6"
abbrev pub connection_number : Connection → ℕ
connection_number Unicast = 1
connection_number Passthru = 2
connection_number AllRemote = 3
connection_number SomeLocal = 4
connection_number Handed = 5
connection_number Branch = 6

-- "terminator (0 none, 1 end, 2 abort)" of a net-input
abbrev pub received_number : Received → ℕ
received_number got_end = 1
received_number got_abort = 2

-- "terminator (0 to 2, or 3 keep-local)" of an output or an in-queue entry
abbrev pub terminator_number : Terminator → ℕ
terminator_number t_none = 0
terminator_number t_end = 1
terminator_number t_abort = 2
terminator_number t_keep = 3

-- "state number (0 free, 1 seek, 2 open, 3 wait, 4 done, 5 last, 6 abort, 7 fin-abort)"
abbrev pub state_number : Phase → ℕ
state_number Free = 0
state_number Seek = 1
state_number (Open c) = 2
state_number (Wait c) = 3
state_number (Done c r) = 4
state_number (Last c r) = 5
state_number (Aborted c) = 6
state_number (FinAbort c r) = 7

-- a net-input's connection, as a number
abbrev pub connection_of : Phase → ℕ
connection_of Free = 0
connection_of Seek = 0
connection_of (Open c) = connection_number c
connection_of (Wait c) = connection_number c
connection_of (Done c r) = connection_number c
connection_of (Last c r) = connection_number c
connection_of (Aborted c) = connection_number c
connection_of (FinAbort c r) = connection_number c

-- SEND: the refusal number, the packet. "A refusal's other numbers are zero."
abbrev pub sent_numbers : Sent → List ℕ
sent_numbers (Accepted q) = 0 ∷ q ∷ []
sent_numbers (SendRefused f) = f ∷ 0 ∷ []

-- RUN: the refusal number, the answer, packet and site. "The answer is 2 with packet and site where the operator serviced,
-- else 1 if anything in the state changed, else 0." L7: last "the set of outputs whose emptying would each, alone, have let this
-- packet connect", which a service and a refusal have not
abbrev pub ran_numbers : Ran → ℕ → List ℕ
ran_numbers Nothing B = 0 ∷ 0 ∷ 0 ∷ 0 ∷ B ∷ []
ran_numbers Changed B = 0 ∷ 1 ∷ 0 ∷ 0 ∷ B ∷ []
ran_numbers (Serviced q s) B = 0 ∷ 2 ∷ q ∷ s ∷ 0 ∷ []
ran_numbers (RunRefused f) B = f ∷ 0 ∷ 0 ∷ 0 ∷ 0 ∷ []

-- What the promises read of an answer: of SEND the refusal (0 if it is accepted) and the packet, of RUN the answer 0, 1
-- or 2, the packet and the site, which its set does not change
abbrev pub sent_refusal : Sent → ℕ
sent_refusal w = get_or (sent_numbers w) 0 0

abbrev pub sent_packet : Sent → ℕ
sent_packet w = get_or (sent_numbers w) 1 0

abbrev pub answer_of : Ran → ℕ
answer_of w = get_or (ran_numbers w 0) 1 0

abbrev pub ran_packet : Ran → ℕ
ran_packet w = get_or (ran_numbers w 0) 2 0

abbrev pub ran_site : Ran → ℕ
ran_site w = get_or (ran_numbers w 0) 3 0

-- How the tables of rules write a place: the fields that document 01 lists of it, in the document's order, a digit each (every
-- field here is below 10); 0 for an empty place. Sets of outputs are written as sets of sites are: bit j is output j.
use Prim.Native.Nat.{ℕ, ◌+◌, ◌*◌}
use mathlib.Core.Bool.{Bool, true, false}
use mathlib.Core.List.{List, [], ◌∷◌, ◌++◌, map}
use lib.ListN.{replicate, take, length}
use Rattle.base.specs.Sizes.{queue_room}
use Rattle.base.specs.Bools.{count}
use Rattle.model.specs.Types.{Phase, Free, Seek, Open, Wait, Done, Last, Aborted, FinAbort, Terminator, t_none}
use Rattle.model.specs.Types.{Input, Output, OutEntry, InEntry, OutQueue, InQueue, no_out_entry, no_in_entry}
use Rattle.types.specs.Numbers.{state_number, connection_of, received_number, terminator_number}
use Rattle.model.specs.NetInput.{Turn, Stay, To}

-- digits, the first one highest, behind the number k; bits, the first one lowest
abbrev digits_after : ℕ → List ℕ → ℕ
digits_after k [] = k
digits_after k (m ∷ ms) = digits_after (10 * k + m) ms

abbrev bits : List Bool → ℕ
bits [] = 0
bits (b ∷ bs) = count b + 2 * bits bs

-- a net-input's "terminator (0 none, 1 end, 2 abort)"
abbrev received_of : Phase → ℕ
received_of Free = 0
received_of Seek = 0
received_of (Open c) = 0
received_of (Wait c) = 0
received_of (Done c r) = received_number r
received_of (Last c r) = received_number r
received_of (Aborted c) = 0
received_of (FinAbort c r) = received_number r

-- a net-input: state number, packet, set, connection, tries, terminator; then its connected outputs
abbrev pub of_input : Input → List ℕ
of_input y =
    digits_after (state_number y.phase)
    (y.packet ∷ y.set ∷ connection_of y.phase ∷ y.tries ∷ received_of y.phase ∷ [])
    ∷ bits y.outputs
    ∷ []

-- a net-output: in use (2 more for the mark closing), packet, set, input that feeds it, head taken, terminator
abbrev pub of_output : Output → ℕ
of_output o =
    digits_after (count o.used + 2 * count o.closing) (o.packet ∷ o.set ∷ o.input ∷ count o.head ∷ terminator_number o.terminator ∷ [])

-- an out-queue entry: packet, set, started; an in-queue entry: packet, set, terminator; a queue: its count, then all its room
abbrev pub of_out_queue : OutQueue → List ℕ
of_out_queue oq = oq.count ∷ map (λ u. digits_after u.packet (u.set ∷ count u.started ∷ [])) oq.entries

abbrev pub of_in_queue : InQueue → List ℕ
of_in_queue iq = iq.count ∷ map (λ a. digits_after a.packet (a.set ∷ terminator_number a.terminator ∷ [])) iq.entries

-- what a rule makes of two places; [] where they stay
abbrev pub of_turn : {A B : Type 0} → (A → List ℕ) → (B → List ℕ) → Turn A B → List ℕ
of_turn one other Stay = []
of_turn one other (To a b) = one a ++ other b

-- what is expected of a queue: these entries, and empty room behind them
abbrev pub queue : List ℕ → List ℕ
queue ms = length ms ∷ take queue_room (ms ++ replicate queue_room 0)

-- a rule on each of some places, the results one after the other: [] where every one of them stays
abbrev pub each : {A : Type 0} → (A → List ℕ) → List A → List ℕ
each f [] = []
each f (a ∷ l) = f a ++ each f l

-- ---- places to try the rules on

-- a net-input with packet 5 and the set {0,1,2} after two tries, by its state and connected outputs
abbrev pub inp : Phase → List Bool → Input
inp ph bs = record { set = 7; phase = ph; outputs = bs; packet = 5; tries = 2 }

-- a net-output in use: packet, set, input, head, terminator
abbrev pub out : ℕ → ℕ → ℕ → Bool → Terminator → Output
out q X i head h = record { set = X; terminator = h; packet = q; input = i; used = true; head = head; closing = false }

-- one that is closing: packet, set, input
abbrev pub shut : ℕ → ℕ → ℕ → Output
shut q X i = record { set = X; terminator = t_none; packet = q; input = i; used = true; head = true; closing = true }

abbrev pub leaving : ℕ → ℕ → Bool → OutEntry
leaving q X started = record { set = X; packet = q; started = started }

abbrev pub arrived : ℕ → ℕ → Terminator → InEntry
arrived q X h = record { set = X; terminator = h; packet = q }

-- a queue of these entries, with empty room behind them
abbrev pub out_q : List OutEntry → OutQueue
out_q us = record { entries = take queue_room (us ++ replicate queue_room no_out_entry); count = length us }

abbrev pub in_q : List InEntry → InQueue
in_q es = record { entries = take queue_room (es ++ replicate queue_room no_in_entry); count = length es }

-- connected outputs: 0; 1; 2; 0, 1 and 2; all five
abbrev pub alone : List Bool
alone = true ∷ false ∷ false ∷ false ∷ false ∷ []

abbrev pub first : List Bool
first = false ∷ true ∷ false ∷ false ∷ false ∷ []

abbrev pub second : List Bool
second = false ∷ false ∷ true ∷ false ∷ false ∷ []

abbrev pub split : List Bool
split = true ∷ true ∷ true ∷ false ∷ false ∷ []

abbrev pub five : List Bool
five = replicate 5 true

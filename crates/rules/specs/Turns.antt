-- What a rule decides, as the code returns it: none where it stays.
use Rattle.std.specs.Prelude.{ℕ, List, [], ◌∷◌, Bool, false, Option, None, Some, cond, ◌&&◌, eqb, get_or}
use Rattle.types.specs.declared.Input.{Input}
use Rattle.types.specs.declared.Output.{Output}
use Rattle.types.specs.declared.OutQueue.{OutQueue}
use Rattle.types.specs.declared.InQueue.{InQueue}
use Rattle.types.specs.declared.Network.{Network}
use Rattle.types.specs.declared.Received.{Received}
use Rattle.types.specs.declared.Connection.{Connection}
use Rattle.types.specs.declared.Terminator.TheVariants.{the_data as Terminator, None as t_none}
use Rattle.types.specs.declared.Phase.TheVariants.{the_data as Phase, Free, Seek, Open, Wait, Done, Last, Abort as Aborted, FinAbort}
use Rattle.types.specs.Numbers.{state_number}
use Rattle.types.specs.Phases.{splits}
use Rattle.model.specs.Types.{out_of, mark, out_term}
use Rattle.model.specs.Router.{Choice as ModelChoice, Chosen, Unserved, is_chosen}
use Rattle.model.specs.NetInput.{Turn, Stay, To, table, taken, seek, net_input}
use Rattle.model.specs.Places.{Work, Rest, Cleared, Service, last_lacks, stalled, cut_at}
use Rattle.rules.specs.declared.router.Choice.{Choice}
use Rattle.rules.specs.declared.terminators.Cell.{Cell}
use Rattle.rules.specs.declared.inputs.InputTurn.{InputTurn}
use Rattle.rules.specs.declared.places.LocalTurn.{LocalTurn}
use Rattle.rules.specs.declared.places.ChannelTurn.{ChannelTurn}
use Rattle.rules.specs.declared.places.QueueTurn.{QueueTurn}
use Rattle.rules.specs.declared.work.OperatorTurn.{OperatorTurn}

-- a turn of two places, which the code holds in a struct
abbrev pub of_turn : {A B R : Type 0} → (A → B → R) → Turn A B → Option R
of_turn made Stay = None
of_turn made (To a b) = Some (made a b)

abbrev pub of_local_turn : Turn Output InQueue → Option LocalTurn
of_local_turn t = of_turn (λ o q. record { queue = q; output = o }) t

abbrev pub of_channel_turn : Turn Output Input → Option ChannelTurn
of_channel_turn t = of_turn (λ o y. record { output = o; input = y }) t

abbrev pub of_queue_turn : Turn OutQueue Input → Option QueueTurn
of_queue_turn t = of_turn (λ q y. record { queue = q; input = y }) t

abbrev pub of_input_turn : Turn Input (List Output) → Option InputTurn
of_input_turn t = of_turn (λ y os. record { outputs = os; input = y }) t

abbrev pub of_work : Work → Option OperatorTurn
of_work Rest = None
of_work (Cleared c d) = Some (record { incoming = c; outgoing = d; serviced = None })
of_work (Service c d q) = Some (record { incoming = c; outgoing = d; serviced = Some q })

-- a queue's entries without the front, spelled out: of eight places, as the code holds them
abbrev pub shifted : {A : Type 0} → A → List A → List A
shifted z l =
    get_or l 1 z ∷ get_or l 2 z ∷ get_or l 3 z ∷ get_or l 4 z ∷ get_or l 5 z ∷ get_or l 6 z ∷ get_or l 7 z ∷ z ∷ []

-- the table's cell: the terminator for the other outputs, and for output 0
abbrev pub table_cell : Received → Connection → Cell
table_cell r c = record { remote = table r c 1; local = table r c 0 }

-- an array of the code with an entry for each output
abbrev pub per_output : {A : Type 0} → (ℕ → A) → List A
per_output f = f 0 ∷ f 1 ∷ f 2 ∷ f 3 ∷ f 4 ∷ f 5 ∷ []

-- the table's terminators for the outputs
abbrev pub table_row : Received → Connection → List Terminator
table_row r c = per_output (table r c)

-- output j: taken by net-input i for packet q if it is chosen; with the terminator given to it if it is marked
abbrev pub taken_at : ℕ → ℕ → List ℕ → List Output → ℕ → Output
taken_at q i sets os j = cond (is_chosen sets j) (taken q i (get_or sets j 0)) (out_of os j)

abbrev pub ended_at : (ℕ → Terminator) → List Bool → List Output → ℕ → Output
ended_at given bs os j = cond (mark bs j) (out_term (out_of os j) (given j)) (out_of os j)

-- what an array of the code gives the outputs
abbrev pub given_at : List Terminator → ℕ → Terminator
given_at l j = get_or l j t_none

-- the choice that the router's answer stands for
abbrev pub to_choice : Option Choice → ModelChoice
to_choice None = Unserved
to_choice (Some a) = Chosen a.connection a.sets

abbrev pub seek_turn : ℕ → ℕ → Input → List Output → Option Choice → Option InputTurn
seek_turn T i y os a = of_input_turn (seek T i y os (to_choice a))

-- a net-input's rule in every state but seek, which asks a network
abbrev pub no_network : Network
no_network =
    record { sites = 0; depth = 0; tries = 0; version = 0; edition = 0; channels = []; routes = [] }

unfoldable pub other_turn : Input → List Output → (ℕ → Bool) → Turn Input (List Output)
other_turn y os isReady = cond (eqb (state_number y.phase) 1) Stay (net_input no_network 0 0 y os isReady)

-- the timeout: the states that it cuts, and what they become
abbrev pub cuts : Phase → Bool
cuts Free = false
cuts Seek = false
cuts (Open c) = splits c
cuts (Wait c) = splits c
cuts (Done c r) = splits c
cuts (Last c r) = splits c
cuts (Aborted c) = false
cuts (FinAbort c r) = false

abbrev pub cut_phase : Phase → Phase
cut_phase Free = Free
cut_phase Seek = Seek
cut_phase (Open c) = Aborted c
cut_phase (Wait c) = Aborted c
cut_phase (Done c r) = FinAbort c r
cut_phase (Last c r) = FinAbort c r
cut_phase (Aborted c) = Aborted c
cut_phase (FinAbort c r) = FinAbort c r

-- the timeout where the edition has one
abbrev pub cut_if : InQueue → List Output → Input → Turn Input (List Output)
cut_if iq os y = cond (last_lacks iq && stalled (out_of os 0)) (cut_at y os y.phase) Stay

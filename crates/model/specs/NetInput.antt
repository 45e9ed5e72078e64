-- Document 01, "ready", the terminator table and the rules of a net-input.
-- A rule looks at two kinds of places, and says that they stay or what becomes of them.
use Rattle.std.specs.Prelude.{ℕ, ◌+◌, List, Bool, true, false, cond, not, ◌&&◌, ◌||◌, eqb, ltb, get_or, set}
use Rattle.base.specs.Sizes.{output_count}
use Rattle.base.specs.Bools.{implies}
use Rattle.base.specs.All.{all}
use Rattle.base.specs.Over.{over}
use Rattle.model.specs.Types.{Connection, Unicast, Passthru, AllRemote, SomeLocal, Handed, Branch, Received, got_end, got_abort}
use Rattle.model.specs.Types.{Terminator, t_none, t_end, t_abort, t_keep, Phase, Free, Seek, Open, Wait, Done, Last, Aborted, FinAbort}
use Rattle.model.specs.Types.{Input, Output, Network, no_marks, no_input, out_of, mark, is_local, carries, in_phase, out_term}
use Rattle.types.specs.Phases.{seeks, listening, as_terminator}
use Rattle.model.specs.Router.{Choice, Chosen, Unserved, route, is_empty, is_chosen, unchosen, finds, ask}

-- "What no rule names stays; a rule whose condition fails, or an empty place, changes nothing."
pub data Turn (A B : Type 0) : Type 0 where
  Stay : Turn A B
  To : A → B → Turn A B

-- "An output is ready when it is in use, its head is taken, and either it is output 0 or its channel's input is open or abort.
-- Outputs 1 to 4 without a channel are never ready", nor is one that has nothing to pass on any more (L6); L10: "The split output is
-- ready .. as output 0": output j of os; there j tells whether output j has a channel, far j is the input at its end
unfoldable pub hears : (ℕ → Bool) → (ℕ → Input) → ℕ → Bool
hears there far j = is_local j || there j && listening (far j).phase

abbrev pub ready : (ℕ → Bool) → (ℕ → Input) → List Output → ℕ → Bool
ready there far os j = carries (out_of os j) && (out_of os j).head && hears there far j

-- all outputs that are marked are ready
abbrev pub all_ready : (ℕ → Bool) → List Bool → Bool
all_ready isReady bs = all (λ j. implies (mark bs j) (isReady j)) output_count

-- the table, by what was received, the connection and the output: abort gives abort; end gives the remote outputs end, and output 0
-- end, but abort for all-remote and keep-local for some-local
abbrev pub at_zero : ℕ → Terminator → Terminator → Terminator
at_zero j zeroth remote = cond (eqb j 0) zeroth remote

abbrev pub table : Received → Connection → ℕ → Terminator
table got_abort c j = t_abort
table got_end Unicast j = t_end
table got_end Passthru j = t_end
table got_end Handed j = t_end
-- L10: "both branches get the received terminator"
table got_end Branch j = t_end
table got_end AllRemote j = at_zero j t_abort t_end
table got_end SomeLocal j = at_zero j t_keep t_end

-- "give every connected output its terminator": each output j that is marked gets the one given to j
unfoldable pub give : (ℕ → Terminator) → List Bool → List Output → List Output
give given bs os = over (λ j. cond (mark bs j) (out_term (out_of os j) (given j)) (out_of os j)) output_count os

-- "Success puts the net-input in open and its outputs in use, head not taken, no terminator." Packet q, input i, each chosen
-- output with its set
abbrev pub taken : ℕ → ℕ → ℕ → Output
taken q i X = record { set = X; terminator = t_none; packet = q; input = i; used = true; head = false; closing = false }

unfoldable pub occupy : ℕ → ℕ → List ℕ → List Output → List Output
occupy q i sets os = over (λ j. cond (is_chosen sets j) (taken q i (get_or sets j 0)) (out_of os j)) output_count os

unfoldable pub marks_of : List ℕ → List Bool
marks_of sets = over (is_chosen sets) output_count no_marks

abbrev pub opened : ℕ → Input → List Output → Connection → List ℕ → Turn Input (List Output)
opened i y os c sets =
    To (record { set = y.set; phase = Open c; outputs = marks_of sets; packet = y.packet; tries = y.tries })
    (occupy y.packet i sets os)

-- "None of these: below T, one more try. At T, if output 0 is empty, the whole X goes to it, handed. Else nothing changes."
abbrev pub tried_again : Input → Input
tried_again y = record { set = y.set; phase = y.phase; outputs = y.outputs; packet = y.packet; tries = y.tries + 1 }

unfoldable pub seek : ℕ → ℕ → Input → List Output → Choice → Turn Input (List Output)
seek T i y os (Chosen c sets) = opened i y os c sets
seek T i y os Unserved =
    cond (ltb y.tries T) (To (tried_again y) os)
    (cond (is_empty os 0) (opened i y os Handed (set unchosen 0 y.set)) Stay)

-- net-input i of site s with the outputs os, by its state; free and abort have no rule
unfoldable pub in_state : Network → ℕ → ℕ → Input → List Output → (ℕ → Bool) → Phase → Turn Input (List Output)
in_state n s i y os isReady Free = Stay
-- "Seek: ask the router."
in_state n s i y os isReady Seek = seek n.tries i y os (route n s os y.set)
-- "Open: to wait if a connected output isn't ready."
in_state n s i y os isReady (Open c) = cond (all_ready isReady y.outputs) Stay (To (in_phase y (Wait c)) os)
-- "Wait: to open if all are."
in_state n s i y os isReady (Wait c) = cond (all_ready isReady y.outputs) (To (in_phase y (Open c)) os) Stay
-- "Done: to last if one isn't; if all are, give every connected output its terminator by the table at one stroke, and go free."
in_state n s i y os isReady (Done c r) =
    cond (all_ready isReady y.outputs) (To no_input (give (table r c) y.outputs os)) (To (in_phase y (Last c r)) os)
-- "Last: to done if all are ready."
in_state n s i y os isReady (Last c r) = cond (all_ready isReady y.outputs) (To (in_phase y (Done c r)) os) Stay
in_state n s i y os isReady (Aborted c) = Stay
-- "Fin-abort: if output 0 is ready, give it the received terminator and go free."
in_state n s i y os isReady (FinAbort c r) = cond (isReady 0) (To no_input (set os 0 (out_term (out_of os 0) (as_terminator r)))) Stay

abbrev pub net_input : Network → ℕ → ℕ → Input → List Output → (ℕ → Bool) → Turn Input (List Output)
net_input n s i y os isReady = in_state n s i y os isReady y.phase

-- "Failure is the last rule with nothing handed, and only that.": net-input y asks the router, there is no choice, and below T or
-- with output 0 in use the packet is not handed
unfoldable pub failed : Network → ℕ → Input → List Output → Bool
failed n s y os =
    seeks y.phase
    && not (finds (route n s os y.set))
    && (ltb y.tries n.tries || not (is_empty os 0))

-- L7: "The net-input's step passes it on, empty where the router was not asked or did not fail."
unfoldable pub passes_on : Network → ℕ → Input → List Output → ℕ
passes_on n s y os = cond (failed n s y os) (ask n s os y.set).blocking 0

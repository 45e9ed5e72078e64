use Rattle.rules.specs.Turns.{given_at, ended_at}
use Rattle.rules.proofs.Filled.{Filled}
use Rattle.rules.proofs.terminators.give_terminators.Given as goal

abbrev pub invariant-loop-j : goal.invariant-loop-j
invariant-loop-j l = Filled (ended_at (given_at l.given) l.fn.marks l.outputs) l.outputs l.j l.next

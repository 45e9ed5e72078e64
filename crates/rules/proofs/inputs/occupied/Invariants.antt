use Rattle.rules.specs.Turns.{taken_at}
use Rattle.rules.proofs.Filled.{Filled}
use Rattle.rules.proofs.inputs.occupied.Given as goal

abbrev pub invariant-loop-j : goal.invariant-loop-j
invariant-loop-j l = Filled (taken_at l.packet l.i l.fn.sets l.fn.outputs) l.fn.outputs l.j l.next

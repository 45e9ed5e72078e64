use Rattle.words.proofs.MarkedStores.{Marked}
use Rattle.words.proofs.marked.store_marked.Given as goal

abbrev pub invariant-loop-j : goal.invariant-loop-j
invariant-loop-j l = Marked l.initial.words l.s l.marks l.output-items l.words l.j

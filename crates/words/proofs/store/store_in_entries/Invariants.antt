use Rattle.layout.proofs.Chained.{arrived_part, Filled}
use Rattle.words.proofs.store.store_in_entries.Given as goal

abbrev pub invariant-loop-m : goal.invariant-loop-m
invariant-loop-m l = Filled (arrived_part l.q) l.initial.words l.words l.s l.entry-items l.m

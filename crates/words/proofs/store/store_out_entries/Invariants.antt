use Rattle.layout.proofs.Chained.{leaving_part, Filled}
use Rattle.words.proofs.store.store_out_entries.Given as goal

abbrev pub invariant-loop-m : goal.invariant-loop-m
invariant-loop-m l = Filled leaving_part l.initial.words l.words l.s l.entry-items l.m

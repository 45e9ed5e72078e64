-- `number::number_of` meets its contract: a byte a turn. Assumes nothing.
use Rattle.quote.proofs.Numbers.{Reading}
use Rattle.quote.proofs.number.number_of.Given as goal

abbrev pub invariant-loop-byte : goal.invariant-loop-byte
invariant-loop-byte l = Reading l.word l.value l.byte-index

-- `number::number_of` meets its contract: a byte a turn. Assumes nothing.
use native.Mathlib.Omega.{arith}
use borrow.Author.Rules.{rules}
use Rattle.quote.proofs.Numbers.{nothing_read, digit_read, all_read, no_number}
use Rattle.quote.proofs.number.number_of.Goals as goal

pub loop-byte-init : goal.loop-byte-init
loop-byte-init c = nothing_read _

pub loop-byte-preserved : goal.loop-byte-preserved
loop-byte-preserved c =
    digit_read _ c.loop-byte.invariant (omega arith) (search rules) c.with_digit-value.ensures

pub returns-then-not-is_digit : goal.returns-then-not-is_digit
returns-then-not-is_digit c = no_number _ c.loop-byte.byte-index (omega arith) (search rules)

pub returns : goal.returns
returns c = all_read c.loop-byte.invariant (omega arith)

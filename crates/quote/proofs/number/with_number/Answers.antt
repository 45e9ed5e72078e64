-- `number::with_number` meets its contract: beyond the last place nothing is stored. Assumes nothing.
use mathlib.Core.Path.{◌≡◌, sym, ap}
use lib.ListN.{length, set}
use lib.Seq.{set_out}
use native.Mathlib.Omega.{arith}
use borrow.Author.Rules.{rules}
use Rattle.quote.proofs.number.with_number.Goals as goal

pub returns-then-k-lt-NUMBERS : goal.returns-then-k-lt-NUMBERS
returns-then-k-lt-NUMBERS c = let a = c.args in ap (set a.numbers a.k) c.number_of.ensures

pub returns : goal.returns
returns c =
    let a = c.args in
    let l : length a.numbers ≡ 5 = search rules in sym (set_out a.numbers a.k _ (omega arith))

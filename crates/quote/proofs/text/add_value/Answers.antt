-- `text::add_value` meets its contract, case by case. Assumes nothing.
use Rattle.quote.proofs.Texts.{as_whole, as_even, as_odd}
use Rattle.quote.proofs.text.add_value.Goals as goal

pub returns-then-doubled : goal.returns-then-doubled
returns-then-doubled c = rw c.if-doubled.true (rw (as_whole c.args.value) at c.add_line.ensures)

pub returns-then-value-eq0 : goal.returns-then-value-eq0
returns-then-value-eq0 c =
    let line = as_even c.args.value c.if-value-eq0.true in
    rw c.if-doubled.false (rw line at c.add_line-then-value-eq0.ensures)

pub returns : goal.returns
returns c =
    let line = as_odd c.args.value c.if-value-eq0.false in
    rw c.if-doubled.false (rw line at c.add_line-2.ensures)

-- `answer_line` meets its contract: the counts, or the word and the refusal's number. Assumes nothing.
use Prim.Native.Nat.{zero-le}
use borrow.Author.Tests.{eq-eqb, ne_eqb}
use Rattle.lines.specs.Text.{ascii, decimal, answer_line, refused_line}
use Rattle.report.proofs.Numbers.{decimal_most}
use Rattle.report.proofs.Puts.{then_two, at_front_lem}
use native.Mathlib.Omega.{arith}
use Rattle.report.proofs.answer_line.Goals as goal

pub returns-then-refusal-eq0 : goal.returns-then-refusal-eq0
unfolding answer_line
returns-then-refusal-eq0 c = rw (eq-eqb c.args.refusal 0 c.if-refusal-eq0.true) (at_front_lem c.put_counts.ensures)

pub put_field-requires : goal.put_field-requires
put_field-requires c = omega (arith, decimal_most c.wide.result)

pub returns : goal.returns
unfolding answer_line refused_line
returns c =
    let n = c.wide in
    let line = then_two (decimal n.result) (ascii "\n") zero-le c.put_all-number.ensures c.put_field.ensures in
    rw (ne_eqb c.args.refusal 0 c.if-refusal-eq0.false) (at_front_lem (rw n.ensures.0 at line))

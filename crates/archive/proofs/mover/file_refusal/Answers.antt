-- `mover::file_refusal` meets its contract: 1, then 2, then the reader's refusals. Assumes nothing.
use Rattle.std.proofs.Common.{sym, ◌∙◌, arith}
use borrow.Author.Tests.{eqb-true, eqb-false}
use Rattle.archive.proofs.MoveLaws.{file_short, file_bytes, file_other, file_read}
use Rattle.archive.proofs.mover.file_refusal.Goals as goal

pub returns-then-is_refused_for_length : goal.returns-then-is_refused_for_length
returns-then-is_refused_for_length c =
    let one = eqb-true _ 1 (sym c.is_refused_for_length.ensures ∙ c.if-is_refused_for_length.true) in
    one ∙ file_short _ c.args.from _ c.check-judged.ensures one

pub bounds-b-2 : goal.bounds-b-2
bounds-b-2 c =
    let other = eqb-false _ 1 (sym c.is_refused_for_length.ensures ∙ c.if-is_refused_for_length.false) in
    omega (arith, file_bytes _ c.args.from _ c.check-judged.ensures other)

pub returns-then-b-from : goal.returns-then-b-from
returns-then-b-from c =
    let other = eqb-false _ 1 (sym c.is_refused_for_length.ensures ∙ c.if-is_refused_for_length.false) in
    file_other _ c.args.from _ c.check-judged.ensures other c.if-b-from.true

pub returns : goal.returns
returns c =
    let other = eqb-false _ 1 (sym c.is_refused_for_length.ensures ∙ c.if-is_refused_for_length.false) in
    file_read _ c.args.from _ c.check-judged.ensures other c.if-b-from.false

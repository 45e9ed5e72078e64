-- `text::put_text` meets its contract: four lines one behind the other, or the refusal. Assumes nothing.
use Rattle.std.proofs.Common.{Ok, Err, refl, rules}
use Rattle.base.specs.Refusals.{number_nonzero}
use Rattle.latency.specs.Latency.{told}
use Rattle.report.proofs.Adds.{added_then}
use Rattle.quote.specs.Text.{value_lines}
use Rattle.quote.proofs.Texts.{values_whole, refusal_whole}
use Rattle.quote.proofs.text.put_text.Goals as goal

pub returns-in-Ok : goal.returns-in-Ok
unfolding value_lines
returns-in-Ok c =
    let two = added_then c.add_value-multi.ensures c.add_value-resumable.ensures in
    let four = added_then (added_then two c.add_value-restricted.ensures) c.add_value.ensures in
    rw c.in-Ok.is (values_whole c.args.doubled (told (Ok c.in-Ok.four)) (search rules) refl four)

pub returns-in-Err : goal.returns-in-Err
returns-in-Err c =
    let e = c.in-Err.refusal in
    let added = rw c.from.ensures at c.add_answer.ensures.1 in
    rw c.in-Err.is (refusal_whole c.args.doubled (told (Err e)) _ (search rules) (number_nonzero e) added)

-- `adding::add_answer` meets its contract: the line is composed at the front of a room and added whole. Assumes nothing.
use Rattle.lines.specs.Text.{answer_line}
use Rattle.report.proofs.Puts.{front_counts}
use Rattle.report.proofs.Adds.{front_is}
use Rattle.report.proofs.adding.add_answer.Goals as goal

-- the line lies within its room
pub slice_bounds-line-end : goal.slice_bounds-line-end
slice_bounds-line-end c =
    let n = c.answer_line-n in
    (front_counts (answer_line c.args.refusal c.args.counts) _ _ _ n.ensures.0 n.ensures.1).0

pub slice_bounds-add_bytes-end : goal.slice_bounds-add_bytes-end
slice_bounds-add_bytes-end c =
    let n = c.answer_line-n in
    (front_counts (answer_line c.args.refusal c.args.counts) _ _ _ n.ensures.0 n.ensures.1).1

pub returns : goal.returns
returns c =
    let a = c.add_bytes in
    let n = c.answer_line-n in
    (a.ensures.0, rw (front_is _ _ _ _ n.ensures.0 n.ensures.1) at a.ensures.1)

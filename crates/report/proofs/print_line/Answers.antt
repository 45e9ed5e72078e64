-- `print_line` is safe: the line lies within the room. Assumes nothing.
use Rattle.lines.specs.Text.{answer_line}
use Rattle.report.proofs.Puts.{front_counts}
use Rattle.report.proofs.print_line.Goals as goal

pub slice_bounds-text-end : goal.slice_bounds-text-end
slice_bounds-text-end g c =
    let n = c.answer_line-n in
    (front_counts (answer_line c.args.refusal c.args.counts) _ _ _ n.ensures.0 n.ensures.1).0

pub slice_bounds-write_all-end : goal.slice_bounds-write_all-end
slice_bounds-write_all-end g c =
    let n = c.answer_line-n in
    (front_counts (answer_line c.args.refusal c.args.counts) _ _ _ n.ensures.0 n.ensures.1).1

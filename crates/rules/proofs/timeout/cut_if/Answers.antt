use mathlib.Core.Path.{sym, ap, ◌∙◌}
use mathlib.Core.Bool.{true, false}
use Rattle.rules.specs.Turns.{of_input_turn}
use Rattle.rules.proofs.Cut.{cut_by}
use Rattle.rules.proofs.timeout.cut_if.Goals as goal

pub returns-then-last_lacks-is_stalled : goal.returns-then-last_lacks-is_stalled
returns-then-last_lacks-is_stalled c =
    let a = c.args in
    let e = rw (c.last_lacks.ensures, c.is_stalled.ensures, c.can_cut.ensures) at c.if-last_lacks-is_stalled.true in
    c.cut_off.ensures ∙ sym (ap of_input_turn (cut_by a.queue a.outputs a.input true e))

pub returns : goal.returns
returns c =
    let a = c.args in
    let e = rw (c.last_lacks.ensures, c.is_stalled.ensures, c.can_cut.ensures) at c.if-last_lacks-is_stalled.false in
    sym (ap of_input_turn (cut_by a.queue a.outputs a.input false e))

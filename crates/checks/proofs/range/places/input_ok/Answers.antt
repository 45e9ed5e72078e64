use mathlib.Core.Path.{sym, ◌∙◌}
use Rattle.checks.proofs.RangeLaws.{free_input, used_input}
use Rattle.checks.proofs.range.places.input_ok.Goals as goal

pub returns-then-is_free : goal.returns-then-is_free
returns-then-is_free c =
    let a = c.args in
    c.zero_input.ensures
    ∙ sym (free_input a.limits.edition a.limits.sites a.limits.tries a.limits.counter a.outputs a.i a.input
    (sym c.is_free.ensures ∙ c.if-is_free.true))

pub returns : goal.returns
returns c =
    let a = c.args in
    let is_free = c.is_free in
    let law = used_input a.limits.edition a.limits.sites a.limits.tries a.limits.counter a.outputs a.i a.input in
    rw (c.connection_ok.ensures, c.tag_ok.ensures) (sym (law (sym is_free.ensures ∙ c.if-is_free.false)))

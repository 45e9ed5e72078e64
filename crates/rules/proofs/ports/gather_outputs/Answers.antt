use mathlib.Core.Path.{sym, ap, ◌∙◌}
use native.Mathlib.Omega.{arith}
use borrow.Author.Tests.{lt-ltb}
use Rattle.base.specs.Sizes.{set_bits}
use Rattle.rules.specs.Router.{of_gathered}
use Rattle.rules.proofs.Gather.{starts, done, pass_by, enter, no_port, next_port, with_port}
use Rattle.rules.proofs.ports.gather_outputs.Goals as goal

pub targets-init : goal.targets-init
targets-init c = starts

pub loop-p-init : goal.loop-p-init
loop-p-init c =
    enter c.targets.invariant c.list_of-p-items.result
    c.targets-test.true (sym c.member.ensures ∙ c.if-member.true) c.list_of-p-items.ensures

pub targets-preserved-then-can_serve : goal.targets-preserved-then-can_serve
targets-preserved-then-can_serve c =
    let l = c.loop-p in
    rw (c.with.ensures, lt-ltb c.targets.t set_bits (omega arith)) (with_port l.invariant
    c.loop-p-test.true (sym c.can_serve.ensures.serves ∙ c.if-can_serve.true))

pub loop-p-preserved : goal.loop-p-preserved
loop-p-preserved c = next_port c.loop-p.invariant c.loop-p-test.true (sym c.can_serve.ensures.serves ∙ c.if-can_serve.false)

pub returns-then-member : goal.returns-then-member
returns-then-member c = ap of_gathered (sym (no_port c.loop-p.invariant c.loop-p-test.false))

pub targets-preserved : goal.targets-preserved
targets-preserved c = pass_by c.targets.invariant c.targets-test.true (sym c.member.ensures ∙ c.if-member.false)

pub returns : goal.returns
returns c = ap of_gathered (sym (done c.targets.invariant c.targets-test.false))

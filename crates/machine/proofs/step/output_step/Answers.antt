use mathlib.Core.Path.{refl}
use Rattle.machine.specs.Step.{far_at}
use Rattle.machine.proofs.Ready.{output_zero_lem, output_other}
use Rattle.machine.proofs.step.output_step.Goals as goal

pub returns-then-j-eq0 : goal.returns-then-j-eq0
returns-then-j-eq0 c =
    let a = c.args in
    rw (c.local_step.ensures, c.if-j-eq0.true, output_zero_lem a.network a.s a.site (far_at a.far)) refl

pub returns : goal.returns
returns c =
    let a = c.args in
    let other = output_other a.network a.s a.site (far_at a.far) a.j c.if-j-eq0.false in
    rw (c.channel_step.ensures, other) refl

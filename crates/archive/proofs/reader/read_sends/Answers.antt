-- `reader::read_sends` meets its contract: the array is filled from the front. Assumes nothing.
use mathlib.Core.Path.{◌≡◌, refl, sym, ◌∙◌}
use native.Mathlib.Omega.{arith}
use Rattle.base.specs.Over.{over_none, over_step}
use Rattle.format.specs.Format.{send_width}
use Rattle.archive.proofs.Holds.{part_ends}
use Rattle.archive.proofs.reader.read_sends.Goals as goal

pub loop-k-init : goal.loop-k-init
loop-k-init c = (omega arith, c.no_sends-sends.ensures ∙ sym (over_none _ _))

pub overflow_cast-k : goal.overflow_cast-k
overflow_cast-k c = omega arith

pub send_at-requires : goal.send_at-requires
send_at-requires c =
    let a = c.args in
    let send_place = c.send_place in
    let pre = c.requires in
    let loop = c.loop-k in
    let loop_test = c.loop-k-test in
    omega (arith, send_place.ensures, pre.1, part_ends (send_width a.version) loop.k a.n loop_test.true)

pub offset_bounds-sends-k : goal.offset_bounds-sends-k
offset_bounds-sends-k c = omega arith

pub bounds-sends-k : goal.bounds-sends-k
bounds-sends-k c = omega arith

pub loop-k-preserved : goal.loop-k-preserved
loop-k-preserved c =
    let here = c.send_place.ensures in
    let send = c.send_at.ensures in
    (omega arith, over_step _ _ _ _ _ c.loop-k.invariant.1 (rw (← here) send) (omega arith))

pub returns : goal.returns
returns c =
    let loop = c.loop-k in
    let args = c.args in
    let e : loop.k ≡ args.n = omega arith in loop.invariant.1 ∙ rw e refl

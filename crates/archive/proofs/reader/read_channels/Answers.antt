-- `reader::read_channels` meets its contract: the array is filled from the front. Assumes nothing.
use mathlib.Core.Path.{◌≡◌, refl, sym, ◌∙◌}
use native.Mathlib.Omega.{arith}
use Rattle.base.specs.Over.{over_none, over_step}
use Rattle.archive.proofs.Parts.{channel_inside}
use Rattle.archive.proofs.reader.read_channels.Goals as goal

pub loop-c-init : goal.loop-c-init
loop-c-init c = (omega arith, sym (over_none _ _))

pub overflow_cast-c : goal.overflow_cast-c
overflow_cast-c c = omega arith

pub bounds-b-p : goal.bounds-b-p
bounds-b-p c =
    let a = c.args in
    let channel_place = c.channel_place-p in
    let loop = c.loop-c in
    let loop_test = c.loop-c-test in
    let pre = c.requires in
    omega (arith, channel_place.ensures, channel_inside a.version loop.c a.n _ loop_test.true pre.1)

pub overflow_add-p : goal.overflow_add-p
overflow_add-p c =
    let a = c.args in
    let channel_place = c.channel_place-p in
    let loop = c.loop-c in
    let loop_test = c.loop-c-test in
    let pre = c.requires in
    omega (arith, channel_place.ensures, channel_inside a.version loop.c a.n _ loop_test.true pre.1)

pub bounds-b-p-in-loop-c : goal.bounds-b-p-in-loop-c
bounds-b-p-in-loop-c c =
    let a = c.args in
    let channel_place = c.channel_place-p in
    let loop = c.loop-c in
    let loop_test = c.loop-c-test in
    let pre = c.requires in
    omega (arith, channel_place.ensures, channel_inside a.version loop.c a.n _ loop_test.true pre.1)

pub offset_bounds-channels-c : goal.offset_bounds-channels-c
offset_bounds-channels-c c = omega arith

pub bounds-channels-c : goal.bounds-channels-c
bounds-channels-c c = omega arith

pub loop-c-preserved : goal.loop-c-preserved
loop-c-preserved c =
    let channel_place = c.channel_place-p in
    let channel_of = c.channel_of in
    let loop = c.loop-c in
    let here = channel_place.ensures in
    let channel = channel_of.ensures in
    (omega arith, over_step _ _ _ _ _ loop.invariant.1 (rw (← here) channel) (omega arith))

pub returns : goal.returns
returns c =
    let loop = c.loop-c in
    let args = c.args in
    let e : loop.c ≡ args.n = omega arith in loop.invariant.1 ∙ rw e refl

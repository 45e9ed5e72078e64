-- `reader::read_routes` meets its contract: the array is filled from the front. Assumes nothing.
use mathlib.Core.Path.{◌≡◌, refl, sym, ◌∙◌}
use native.Mathlib.Omega.{arith}
use Rattle.base.specs.Over.{over_none, over_step}
use Rattle.archive.proofs.reader.read_routes.Goals as goal

pub loop-k-init : goal.loop-k-init
loop-k-init c = (omega arith, sym (over_none _ _))

pub overflow_mul-at : goal.overflow_mul-at
overflow_mul-at c = omega arith

pub overflow_add-at : goal.overflow_add-at
overflow_add-at c = omega arith

pub bounds-b-at : goal.bounds-b-at
bounds-b-at c = omega arith

pub overflow_add-at-in-loop-k : goal.overflow_add-at-in-loop-k
overflow_add-at-in-loop-k c = omega arith

pub bounds-b-at-in-loop-k : goal.bounds-b-at-in-loop-k
bounds-b-at-in-loop-k c = omega arith

pub offset_bounds-routes-k : goal.offset_bounds-routes-k
offset_bounds-routes-k c = omega arith

pub bounds-routes-k : goal.bounds-routes-k
bounds-routes-k c = omega arith

pub loop-k-preserved : goal.loop-k-preserved
loop-k-preserved c =
    let loop = c.loop-k in
    let word = c.word in
    (omega arith, over_step _ _ _ _ _ loop.invariant.1 word.ensures (omega arith))

pub returns : goal.returns
returns c =
    let loop = c.loop-k in
    let args = c.args in
    let e : loop.k ≡ args.n = omega arith in loop.invariant.1 ∙ rw e refl

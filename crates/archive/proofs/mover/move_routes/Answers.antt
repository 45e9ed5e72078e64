-- `mover::move_routes` meets its contract: a route a turn. Assumes nothing.
use mathlib.Core.Path.{◌≡◌, refl, ◌∙◌}
use Rattle.archive.proofs.Put.{routes_none}
use Rattle.archive.proofs.MoveParts.{route_turn}
use native.Mathlib.Omega.{arith}
use Rattle.archive.proofs.mover.move_routes.Goals as goal

pub loop-k-init : goal.loop-k-init
loop-k-init c = (omega arith, refl, routes_none _ _ c.args.q)

pub overflow_mul-k : goal.overflow_mul-k
overflow_mul-k c = omega arith

pub overflow_add-p : goal.overflow_add-p
overflow_add-p c = omega arith

pub overflow_mul-k-in-loop-k : goal.overflow_mul-k-in-loop-k
overflow_mul-k-in-loop-k c = omega arith

pub overflow_add-q : goal.overflow_add-q
overflow_add-q c = omega arith

pub move_route-requires : goal.move_route-requires
move_route-requires c = omega arith

pub loop-k-preserved : goal.loop-k-preserved
loop-k-preserved c =
    let loop_test = c.loop-k-test in
    let move_route = c.move_route in
    let a = c.args in
    let l = c.loop-k in
    let pre = c.requires in
    let turn =
    route_turn a.b.now a.n l.k loop_test.true a.p a.q pre.0 _ _ _ l.invariant.1 pre.2
    l.invariant.2 move_route.ensures in
    (omega arith, turn.0, turn.1)

pub shape_of-out : goal.shape_of-out
shape_of-out c = c.loop-k.invariant.1

pub returns : goal.returns
returns c =
    let loop = c.loop-k in
    let args = c.args in
    let e : loop.k ≡ args.n = omega arith in loop.invariant.2 ∙ rw e refl

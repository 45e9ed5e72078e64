-- `writer::put_routes` meets its contract: a route a turn. Assumes nothing.
use mathlib.Core.Path.{◌≡◌, refl, ap, ◌∙◌}
use native.Mathlib.Omega.{arith}
use lib.ListN.{length}
use Rattle.archive.proofs.Put.{routes_none, routes_turn, length_put}
use Rattle.archive.proofs.writer.put_routes.Goals as goal

pub loop-k-init : goal.loop-k-init
loop-k-init c = (omega arith, refl, routes_none c.args.routes _ c.args.p)

pub overflow_mul-k : goal.overflow_mul-k
overflow_mul-k c = omega arith

pub overflow_add-p : goal.overflow_add-p
overflow_add-p c = omega arith

pub offset_bounds-routes-k : goal.offset_bounds-routes-k
offset_bounds-routes-k c = omega arith

pub bounds-routes-k : goal.bounds-routes-k
bounds-routes-k c = omega arith

pub put_word-requires : goal.put_word-requires
put_word-requires c = omega arith

pub loop-k-preserved : goal.loop-k-preserved
loop-k-preserved c =
    let l = c.loop-k in
    let put_word = c.put_word in
    let args = c.args in (
      omega arith,
      ap length put_word.ensures ∙ length_put _ _ _ (omega arith) ∙ l.invariant.1,
      routes_turn args.routes _ _ _ args.p l.k l.invariant.2 (rw c.from.ensures at put_word.ensures) (omega arith),
    )

pub shape_of-out : goal.shape_of-out
shape_of-out c = c.loop-k.invariant.1

pub returns : goal.returns
returns c =
    let loop = c.loop-k in
    let args = c.args in
    let e : loop.k ≡ args.n = omega arith in loop.invariant.2 ∙ rw e refl

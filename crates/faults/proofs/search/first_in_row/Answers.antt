-- `search::first_in_row` meets its contract: every route of the row is tested, up to the first that fails. Assumes
-- nothing.
use mathlib.Core.Path.{◌≡◌, sym, ◌∙◌}
use mathlib.Core.List.{List}
use Prim.Native.Nat.{ℕ, ◌≤◌}
use native.Mathlib.Omega.{arith}
use Rattle.base.specs.All.{all_none, all_more}
use Rattle.format.specs.Format.{routes_place}
use Rattle.format.specs.First.{fails_next}
use Rattle.faults.specs.Head.{Read}
use Rattle.faults.proofs.Versions.{routes_begin}
use Rattle.faults.proofs.Held.{sized, route_tested, row_small, route_inside}
use Rattle.faults.proofs.search.first_in_row.Goals as goal

-- the routes begin at 2,054 at most
begun : (b : List ℕ) (v S p : ℕ) → Read b v S → p ≡ routes_place v S → p ≤ 2054
begun b v S p r place = omega (arith, place, routes_begin v S (omega (arith, (sized b v S r).few)))

pub ports_at-ports-requires : goal.ports_at-ports-requires
ports_at-ports-requires c = (c.requires.0, c.requires.1)

pub overflow_cast-sites : goal.overflow_cast-sites
overflow_cast-sites c = omega (arith, (sized _ _ _ c.requires.0).few)

pub overflow_mul-row : goal.overflow_mul-row
overflow_mul-row c = omega (arith, row_small _ _ _ c.requires.0 c.args.s c.requires.1)

pub overflow_mul-row-2 : goal.overflow_mul-row-2
overflow_mul-row-2 c = omega (arith, row_small _ _ _ c.requires.0 c.args.s c.requires.1)

pub overflow_add-row : goal.overflow_add-row
overflow_add-row c =
    let r = c.requires.0 in
    omega (arith, row_small _ _ _ r c.args.s c.requires.1, begun _ _ _ _ r c.routes_place.ensures)

pub loop-t-init : goal.loop-t-init
loop-t-init c = (omega arith, all_none _)

pub overflow_mul-t : goal.overflow_mul-t
overflow_mul-t c = omega (arith, (sized _ _ _ c.requires.0).few)

pub overflow_add-row-in-loop-t : goal.overflow_add-row-in-loop-t
overflow_add-row-in-loop-t c =
    let r = c.requires.0 in
    omega (
      arith,
      (sized _ _ _ r).few,
      row_small _ _ _ r c.args.s c.requires.1,
      begun _ _ _ _ r c.routes_place.ensures,
    )

pub word_at-route-requires : goal.word_at-route-requires
word_at-route-requires c =
    let args = c.args in
    let pre = c.requires in
    omega (
      arith,
      c.routes_place.ensures,
      route_inside args.b.now args.version args.sites pre.0 args.s c.loop-t.t pre.1 c.loop-t-test.true,
    )

pub loop-t-preserved : goal.loop-t-preserved
loop-t-preserved c =
    let pre = c.requires in
    let tested =
    route_tested _ _ _ pre.0 c.args.s c.loop-t.t _ _ _ _ pre.1 c.loop-t-test.true (omega (arith, c.routes_place.ensures))
    c.ports_at-ports.ensures c.word_at-route.ensures c.route_ok.ensures in
    (omega arith, all_more _ _ c.loop-t.invariant.1 (sym tested ∙ c.if-not-route_ok.false))

pub returns : goal.returns
returns c = let e : c.loop-t.t ≡ c.args.sites = omega arith in rw e at c.loop-t.invariant.1

pub returns-then-not-route_ok : goal.returns-then-not-route_ok
returns-then-not-route_ok c =
    let pre = c.requires in
    let tested =
    route_tested _ _ _ pre.0 c.args.s c.loop-t.t _ _ _ _ pre.1 c.loop-t-test.true (omega (arith, c.routes_place.ensures))
    c.ports_at-ports.ensures c.word_at-route.ensures c.route_ok.ensures in
    fails_next _ _ _ c.loop-t-test.true c.loop-t.invariant.1 (sym tested ∙ c.if-not-route_ok.true)

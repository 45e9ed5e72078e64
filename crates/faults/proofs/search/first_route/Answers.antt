-- `search::first_route` meets its contract: row by row is route by route. Assumes nothing.
use Rattle.std.proofs.Common.{arith}
use Rattle.base.specs.All.{all_none, all_more}
use Rattle.format.specs.Format.{network_of}
use Rattle.faults.proofs.Held.{sized, sites_held, row_small}
use Rattle.faults.proofs.Rows.{row_found, rows_passed}
use Rattle.faults.proofs.search.first_route.Goals as goal

pub loop-s-init : goal.loop-s-init
loop-s-init c = (omega arith, all_none _)

pub overflow_mul-result : goal.overflow_mul-result
overflow_mul-result c = omega (arith, row_small _ _ _ c.requires c.loop-s.s c.loop-s-test.true)

pub overflow_add-result : goal.overflow_add-result
overflow_add-result c =
    omega (
      arith,
      (sized _ _ _ c.requires).few,
      row_small _ _ _ c.requires c.loop-s.s c.loop-s-test.true,
      c.in-Some.ensures.below,
    )

pub returns-in-Some : goal.returns-in-Some
returns-in-Some c =
    let a = c.args in
    row_found (network_of a.b.now) a.sites c.loop-s.s (sites_held a.b.now a.sites c.requires.sites) c.loop-s.invariant.1 _
    c.loop-s-test.true c.in-Some.ensures

pub loop-s-preserved : goal.loop-s-preserved
loop-s-preserved c = (omega arith, all_more _ _ c.loop-s.invariant.1 c.in_default.ensures)

pub returns : goal.returns
returns c =
    let a = c.args in
    rows_passed (network_of a.b.now) a.sites c.loop-s.s (sites_held a.b.now a.sites c.requires.sites) c.loop-s.invariant.1
    (omega arith)

-- `places::routes_place` meets its contract, by the version. Assumes nothing.
use native.Mathlib.Omega.{arith}
use borrow.Author.Tests.{eq-eqb, ne_eqb}
use Rattle.faults.proofs.places.routes_place.Goals as goal

pub returns-then-version-eq1 : goal.returns-then-version-eq1
returns-then-version-eq1 c = rw (eq-eqb _ _ c.if-version-eq1.true) (omega (arith, c.wide-n.ensures.0))

pub returns-else-version-eq1 : goal.returns-else-version-eq1
returns-else-version-eq1 c = rw (ne_eqb _ _ c.if-version-eq1.false) (omega (arith, c.wide-n.ensures.0))

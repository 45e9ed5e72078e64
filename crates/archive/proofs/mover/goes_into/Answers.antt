-- `mover::goes_into` meets its contract. Assumes nothing.
use mathlib.Core.Path.{refl}
use borrow.Author.Tests.{eq-eqb, ne_eqb}
use Rattle.archive.proofs.mover.goes_into.Goals as goal

pub returns-then-to-eq1 : goal.returns-then-to-eq1
returns-then-to-eq1 c = rw (eq-eqb _ _ c.if-to-eq1.true, c.wide.ensures.0) refl

pub returns : goal.returns
returns c = rw (ne_eqb _ _ c.if-to-eq1.false) refl

-- `places::channel_of` meets its contract, by the version. Assumes nothing.
use mathlib.Core.Path.{refl}
use borrow.Author.Tests.{eq-eqb, ne_eqb}
use Rattle.faults.proofs.places.channel_of.Goals as goal

pub returns-then-first-eq255 : goal.returns-then-first-eq255
returns-then-first-eq255 c = rw (eq-eqb _ _ c.if-version-eq1.true, eq-eqb _ _ c.if-first-eq255.true) refl

pub returns-then-version-eq1 : goal.returns-then-version-eq1
returns-then-version-eq1 c = rw (eq-eqb _ _ c.if-version-eq1.true, ne_eqb _ _ c.if-first-eq255.false) c.from.ensures

pub returns : goal.returns
returns c = rw (ne_eqb _ _ c.if-version-eq1.false) c.word.ensures

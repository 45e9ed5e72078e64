-- `writer::put_set` meets its contract: two bytes in version 1, else eight. Assumes nothing.
use mathlib.Core.Path.{refl, ◌∙◌}
use native.Mathlib.Omega.{arith}
use borrow.Author.Tests.{eq-eqb, ne_eqb}
use Rattle.base.specs.Put.{put_append}
use Rattle.archive.proofs.writer.put_set.Goals as goal

pub put_word-requires : goal.put_word-requires
put_word-requires c = omega (arith, rw (eq-eqb _ _ c.if-version-eq1.true) at c.requires)

pub returns-then-version-eq1 : goal.returns-then-version-eq1
returns-then-version-eq1 c = rw (eq-eqb _ _ c.if-version-eq1.true) c.put_word.ensures

pub put_quad-requires : goal.put_quad-requires
put_quad-requires c = omega (arith, rw (ne_eqb _ _ c.if-version-eq1.false) at c.requires)

pub put_quad-requires-2 : goal.put_quad-requires-2
put_quad-requires-2 c = omega (arith, rw (ne_eqb _ _ c.if-version-eq1.false) at c.requires)

pub returns : goal.returns
returns c =
    let if1 = c.if-version-eq1 in
    let put_quad2 = c.put_quad-2 in
    let put_quad = c.put_quad in
    rw (ne_eqb _ _ if1.false) (put_quad2.ensures ∙ put_append _ _ _ _ _ _ (omega arith) put_quad.ensures refl)

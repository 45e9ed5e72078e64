-- `writer::put_start` meets its contract: two parts, three in version 2. Assumes nothing.
use mathlib.Core.Path.{refl, ◌∙◌}
use native.Mathlib.Omega.{arith}
use borrow.Author.Tests.{eq-eqb, ne_eqb}
use Rattle.base.specs.Put.{put_append}
use Rattle.archive.proofs.writer.put_start.Goals as goal

pub returns-then-version-eq1 : goal.returns-then-version-eq1
returns-then-version-eq1 c =
    let size = c.put_word.ensures in
    let version = c.put_byte.ensures in
    rw (eq-eqb _ _ c.if-version-eq1.true) (version ∙ put_append _ _ _ _ _ _ (omega arith) size refl)

pub put_byte-requires-2 : goal.put_byte-requires-2
put_byte-requires-2 c = omega (arith, rw (ne_eqb _ _ c.if-version-eq1.false) at c.requires)

pub returns : goal.returns
returns c =
    let size = c.put_word.ensures in
    let version = c.put_byte.ensures ∙ put_append _ _ _ _ _ _ (omega arith) size refl in
    let edition = c.put_byte-2.ensures in
    rw (ne_eqb _ _ c.if-version-eq1.false)
    (edition ∙ put_append _ _ _ _ _ _ (omega arith) version refl)

-- `writer::put_fields` meets its contract: six parts, one behind the other. Assumes nothing.
use mathlib.Core.Path.{refl, ◌∙◌}
use native.Mathlib.Omega.{arith}
use Rattle.base.specs.Put.{put_append}
use Rattle.archive.proofs.writer.put_fields.Goals as goal

pub returns : goal.returns
returns c =
    let sites = c.put_byte.ensures in
    let tries = c.put_byte-2.ensures ∙ put_append _ _ _ _ _ _ (omega arith) sites refl in
    let depth = c.put_byte-3.ensures ∙ put_append _ _ _ _ _ _ (omega arith) tries refl in
    let quad = rw c.from.ensures at c.put_quad.ensures in
    let seed = quad ∙ put_append _ _ _ _ _ _ (omega arith) depth refl in
    let draws = (rw c.from-2.ensures at c.put_word.ensures) ∙ put_append _ _ _ _ _ _ (omega arith) seed refl in
    c.put_byte-4.ensures ∙ put_append _ _ _ _ _ _ (omega arith) draws refl

-- `writer::put_send` meets its contract: three parts, one behind the other. Assumes nothing.
use mathlib.Core.Path.{refl, ◌∙◌}
use native.Mathlib.Omega.{arith}
use Rattle.base.specs.Put.{put_append}
use Rattle.archive.proofs.writer.put_send.Goals as goal

pub returns : goal.returns
returns c =
    let word = rw c.from.ensures at c.put_word.ensures in
    let byte = c.put_byte.ensures in
    let set = c.put_set.ensures in
    let b = byte ∙ put_append _ _ _ _ _ _ (omega arith) word refl in
    set ∙ put_append _ _ _ _ _ _ (omega arith) b refl

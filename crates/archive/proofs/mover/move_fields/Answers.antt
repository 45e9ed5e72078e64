-- `mover::move_fields` meets its contract: six fields, read and put. Assumes nothing.
use Rattle.archive.proofs.MoveParts.{fields_moved}
use Rattle.archive.proofs.mover.move_fields.Goals as goal

pub returns : goal.returns
returns c =
    let wide = c.wide in
    let wide2 = c.wide-2 in
    let wide3 = c.wide-3 in
    let word = c.word in
    let quad_at = c.quad_at in
    let put_fields = c.put_fields in
    let a = c.args in
    let sites = wide.ensures.0 in
    let depth = wide2.ensures.0 in
    let count = wide3.ensures.0 in
    let draws = word.ensures in
    let seed = quad_at.ensures in
    fields_moved a.b.now _ _ a.p _ _ _ _ _ _ sites depth seed draws count put_fields.ensures

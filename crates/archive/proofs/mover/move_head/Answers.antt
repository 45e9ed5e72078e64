-- `mover::move_head` meets its contract: the start, and the fields behind it. Assumes nothing.
use Rattle.archive.proofs.MoveParts.{fields_within, head_moved}
use native.Mathlib.Omega.{arith}
use Rattle.archive.proofs.mover.move_head.Goals as goal

pub move_fields-requires : goal.move_fields-requires
move_fields-requires c =
    let fields_place = c.fields_place in
    let fields_place2 = c.fields_place-2 in
    let a = c.args in
    let pre = c.requires in
    let place = fields_place.ensures in
    let own = fields_within a.b.now a.from _ pre.0.head pre.0.version place in
    (own.1, omega (arith, fields_place2.ensures, pre.2))

pub returns : goal.returns
returns c =
    let a = c.args in
    let pre = c.requires in
    let edition = c.edition_of.ensures in
    let start = c.put_start.ensures in
    let p = c.fields_place.ensures in
    let q = c.fields_place-2.ensures in
    let fields = c.move_fields.ensures in
    head_moved a.b.now a.from a.to _ pre.0 p _ _ _ _ _ _ edition pre.1 q start fields

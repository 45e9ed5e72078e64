-- `writer::put_front` meets its contract: four parts, one behind the other. Assumes nothing.
use Rattle.archive.proofs.Put.{front_put}
use Rattle.archive.proofs.writer.put_front.Goals as goal

pub returns : goal.returns
returns c =
    let n = c.args.network in
    let start = c.put_start.ensures in
    let p = c.fields_place.ensures in
    let fields = c.put_fields.ensures in
    let channels = c.put_channels.ensures in
    let q = c.routes_place.ensures in
    front_put n _ _ _ _ _ _ _ _ _ _ _ p q start fields channels c.put_routes.ensures

-- `mover::move_parts` meets its contract: four parts, one behind the other. Assumes nothing.
use Rattle.archive.proofs.MoveParts.{fields_within, head_fits, channels_fit, routes_fit, sends_fit, parts_moved}
use native.Mathlib.Omega.{arith}
use Rattle.archive.proofs.mover.move_parts.Goals as goal

pub bounds-b-p : goal.bounds-b-p
bounds-b-p c =
    let pre = c.requires in
    let args = c.args in
    let fields_place = c.fields_place-p in
    let m = pre.0 in
    omega (arith, (fields_within args.b.now args.from _ m.head m.version fields_place.ensures).1)

pub overflow_add-p : goal.overflow_add-p
overflow_add-p c =
    let pre = c.requires in
    let args = c.args in
    let fields_place = c.fields_place-p in
    let m = pre.0 in
    omega (arith, (fields_within args.b.now args.from _ m.head m.version fields_place.ensures).1)

pub bounds-b-p-2 : goal.bounds-b-p-2
bounds-b-p-2 c =
    let pre = c.requires in
    let args = c.args in
    let fields_place = c.fields_place-p in
    let m = pre.0 in
    omega (arith, (fields_within args.b.now args.from _ m.head m.version fields_place.ensures).1)

pub move_head-requires : goal.move_head-requires
move_head-requires c =
    let fields_place = c.fields_place-p in
    let wide = c.wide-sites in
    let wide2 = c.wide-count in
    let a = c.args in
    let pre = c.requires in
    let place = fields_place.ensures in
    let S = wide.ensures.0 in
    let N = wide2.ensures.0 in
    let fit = head_fits a.b.now a.from a.to _ pre.0 place _ _ S N _ _ pre.1 pre.2 in
    (pre.0, pre.1, omega (arith, fit))

pub move_channels-requires : goal.move_channels-requires
move_channels-requires c =
    let a = c.args in
    let pre = c.requires in
    let place = c.fields_place-p.ensures in
    let S = c.wide-sites.ensures.0 in
    let N = c.wide-count.ensures.0 in
    let fit = channels_fit a.b.now a.from a.to _ pre.0 place _ _ S N _ _ pre.1 pre.2 in
    (fit.0, fit.1, omega (arith, fit.2), fit.3)

pub overflow_mul-sites-2 : goal.overflow_mul-sites-2
overflow_mul-sites-2 c =
    let fields_place = c.fields_place-p in
    let wide = c.wide-sites in
    let wide2 = c.wide-count in
    let routes_place = c.routes_place-routes in
    let routes_place2 = c.routes_place-place in
    let a = c.args in
    let pre = c.requires in
    let place = fields_place.ensures in
    let S = wide.ensures.0 in
    let N = wide2.ensures.0 in
    let fit =
    routes_fit a.b.now a.from a.to _ pre.0 place _ _ S N _ _ pre.1 pre.2 _ _ routes_place.ensures
    routes_place2.ensures in
    omega (arith, fit.0)

pub move_routes-requires : goal.move_routes-requires
move_routes-requires c =
    let fields_place = c.fields_place-p in
    let wide = c.wide-sites in
    let wide2 = c.wide-count in
    let routes_place = c.routes_place-routes in
    let routes_place2 = c.routes_place-place in
    let a = c.args in
    let pre = c.requires in
    let place = fields_place.ensures in
    let S = wide.ensures.0 in
    let N = wide2.ensures.0 in
    let fit =
    routes_fit a.b.now a.from a.to _ pre.0 place _ _ S N _ _ pre.1 pre.2 _ _ routes_place.ensures
    routes_place2.ensures in
    (fit.0, fit.1, omega (arith, fit.2))

pub move_sends-requires : goal.move_sends-requires
move_sends-requires c =
    let fields_place = c.fields_place-p in
    let wide = c.wide-sites in
    let wide2 = c.wide-count in
    let a = c.args in
    let pre = c.requires in
    let place = fields_place.ensures in
    let S = wide.ensures.0 in
    let N = wide2.ensures in
    let fit = sends_fit a.b.now a.from a.to _ pre.0 place _ _ S N.0 _ _ pre.1 pre.2 N.1 in
    (fit.0, fit.1, omega (arith, fit.2))

pub returns : goal.returns
returns c =
    let fields_place = c.fields_place-p in
    let wide = c.wide-sites in
    let wide2 = c.wide-count in
    let move_head = c.move_head in
    let move_channels = c.move_channels in
    let move_routes = c.move_routes in
    let move_sends = c.move_sends in
    let routes_place = c.routes_place-routes in
    let routes_place2 = c.routes_place-place in
    let a = c.args in
    let pre = c.requires in
    let place = fields_place.ensures in
    let S = wide.ensures.0 in
    let N = wide2.ensures.0 in
    let head = move_head.ensures in
    let channels = move_channels.ensures in
    let routes = move_routes.ensures in
    let sends = move_sends.ensures in
    parts_moved a.b.now a.from a.to _ pre.0 place _ _ S N _ _ pre.1 pre.2 _ _ routes_place.ensures
    routes_place2.ensures _ _ _ _ _ head channels routes sends

-- `reader::read_network` meets its contract: its parts are the definition's, by the laws of ReadLaws. Assumes nothing.
use native.Mathlib.Omega.{arith}
use Rattle.archive.proofs.ReadLaws.{channels_within, routes_within, network_read}
use Rattle.archive.proofs.reader.read_network.Goals as goal

pub read_channels-channels-requires : goal.read_channels-channels-requires
read_channels-channels-requires c =
    let fields_place = c.fields_place-p in
    let pre = c.requires in
    let wide2 = c.wide-sites in
    channels_within _ _ fields_place.ensures (pre) _ wide2.ensures.0

pub overflow_mul-sites-2 : goal.overflow_mul-sites-2
overflow_mul-sites-2 c =
    let fields_place = c.fields_place-p in
    let wide2 = c.wide-sites in
    let pre = c.requires in
    let routes_place = c.routes_place in
    let fields = fields_place.ensures in
    let sites = wide2.ensures.0 in
    omega (arith, (routes_within _ _ fields (pre) _ sites _ routes_place.ensures).0)

pub read_routes-routes-requires : goal.read_routes-routes-requires
read_routes-routes-requires c =
    let fields_place = c.fields_place-p in
    let wide2 = c.wide-sites in
    let pre = c.requires in
    let routes_place = c.routes_place in
    let fields = fields_place.ensures in
    let sites = wide2.ensures.0 in
    routes_within _ _ fields (pre) _ sites _ routes_place.ensures

pub returns : goal.returns
returns c =
    let fields = c.fields_place-p.ensures in
    let edition = c.edition_of-edition.ensures in
    let depth = c.wide-depth.ensures.0 in
    let sites = c.wide-sites.ensures.0 in
    let channels = c.read_channels-channels.ensures in
    let place = c.routes_place.ensures in
    network_read _ _ fields _ _ _ _ _ _ sites depth edition channels place c.read_routes-routes.ensures

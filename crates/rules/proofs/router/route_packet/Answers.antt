use Prim.Native.Nat.{◌*◌}
use mathlib.Core.Path.{◌≡◌, refl}
use lib.ListN.{length}
use borrow.Author.Rules.{rules}
use Rattle.base.specs.Sizes.{sites_most}
use Rattle.rules.specs.Router.{routes_only}
use Rattle.rules.proofs.Asked.{asked_whole, route_same}
use Rattle.rules.proofs.router.route_packet.Goals as goal

pub returns : goal.returns
returns c =
    let a = c.args in
    let n = a.network in
    let e : length n.routes ≡ sites_most * sites_most = search rules in
    rw (
      c.route_in.ensures,
      asked_whole n.routes n.sites a.s a.set e,
      route_same n (routes_only n.edition n.sites n.routes) refl refl a.s a.outputs refl a.set,
    ) refl

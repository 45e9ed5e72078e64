use Rattle.std.proofs.Common.{rules, refl}
use Rattle.base.specs.All.{all}
use Rattle.base.specs.Ranges.{all_in_range}
use Rattle.model.specs.Network.{route_ok}
use Rattle.checks.proofs.network.routes_ok.Goals as goal

pub returns : goal.returns
returns c =
    let n = c.args.network.now in
    all_in_range (λ s. all (route_ok n s) n.sites) n.sites _ _ _ c.all.ensures.ran refl (λ x b q k. search rules)

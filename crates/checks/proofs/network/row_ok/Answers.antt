use Rattle.std.proofs.Common.{rules, refl, ◌∙◌, ◌+◌, ◌*◌}
use lib.ListN.{get_or}
use Rattle.base.specs.Ranges.{all_in_range}
use Rattle.checks.specs.Network.{route_by}
use Rattle.checks.proofs.NetworkLaws.{row_by}
use Rattle.checks.proofs.network.row_ok.Goals as goal

pub returns : goal.returns
returns c =
    let a = c.args in
    let n = a.network.now in
    all_in_range (λ t. route_by c.ports_of-ports.result a.s t (get_or n.routes (a.s * n.sites + t) 0)) n.sites _ _ _
    c.all.ensures.ran refl (λ x b q k. search rules)
    ∙ row_by n a.s _ _ c.ports_of-ports.ensures

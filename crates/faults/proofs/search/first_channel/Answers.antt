-- `search::first_channel` meets its contract: every channel is tested, up to the first that fails. Assumes nothing.
use Rattle.std.proofs.Common.{rules, ◌*◌}
use Rattle.base.specs.Sizes.{port_count}
use Rattle.model.specs.Network.{channel_ok}
use Rattle.format.specs.Format.{network_of}
use Rattle.faults.proofs.Searched.{found_in_range}
use Rattle.faults.proofs.search.first_channel.Goals as goal

pub returns : goal.returns
returns c =
    let a = c.args in
    found_in_range (channel_ok (network_of a.b.now)) (port_count * a.sites) _ _ _ c.find.ensures.ran (λ x b q k. search rules)

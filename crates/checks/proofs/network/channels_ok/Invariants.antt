-- `network::channels_ok` meets its contract: the table of inputs that are fed stands for the test against every
-- channel before. Assumes nothing.
use Rattle.std.proofs.Common.{◌≡◌, true, ◌*◌, length}
use Rattle.base.specs.Sizes.{port_count, sites_most}
use Rattle.base.specs.All.{all}
use Rattle.checks.proofs.NetworkLaws.{channel_in, Fed}
use Rattle.checks.proofs.network.channels_ok.Given as goal

abbrev pub invariant-loop-channel : goal.invariant-loop-channel
invariant-loop-channel l =
    let n = l.fn.network in
    (all (channel_in n.channels (port_count * n.sites)) l.channel-index ≡ true)
    × Fed n.channels l.fed l.channel-index × (length l.fed ≡ port_count * sites_most)

-- `network::is_input` meets its contract: the site at the channel's end is below S. Assumes nothing.
use Rattle.checks.proofs.NetworkLaws.{input_below}
use Rattle.checks.proofs.network.is_input.Goals as goal

pub returns : goal.returns
returns c = input_below _ c.args.channel c.args.sites c.wider.ensures.0

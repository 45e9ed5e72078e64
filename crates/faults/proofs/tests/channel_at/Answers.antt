-- `tests::channel_at` meets its contract: the bytes are those of channel m. Assumes nothing.
use mathlib.Core.Path.{ap, ◌∙◌}
use Rattle.format.specs.Format.{channel_in}
use Rattle.faults.proofs.tests.channel_at.Goals as goal

pub returns : goal.returns
returns c =
    let args = c.args in
    c.channel_of.ensures ∙ ap (channel_in args.version args.b.now) c.channel_place-p.ensures

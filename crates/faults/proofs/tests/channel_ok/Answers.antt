-- `tests::channel_ok` meets its contract: its tests are the model's, over the bytes. Assumes nothing.
use Prim.Native.Nat.{◌+◌, ◌*◌, ◌≤◌, ◌<◌}
use native.Mathlib.Omega.{arith}
use lib.ListN.{length}
use Rattle.base.specs.Sizes.{port_count, sites_most}
use Rattle.format.specs.Format.{channel_place}
use Rattle.faults.proofs.Held.{sized, channel_inside}
use Rattle.faults.proofs.Fed.{channel_tested}
use Rattle.faults.proofs.tests.channel_ok.Goals as goal

pub channel_at-channel-requires : goal.channel_at-channel-requires
channel_at-channel-requires c =
    let held : (c.args.m < port_count * sites_most) × (channel_place c.args.version c.args.m + 2 ≤ length c.args.b.now) =
    let args = c.args in (
      omega (arith, (sized _ _ _ c.requires.0).few, c.requires.1),
      channel_inside args.b.now args.version args.sites c.requires.0 args.m c.requires.1,
    ) in
    held

pub is_first-is_new-requires : goal.is_first-is_new-requires
is_first-is_new-requires c =
    let held : (c.args.m < port_count * sites_most) × (channel_place c.args.version c.args.m + 2 ≤ length c.args.b.now) =
    let args = c.args in (
      omega (arith, (sized _ _ _ c.requires.0).few, c.requires.1),
      channel_inside args.b.now args.version args.sites c.requires.0 args.m c.requires.1,
    ) in
    held

pub returns : goal.returns
returns c =
    let args = c.args in
    channel_tested args.b.now args.version args.sites c.requires.0 args.m c.requires.1 _ _ _
    c.channel_at-channel.ensures c.is_input.ensures c.is_first-is_new.ensures

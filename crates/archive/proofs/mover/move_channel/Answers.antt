-- `mover::move_channel` meets its contract: read as the reader does, put as the writer does. Assumes nothing.
use mathlib.Core.Path.{refl, ◌∙◌}
use Rattle.archive.proofs.MoveParts.{channel_here}
use native.Mathlib.Omega.{arith}
use Rattle.archive.proofs.mover.move_channel.Goals as goal

pub put_channel-requires : goal.put_channel-requires
put_channel-requires c =
    let channel_place = c.channel_place-p in
    let channel_of = c.channel_of-channel in
    let channel_place2 = c.channel_place in
    let pre = c.requires in
    let a = c.args in
    let here = channel_here a.from a.b.now a.k _ _ channel_place.ensures channel_of.ensures in
    (omega (arith, channel_place2.ensures, pre.2), rw here pre.3)

pub returns : goal.returns
returns c =
    let channel_place = c.channel_place-p in
    let channel_of = c.channel_of-channel in
    let put_channel = c.put_channel in
    let channel_place2 = c.channel_place in
    let a = c.args in
    let here = channel_here a.from a.b.now a.k _ _ channel_place.ensures channel_of.ensures in
    put_channel.ensures ∙ rw (here, channel_place2.ensures) refl

-- `mover::move_channels` meets its contract: a channel a turn. Assumes nothing.
use mathlib.Core.Path.{◌≡◌, refl, ◌∙◌, subst}
use Rattle.format.specs.Format.{channel_width, head_length}
use Rattle.archive.specs.Code.{Narrow}
use Rattle.archive.proofs.Holds.{part_ends}
use Rattle.archive.proofs.Parts.{channel_inside}
use Rattle.archive.proofs.Put.{channels_none}
use Rattle.archive.proofs.MoveParts.{channel_there, channel_turn}
use native.Mathlib.Omega.{arith}
use Rattle.archive.proofs.mover.move_channels.Goals as goal

pub loop-k-init : goal.loop-k-init
loop-k-init c =
    let args = c.args in
    (omega arith, refl, channels_none args.to _ _ (head_length args.to))

pub move_channel-requires : goal.move_channel-requires
move_channel-requires c =
    let a = c.args in
    let l = c.loop-k in
    let test = c.loop-k-test.true in
    let pre = c.requires in
    let there = channel_there a.from a.to a.b.now a.n l.k test pre.0 in
    let ends = part_ends (channel_width a.to) l.k a.n test in (
      omega arith,
      channel_inside a.from l.k a.n _ test pre.1,
      omega (arith, ends, pre.2, l.invariant.1),
      subst (Narrow a.to) there (pre.3 l.k test),
    )

pub loop-k-preserved : goal.loop-k-preserved
loop-k-preserved c =
    let loop_test = c.loop-k-test in
    let move_channel = c.move_channel in
    let a = c.args in
    let l = c.loop-k in
    let pre = c.requires in
    let turn =
    channel_turn a.from a.to a.b.now a.n l.k loop_test.true pre.0 _ _ _ l.invariant.1 pre.2
    l.invariant.2 move_channel.ensures in
    (omega arith, turn.0, turn.1)

pub shape_of-out : goal.shape_of-out
shape_of-out c = c.loop-k.invariant.1

pub returns : goal.returns
returns c =
    let loop = c.loop-k in
    let args = c.args in
    let e : loop.k ≡ args.n = omega arith in loop.invariant.2 ∙ rw e refl

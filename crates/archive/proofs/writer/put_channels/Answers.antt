-- `writer::put_channels` meets its contract: a channel a turn. Assumes nothing.
use mathlib.Core.Path.{◌≡◌, refl, ap, ◌∙◌}
use native.Mathlib.Omega.{arith}
use lib.ListN.{length, get_or}
use Rattle.format.specs.Format.{channel_width, head_length}
use Rattle.archive.proofs.Holds.{part_ends}
use Rattle.archive.proofs.Parts.{length_channel}
use Rattle.archive.proofs.Put.{channels_none, channels_turn, length_put}
use Rattle.archive.proofs.writer.put_channels.Goals as goal

pub loop-k-init : goal.loop-k-init
loop-k-init c =
    let args = c.args in
    (omega arith, refl, channels_none args.version args.channels _ (head_length args.version))

pub overflow_cast-k : goal.overflow_cast-k
overflow_cast-k c = omega arith

pub offset_bounds-channels-k : goal.offset_bounds-channels-k
offset_bounds-channels-k c = omega arith

pub bounds-channels-k : goal.bounds-channels-k
bounds-channels-k c = omega arith

pub put_channel-requires : goal.put_channel-requires
put_channel-requires c =
    let a = c.args in
    let l = c.loop-k in
    let test = c.loop-k-test.true in
    let pre = c.requires in
    let ends = part_ends (channel_width a.version) l.k a.n test in
    (omega (arith, ends, c.channel_place.ensures, pre.1, l.invariant.1), pre.2 l.k test)

pub loop-k-preserved : goal.loop-k-preserved
loop-k-preserved c =
    let a = c.args in
    let l = c.loop-k in
    let put_channel = c.put_channel in
    let channel_place = c.channel_place in
    let pre = c.requires in
    let loop_test = c.loop-k-test in
    let v = a.version in
    let place = channel_place.ensures in
    let room = pre.1 in
    let ends = part_ends (channel_width v) l.k a.n loop_test.true in
    let wide = length_channel v (get_or a.channels l.k 0) in (
      omega arith,
      ap length put_channel.ensures
          ∙ length_put _ _ _ (omega (arith, ends, place, room, wide, l.invariant.1))
          ∙ l.invariant.1,
      channels_turn v a.channels _ _ _ l.k _ l.invariant.2 put_channel.ensures place
          (omega (arith, ends, place, room)),
    )

pub shape_of-out : goal.shape_of-out
shape_of-out c = c.loop-k.invariant.1

pub returns : goal.returns
returns c =
    let loop = c.loop-k in
    let args = c.args in
    let e : loop.k ≡ args.n = omega arith in loop.invariant.2 ∙ rw e refl

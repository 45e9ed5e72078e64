-- `mover::move_sends` meets its contract: a send a turn. Assumes nothing.
use mathlib.Core.Path.{◌≡◌, refl, ◌∙◌}
use Rattle.format.specs.Format.{sends_place, send_width}
use Rattle.archive.proofs.Holds.{part_ends}
use Rattle.archive.proofs.Put.{sends_none}
use Rattle.archive.proofs.MoveParts.{send_turn_lem}
use native.Mathlib.Omega.{arith}
use Rattle.archive.proofs.mover.move_sends.Goals as goal

pub loop-k-init : goal.loop-k-init
loop-k-init c =
    let args = c.args in
    (omega arith, refl, sends_none args.to _ _ (sends_place args.to args.sites))

pub overflow_cast-k : goal.overflow_cast-k
overflow_cast-k c = omega arith

pub move_send-requires : goal.move_send-requires
move_send-requires c =
    let a = c.args in
    let l = c.loop-k in
    let pre = c.requires in
    let own = part_ends (send_width a.from) l.k a.n c.loop-k-test.true in
    let ends = part_ends (send_width a.to) l.k a.n c.loop-k-test.true in
    (omega (arith, own, pre.1), omega (arith, ends, pre.2, l.invariant.1))

pub loop-k-preserved : goal.loop-k-preserved
loop-k-preserved c =
    let loop_test = c.loop-k-test in
    let move_send = c.move_send in
    let a = c.args in
    let l = c.loop-k in
    let pre = c.requires in
    let p = sends_place a.from a.sites in
    let q = sends_place a.to a.sites in
    let turn =
    send_turn_lem a.from a.to a.b.now a.n l.k loop_test.true p q pre.0 _ _ _ l.invariant.1 pre.2
    l.invariant.2 move_send.ensures in
    (omega arith, turn.0, turn.1)

pub shape_of-out : goal.shape_of-out
shape_of-out c = c.loop-k.invariant.1

pub returns : goal.returns
returns c =
    let loop = c.loop-k in
    let args = c.args in
    let e : loop.k ≡ args.n = omega arith in loop.invariant.2 ∙ rw e refl

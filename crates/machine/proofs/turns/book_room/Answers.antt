use Prim.Native.Nat.{◌+◌}
use mathlib.Core.Path.{◌≡◌}
use native.Mathlib.Omega.{arith}
use borrow.Author.Rules.{rules}
use lib.ListN.{length}
use Rattle.std.proofs.lemmas.List.{length-take}
use Rattle.base.specs.Sizes.{sends_most}
use Rattle.machine.proofs.PlayerRoom.{sizes_none, sizes_more, sizes_most, space_by}
use Rattle.machine.proofs.turns.book_room.Goals as goal

pub loop-send-init : goal.loop-send-init
loop-send-init c = sizes_none c.args.sends

pub overflow_add-sum : goal.overflow_add-sum
overflow_add-sum c =
    let sends = c.args.sends in
    let all : length sends ≡ sends_most = search rules in
    let l = c.loop-send in
    omega (
      arith,
      sizes_more sends c.min.result l.send-index c.loop-send-test.true l.invariant c.size-sum.ensures,
      sizes_most sends (l.send-index + 1),
      length-take c.min.result sends,
    )

pub loop-send-preserved : goal.loop-send-preserved
loop-send-preserved c =
    sizes_more c.args.sends c.min.result c.loop-send.send-index c.loop-send-test.true c.loop-send.invariant c.size-sum.ensures

pub overflow_mul-result : goal.overflow_mul-result
overflow_mul-result c =
    let sends = c.args.sends in
    let all : length sends ≡ sends_most = search rules in
    let l = c.loop-send in
    omega (arith, l.invariant, sizes_most sends l.send-index, length-take c.min.result sends)

pub returns : goal.returns
returns c =
    let sends = c.args.sends in
    let all : length sends ≡ sends_most = search rules in
    let l = c.loop-send in
    let e : l.send-index ≡ c.min.result = omega (arith, length-take c.min.result sends) in
    space_by sends c.args.count _ l.sum c.min.ensures (rw e at l.invariant)

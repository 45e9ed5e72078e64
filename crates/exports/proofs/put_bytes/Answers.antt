-- `put_bytes` meets its contract: byte by byte, as many as there are. Assumes nothing.
use mathlib.Core.Path.{◌≡◌, refl, sym, ap, ◌∙◌}
use Prim.Native.Nat.{ℕ}
use native.Mathlib.Omega.{arith}
use lib.ListN.{length, length-set}
use Rattle.base.specs.Over.{over, over_none, over_step}
use Rattle.format.specs.Format.{at}
use Rattle.exports.proofs.CopyWays.{all_put}
use Rattle.exports.proofs.put_bytes.Goals as goal

pub loop-i-init : goal.loop-i-init
loop-i-init c = (omega arith, refl, sym (over_none _ _))

pub loop-i-preserved : goal.loop-i-preserved
loop-i-preserved c =
    let loop = c.loop-i in
    let pre = c.requires in
    (omega arith, simp length-set loop.invariant.1, over_step _ _ _ _ _ loop.invariant.2 refl (omega (arith, pre)))

pub shape_of-out : goal.shape_of-out
shape_of-out c = c.loop-i.invariant.1

pub returns : goal.returns
returns c =
    let b = c.args.bytes.now in
    let out = c.args.out.now in
    let e : c.loop-i.i ≡ length b = omega arith in
    c.loop-i.invariant.2 ∙ ap (λ (k : ℕ). over (at b) k out) e ∙ all_put b out c.requires

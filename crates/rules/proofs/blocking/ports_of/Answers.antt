use mathlib.Core.Path.{◌≡◌, refl, sym, ap, ◌∙◌}
use mathlib.Core.Bool.{Bool, ◌&&◌}
use Prim.Native.Nat.{ℕ}
use native.Mathlib.Omega.{arith}
use borrow.Author.Tests.{lt-ltb}
use Rattle.base.specs.Sizes.{output_count, set_bits}
use Rattle.sets.specs.Sets.{those}
use Rattle.sets.proofs.LawsThose.{those_more}
use Rattle.model.specs.Router.{is_port, listed}
use Rattle.rules.proofs.blocking.ports_of.Goals as goal
use Rattle.rules.proofs.blocking.ports_of.Goals.{then-is_way, else-is_way}

pub loop-j-init : goal.loop-j-init
unfolding those
loop-j-init c = (omega arith, refl)

pub loop-j-preserved : goal.loop-j-preserved
loop-j-preserved c =
    let l = c.loop-j in
    let f : ℕ → Bool = λ i. is_port i && listed c.args.list i in
    let way = c.is_way.ensures in
    let more = those_more f l.j in
    elim c.if-is_way.branch [
      | then-is_way w ↦ (
        omega arith,
        w.set-is ∙ rw (
          w.with-set.ensures,
          lt-ltb l.j set_bits (omega arith),
          l.invariant.1,
          more,
          sym way ∙ w.if-is_way.true,
        ) refl,
      )
      | else-is_way w ↦ (omega arith, w.set-is ∙ rw (l.invariant.1, more, sym way ∙ w.if-is_way.false) refl)
    ]

pub returns : goal.returns
returns c =
    let l = c.loop-j in
    let f : ℕ → Bool = λ i. is_port i && listed c.args.list i in
    let e : l.j ≡ output_count = omega arith in
    l.invariant.1 ∙ ap (those f) e

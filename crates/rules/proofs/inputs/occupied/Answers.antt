use mathlib.Core.Path.{◌≡◌, refl}
use native.Mathlib.Omega.{arith}
use borrow.Author.Rules.{rules}
use borrow.Author.Tests.{eq-eqb, ne_eqb}
use lib.ListN.{length}
use Rattle.base.specs.Sizes.{output_count}
use Rattle.model.specs.Types.{no_output}
use Rattle.model.specs.NetInput.{occupy}
use Rattle.rules.proofs.Filled.{begun, stores, keeps, ended}
use Rattle.rules.proofs.inputs.occupied.Goals as goal
use Rattle.rules.proofs.inputs.occupied.Goals.{then-set-ne0, else-set-ne0}

pub loop-j-init : goal.loop-j-init
loop-j-init c = begun

pub loop-j-preserved : goal.loop-j-preserved
loop-j-preserved c =
    let n : length c.args.outputs ≡ output_count = search rules in
    let w = c.loop-j.invariant in
    elim c.if-set-ne0.branch [
      | then-set-ne0 b ↦ stores (omega arith) w _ _ b.next-is (rw (b.taken.ensures, ne_eqb _ 0 b.if-set-ne0.true) refl)
      | else-set-ne0 b ↦ keeps (omega arith) w _ no_output b.next-is (rw (eq-eqb _ 0 b.if-set-ne0.false) refl)
    ]

pub returns : goal.returns
unfolding occupy
returns c = ended output_count c.loop-j.invariant (omega arith)

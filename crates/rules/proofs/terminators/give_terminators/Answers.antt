use mathlib.Core.Path.{◌≡◌, refl}
use native.Mathlib.Omega.{arith}
use borrow.Author.Rules.{rules}
use lib.ListN.{length}
use Rattle.base.specs.Sizes.{output_count}
use Rattle.model.specs.Types.{no_output}
use Rattle.model.specs.NetInput.{give}
use Rattle.rules.proofs.Filled.{begun, stores, keeps, ended}
use Rattle.rules.proofs.terminators.give_terminators.Goals as goal
use Rattle.rules.proofs.terminators.give_terminators.Goals.{then-marked, else-marked}

pub loop-j-init : goal.loop-j-init
loop-j-init c = begun

pub loop-j-preserved : goal.loop-j-preserved
loop-j-preserved c =
    let n : length c.args.outputs ≡ output_count = search rules in
    let w = c.loop-j.invariant in
    elim c.if-marked.branch [
      | then-marked b ↦ stores (omega arith) w _ _ b.next-is (rw (b.with_terminator.ensures, b.if-marked.true) refl)
      | else-marked b ↦ keeps (omega arith) w _ no_output b.next-is (rw b.if-marked.false refl)
    ]

pub returns : goal.returns
unfolding give
returns c = ended output_count c.loop-j.invariant (omega arith)

use mathlib.Core.Path.{refl}
use borrow.Author.Rules.{rules}
use Rattle.base.specs.Sizes.{output_count}
use Rattle.base.specs.Bools.{implies}
use Rattle.base.specs.Ranges.{all_in_range}
use Rattle.model.specs.Types.{mark}
use Rattle.rules.proofs.inputs.all_ready.Goals as goal

pub returns : goal.returns
returns c =
    let a = c.args in
    rw (all_in_range (λ j. implies (mark a.marks j) (mark a.ready j)) output_count _ _ _ c.all.ensures.ran refl
    (λ x b q k. search rules)) refl

use Rattle.std.proofs.Common.{rules, refl}
use Rattle.base.specs.Sizes.{output_count}
use Rattle.base.specs.Bools.{implies}
use Rattle.base.specs.Ranges.{all_in_range}
use Rattle.model.specs.Types.{mark, out_of}
use Rattle.model.specs.Range.{fed_by}
use Rattle.checks.proofs.range.places.marks_ok.Goals as goal

pub returns : goal.returns
returns c =
    let a = c.args in
    all_in_range (λ j. implies (mark a.marks j) (fed_by a.i (out_of a.outputs j))) output_count _ _ _ c.all.ensures.ran refl
    (λ x b q k. search rules)

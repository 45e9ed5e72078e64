use Rattle.std.proofs.Common.{rules, refl}
use lib.ListN.{get_or}
use mathlib.Core.Bool.{◌&&◌}
use Rattle.base.specs.Sizes.{input_count}
use Rattle.base.specs.Ranges.{all_in_range}
use Rattle.model.specs.Types.{input_d, out_of}
use Rattle.model.specs.Range.{input_ok, output_ok}
use Rattle.checks.proofs.RangeLaws.{all_two}
use Rattle.checks.proofs.range.net_places_ok.Goals as goal

pub returns : goal.returns
returns c =
    let a = c.args in
    all_two (λ i. input_ok a.limits.edition a.limits.sites a.limits.tries a.limits.counter a.outputs i (get_or a.inputs i input_d))
    (λ j. output_ok a.limits.edition a.limits.sites a.limits.counter j (out_of a.outputs j)) input_count _ _
    (all_in_range (λ i. input_ok a.limits.edition a.limits.sites a.limits.tries a.limits.counter a.outputs i (get_or a.inputs i input_d)
    && output_ok a.limits.edition a.limits.sites a.limits.counter i (out_of a.outputs i)) input_count _ _ _ c.all.ensures.ran refl
    (λ x b q k. search rules))
    c.output_ok.ensures

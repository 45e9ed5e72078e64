use mathlib.Core.Path.{refl}
use Rattle.checks.proofs.RangeLaws.{pick_first, pick_second}
use Rattle.checks.proofs.range.places.output_ok.Goals as goal

pub returns-then-output : goal.returns-then-output
returns-then-output c =
    pick_first _ _ _ _ c.if-output.true
    (rw (
      c.is_restricted.ensures,
      c.closing_ok.ensures,
      c.is_keep.ensures,
      c.wide.ensures.0,
      c.tag_ok.ensures,
    ) refl)

pub returns : goal.returns
returns c = pick_second _ _ _ _ c.if-output.false c.zero_output.ensures

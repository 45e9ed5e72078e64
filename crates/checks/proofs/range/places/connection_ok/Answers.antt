use mathlib.Core.Path.{refl}
use Rattle.checks.proofs.range.places.connection_ok.Goals as goal

pub returns : goal.returns
returns c =
    rw (
      c.branch_ok.ensures,
      c.any_remote.ensures,
      c.is_aborting.ensures,
      c.marks_ok.ensures,
      c.is_splitting-splitting.ensures,
      c.is_connected-connected.ensures,
      c.any_mark-any.ensures,
    ) refl

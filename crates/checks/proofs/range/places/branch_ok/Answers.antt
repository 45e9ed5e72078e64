use mathlib.Core.Path.{refl}
use Rattle.checks.proofs.range.places.branch_ok.Goals as goal

pub returns : goal.returns
returns c = rw (c.is_restricted-restricted.ensures, c.is_splitting-splitting.ensures, c.is_branching-branching.ensures) refl

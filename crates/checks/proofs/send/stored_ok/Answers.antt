-- `send::stored_ok` meets its contract: its tests are the definition's. Assumes nothing.
use mathlib.Core.Path.{refl}
use Rattle.checks.proofs.send.stored_ok.Goals as goal

pub returns : goal.returns
returns c = rw (c.wide-at.ensures.0, c.is_targets-targets.ensures) refl

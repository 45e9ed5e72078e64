-- `draws::codes_in` meets its contract. Assumes nothing.
use mathlib.Core.Path.{refl}
use Rattle.draws.proofs.codes_in.Goals as goal

pub returns-then-is_restricted : goal.returns-then-is_restricted
returns-then-is_restricted c = rw (← c.is_restricted.ensures, c.if-is_restricted.true) refl

pub returns-else-is_restricted : goal.returns-else-is_restricted
returns-else-is_restricted c = rw (← c.is_restricted.ensures, c.if-is_restricted.false) refl

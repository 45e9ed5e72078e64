use mathlib.Core.Path.{refl}
use native.Mathlib.Numerals.{add-one}
use Rattle.machine.proofs.store.pass_on.Goals as goal

pub returns : goal.returns
returns c = rw (c.from-u.ensures, c.from-k.ensures, add-one) refl

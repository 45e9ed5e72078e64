use mathlib.Core.Path.{refl}
use Rattle.layout.specs.Packed.{input_from}
use Rattle.layout.specs.Words.{input_at}
use Rattle.layout.proofs.Decoded.{input_at_lem}
use Rattle.words.proofs.load.phase_of.Goals as goal

pub returns : goal.returns
unfolding input_at input_from
returns c = rw (input_at_lem _ _ c.requires.0 c.args.i c.requires.1, c.phase_from.ensures, c.fields_at.ensures) refl

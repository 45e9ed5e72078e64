use mathlib.Core.Path.{ap₂, ◌∙◌}
use Rattle.layout.specs.Packed.{in_entry_from}
use Rattle.layout.specs.Words.{arrived_at}
use Rattle.words.proofs.load.load_in_entry.Goals as goal

pub returns : goal.returns
unfolding arrived_at
returns c = c.in_entry_from.ensures ∙ ap₂ in_entry_from c.set_at.ensures c.fields_at.ensures

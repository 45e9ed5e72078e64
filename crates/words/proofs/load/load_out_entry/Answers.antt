use mathlib.Core.Path.{ap₂, ◌∙◌}
use Rattle.layout.specs.Packed.{out_entry_from}
use Rattle.layout.specs.Words.{leaving_at}
use Rattle.words.proofs.load.load_out_entry.Goals as goal

pub returns : goal.returns
unfolding leaving_at
returns c = c.out_entry_from.ensures ∙ ap₂ out_entry_from c.set_at.ensures c.fields_at.ensures

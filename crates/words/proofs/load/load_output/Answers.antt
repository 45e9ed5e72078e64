use Rattle.layout.proofs.Decoded.{output_loaded}
use Rattle.words.proofs.load.load_output.Goals as goal

pub returns : goal.returns
returns c =
    output_loaded _ _ c.requires.0 _ _ _ _ c.requires.1
    c.set_at.ensures c.fields_at.ensures c.output_from.ensures

use Rattle.layout.proofs.Decoded.{input_loaded}
use Rattle.words.proofs.load.load_input.Goals as goal

pub returns : goal.returns
returns c =
    input_loaded _ _ c.requires.0 _ _ _ _ c.requires.1
    c.set_at.ensures c.fields_at.ensures c.input_from.ensures

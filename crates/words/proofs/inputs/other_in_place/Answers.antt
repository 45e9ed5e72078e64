use Rattle.words.proofs.InputArm.{flags_done}
use Rattle.words.proofs.inputs.other_in_place.Goals as goal

pub returns : goal.returns
returns c =
    flags_done _ _ _ _ _ _ _ _ c.load_input-input.ensures c.readies-ready.ensures
    c.ready_in_place.ensures

use Rattle.words.proofs.InputArm.{quiet_none}
use Rattle.words.proofs.inputs.input_in_place.Goals as goal

pub returns-in-0 : goal.returns-in-0
returns-in-0 c = quiet_none _ _ _ _ _ c.told-words c.state_of-number.ensures c.in-0.is

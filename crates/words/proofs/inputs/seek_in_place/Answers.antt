use Rattle.words.proofs.InputArm.{sought_done}
use Rattle.words.proofs.inputs.seek_in_place.Goals as goal

pub returns : goal.returns
returns c =
    let pre = c.requires in
    let turn = c.seeking-turn.ensures in
    sought_done _ _ _ _ _ c.args.network.now _ _ pre.asks turn.routes pre.place pre.seeks turn.turn c.opening-marks.ensures c.put_input.ensures

use Rattle.words.proofs.InputArm.{waits_none, ready_done}
use borrow.Author.Rules.{rules}
use Rattle.words.proofs.inputs.ready_in_place.Goals as goal

pub returns-then-has_to_wait : goal.returns-then-has_to_wait
returns-then-has_to_wait c =
    let pre = c.requires in
    waits_none _ _ _ _ _ _ (search rules) pre.2 c.has_to_wait.ensures c.if-has_to_wait.true

pub returns : goal.returns
returns c =
    ready_done _ _ _ _ _ _ c.args.input _ _ c.requires.0 c.requires.2 c.requires.3 c.touched-marks.ensures
    c.other_turn-turn.ensures c.put_input.ensures

use Rattle.words.proofs.Acts.{operator_none, work_done_lem}
use Rattle.words.proofs.arms.operator_in_place.Goals as goal

pub returns-then-in_count-front_lacks : goal.returns-then-in_count-front_lacks
returns-then-in_count-front_lacks c =
    operator_none _ _ c.told-words _ _ _ _ c.in_count.ensures c.front_lacks.ensures c.if-in_count-front_lacks.true

pub returns : goal.returns
returns c = work_done_lem _ _ _ _ _ _ _ c.operator_turn-turn.ensures c.put_work.ensures

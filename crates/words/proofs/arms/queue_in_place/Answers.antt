use Rattle.words.proofs.Acts.{queue_none}
use Rattle.words.proofs.Acts.{queue_done}
use borrow.Author.Rules.{rules}
use Rattle.words.proofs.arms.queue_in_place.Goals as goal

pub returns-then-out_count-eq0 : goal.returns-then-out_count-eq0
returns-then-out_count-eq0 c = queue_none _ _ (search rules) _ c.out_count.ensures c.if-out_count-eq0.true

pub returns : goal.returns
returns c = queue_done _ _ _ _ _ c.queue_turn-turn.ensures c.put_queue.ensures

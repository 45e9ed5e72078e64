-- `queues::last_of` meets its contract: the place before the count. (Answered here, so that the edit of it is refused at a proof.)
use Rattle.std.proofs.Common.{rules}
use Rattle.rules.proofs.queues.last_of.Goals as goal

pub returns : goal.returns
returns c = search rules

-- A player's answer is told as it says. (A refusal is answered here, so that the edit of it is refused at a proof.)
use Rattle.std.proofs.Common.{rules}
use Rattle.machine.proofs.player.PlayAnswerFromResultCountsRefusal.from.Goals as goal

pub returns-in-Err : goal.returns-in-Err
returns-in-Err c = search rules

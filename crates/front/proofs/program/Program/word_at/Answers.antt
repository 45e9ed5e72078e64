-- `Program::word_at` meets its contract: no byte of a word that is not there. (Answered here, so that the edit of it is refused
-- at a proof.)
use Rattle.std.proofs.Common.{rules}
use Rattle.front.proofs.program.Program.word_at.Goals as goal

pub returns-in-Err-NotPresent : goal.returns-in-Err-NotPresent
returns-in-Err-NotPresent c = search rules

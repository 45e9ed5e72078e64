-- `Program::called` meets its contract: the first word stands behind the front's name, or behind the program's. (Answered here, so
-- that the edit of it is refused at a proof.)
use Rattle.std.proofs.Common.{rules}
use Rattle.front.proofs.program.Program.called.Goals as goal

pub returns : goal.returns
returns c = search rules

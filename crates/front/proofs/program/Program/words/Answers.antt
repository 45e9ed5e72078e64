-- `Program::words` meets its contract: they begin with the first. (Answered here, so that the edit of it is refused at a proof.)
use Rattle.std.proofs.Common.{rules}
use Rattle.front.proofs.program.Program.words.Goals as goal

pub returns : goal.returns
returns c = search rules

-- `Program::show_usage` meets its contract: wrong use is told as wrong. (Answered here, so that the edit of it is refused at a proof.)
use Rattle.std.proofs.Common.{rules}
use Rattle.front.proofs.program.Program.show_usage.Goals as goal

pub returns-in-Misuse : goal.returns-in-Misuse
returns-in-Misuse c = search rules

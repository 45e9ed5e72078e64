-- `Line::clear` meets its contract: no byte, and the room as it was. (Answered here, so that the edit of it is refused at a proof.)
use Rattle.std.proofs.Common.{rules}
use Rattle.front.proofs.line.Line.clear.Goals as goal

pub returns : goal.returns
returns c = search rules

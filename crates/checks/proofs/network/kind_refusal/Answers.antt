-- `network::kind_refusal` meets its contract. (Edition 3 is answered here, so that the edit of it is refused at a proof.)
use Rattle.std.proofs.Common.{rules}
use Rattle.checks.proofs.network.kind_refusal.Goals as goal

pub returns-in-2-default : goal.returns-in-2-default
returns-in-2-default c = search rules

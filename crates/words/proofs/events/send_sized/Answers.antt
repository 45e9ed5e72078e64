use Rattle.std.proofs.Common.{sym}
use Rattle.base.specs.Refusals.{number_nonzero}
use Rattle.words.proofs.Publics.{sendable}
use Rattle.words.proofs.Answered.{send_shared, send_done}
use Rattle.words.proofs.events.send_sized.Goals as goal

pub returns-in-Err : goal.returns-in-Err
returns-in-Err c = rw c.from.ensures (send_shared _ _ _ _ _ c.in-Err.ensures (number_nonzero c.in-Err.refusal))

pub send_in_place-requires : goal.send_in_place-requires
send_in_place-requires c = sendable _ _ (sym c.in_default.ensures)

pub returns : goal.returns
returns c = send_done _ _ _ _ _ _ (sym c.in_default.ensures) c.send_in_place.ensures

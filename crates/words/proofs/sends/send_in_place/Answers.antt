use Rattle.std.proofs.Common.{refl, rules}
use Rattle.base.specs.Refusals.{number_nonzero}
use Rattle.words.proofs.Taken.{took_accepted, took_refused}
use Rattle.words.proofs.sends.send_in_place.Goals as goal

pub returns-in-Err : goal.returns-in-Err
returns-in-Err c = rw c.from.ensures (took_refused _ _ _ _ _ _ (search rules) c.in-Err.ensures (number_nonzero c.in-Err.refusal))

pub returns : goal.returns
returns c = took_accepted _ _ _ _ _ _ _ _ c.in_default.ensures refl c.accept.ensures

-- `reader::check` meets its contract: the refusal of what the bytes are judged. Assumes nothing.
use Rattle.std.proofs.Common.{ap, ◌∙◌}
use Rattle.format.specs.Faults.{Fault}
use Rattle.archive.proofs.Answers.{fault_refusal}
use Rattle.archive.proofs.reader.check.Goals as goal

pub returns-in-Some : goal.returns-in-Some
returns-in-Some c = ap (λ (x : Fault). x.refusal) c.in-Some.ensures ∙ fault_refusal _

pub returns-in-None : goal.returns-in-None
returns-in-None c = ap (λ (x : Fault). x.refusal) c.in-None.ensures ∙ fault_refusal _

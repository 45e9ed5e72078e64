-- `fennqualo_back` meets its contract: the refusal of a move's answer. Assumes nothing.
use Rattle.std.proofs.Common.{ap, ◌∙◌}
use Rattle.format.specs.Refusals.{Written}
use Rattle.archive.proofs.MoveLaws.{answer_refusal, told_refusal}
use Rattle.exports.proofs.fennqualo_back.Goals as goal

pub returns : goal.returns
returns c =
    let m = c.move_back.ensures in
    (c.told.ensures ∙ told_refusal _ ∙ ap (λ (w : Written). w.refusal) m.0 ∙ answer_refusal _ _ _ _, m.1)

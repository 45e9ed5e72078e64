use Rattle.words.proofs.Answered.{send_unsized}
use Rattle.words.proofs.events.send.Goals as goal

pub returns-in-None : goal.returns-in-None
returns-in-None c =
    let a = c.args in
    rw (c.from.ensures, c.form_refusal.ensures) (send_unsized a.network a.words.now a.site a.set c.in-None.ensures.cases)

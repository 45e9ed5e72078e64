use Rattle.words.proofs.Answered.{run_unsized}
use Rattle.words.proofs.events.run.Goals as goal

pub returns-in-None : goal.returns-in-None
returns-in-None c =
    let a = c.args in
    rw (c.run_refused.ensures, c.form_refusal.ensures) (run_unsized a.network a.words.now a.site a.code c.in-None.ensures.cases)

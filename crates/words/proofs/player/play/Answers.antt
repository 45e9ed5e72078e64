use Rattle.std.proofs.Common.{◌≡◌, ap, sym, ◌∙◌}
use Rattle.base.specs.Refusals.{number, number_of, number_nonzero}
use Rattle.machine.specs.Play.{refused_by, told_start}
use Rattle.machine.proofs.PlayerAnswers.{play_refused, play_done}
use Rattle.words.proofs.player.play.Goals as goal

pub returns-in-Some : goal.returns-in-Some
returns-in-Some c =
    let a = c.args in
    let e = c.in-Some.refusal in
    let z : number_of c.start-started.result.refused ≡ number e = ap number_of c.in-Some.is in
    let w = play_refused a.bytes.now a.book.now {d = told_start c.start-started.result} c.start-started.ensures.0
    (λ y. number_nonzero e (sym z ∙ y)) in
    (ap refused_by (sym z) ∙ w.0, w.1)

pub play_run-requires : goal.play_run-requires
play_run-requires c = c.start-started.ensures.1 c.in_default.is

pub returns : goal.returns
returns c =
    let a = c.args in
    play_done a.bytes.now a.book.now {d = told_start c.start-started.result} c.start-started.ensures.0 (ap number_of c.in_default.is)
    c.play_run.ensures.0 c.play_run.ensures.1

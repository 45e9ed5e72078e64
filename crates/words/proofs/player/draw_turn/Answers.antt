use Rattle.std.proofs.Common.{sym, ap, ◌∙◌}
use Rattle.draws.specs.Draws.{told}
use Rattle.draws.proofs.Laws.{event_ok}
use Rattle.words.proofs.TurnLaws.{named_site, drew_on}
use Rattle.words.proofs.player.draw_turn.Goals as goal

pub unwrap-event-requires : goal.unwrap-event-requires
unwrap-event-requires c =
    let n = c.args.network.now in
    event_ok n.edition n.sites c.ticked-clock.result.value c.event_of.result c.event_of.ensures c.requires.some c.requires.few

pub run_in_place-answer-requires : goal.run_in_place-answer-requires
run_in_place-answer-requires c =
    let p = c.requires in
    let named = ap told (sym c.unwrap-event.ensures) ∙ c.event_of.ensures in
    p.runs_at _ (named_site _ _ _ _ named p.some p.few)

pub returns : goal.returns
returns c =
    let named = ap told (sym c.unwrap-event.ensures) ∙ c.event_of.ensures in
    drew_on _ _ _ _ _ _ _ _ _ _ c.ticked-clock.ensures named c.run_in_place-answer.ensures c.enter_answer-serviced.ensures

use mathlib.Core.Path.{refl}
use Rattle.words.proofs.TurnLaws.{send_turned, draw_turned}
use Rattle.words.proofs.player.take_turn.Goals as goal

pub returns-then-is_due : goal.returns-then-is_due
returns-then-is_due c =
    let if1 = c.if-is_due in
    let is_due = c.is_due in
    send_turned _ _ _ _ _ _ _ _ _ _ is_due.ensures if1.true c.send_turn.ensures refl

pub returns-else-is_due : goal.returns-else-is_due
returns-else-is_due c =
    let draw_turn = c.draw_turn in
    let if1 = c.if-is_due in
    let is_due = c.is_due in
    let pre = c.requires in
    let p = pre in
    draw_turned _ _ _ _ _ _ _ _ _ _ is_due.ensures if1.false p.some p.few draw_turn.ensures

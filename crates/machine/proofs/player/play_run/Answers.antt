use mathlib.Core.Path.{refl, sym, ap, ◌∙◌}
use Prim.Native.Nat.{◌+◌}
use Rattle.draws.specs.Draws.{told}
use Rattle.draws.proofs.Laws.{event_ok}
use native.Mathlib.Omega.{arith}
use borrow.Author.Rules.{rules}
use Rattle.machine.proofs.ProgressLaws.{stored_sends}
use Rattle.machine.proofs.PlayerTurns.{begun, known, set_most, next_most, accepted_most, pairs_most, network_valid}
use Rattle.machine.proofs.PlayerTurns.{network_ok, state_in_range, named_below, sent_on, drawn_on, ended}
use Rattle.machine.proofs.Single.{act_storable, run_done, looked_act}
use Rattle.machine.proofs.player.play_run.Goals as goal

pub overflow_add-total : goal.overflow_add-total
overflow_add-total c =
    omega (arith, (stored_sends c.args.run.now c.requires.valid).0)

pub loop-turn-init : goal.loop-turn-init
loop-turn-init c = begun c.requires (ap (◌+◌ c.args.run.now.count) c.from.ensures) (search rules) c.empty_state-state.ensures

pub overflow_add-next : goal.overflow_add-next
overflow_add-next c = omega (arith, next_most c.loop-turn.invariant)

pub try_send-after-requires : goal.try_send-after-requires
try_send-after-requires c = let v = network_valid c.loop-turn.invariant in (v.few, v.deep)

pub loop-turn-preserved-in_default : goal.loop-turn-preserved-in_default
loop-turn-preserved-in_default c =
    let at = c.loop-turn.invariant in
    sent_on at c.loop-turn-test.true c.capped.ensures
    c.is_due.ensures c.if-is_due.true c.wide.ensures.0
    c.try_send-after.ensures c.in_default.is

pub overflow_add-accepted : goal.overflow_add-accepted
overflow_add-accepted c = omega (arith, accepted_most c.loop-turn.invariant)

pub overflow_add-pairs : goal.overflow_add-pairs
overflow_add-pairs c =
    let at = c.loop-turn.invariant in
    omega (arith, pairs_most at, set_most at c.capped.result c.size-pairs.ensures)

pub loop-turn-preserved-then-is_due : goal.loop-turn-preserved-then-is_due
loop-turn-preserved-then-is_due c =
    let at = c.loop-turn.invariant in
    rw c.size-pairs.ensures
    (sent_on at c.loop-turn-test.true c.capped.ensures
    c.is_due.ensures c.if-is_due.true c.wide.ensures.0
    c.try_send-after.ensures c.in-Accepted.is)

pub act_of-looked-requires : goal.act_of-looked-requires
act_of-looked-requires c =
    let at = c.loop-turn.invariant in
    let named = ap told (sym c.unwrap-event.ensures) ∙ c.event_of.ensures in
    (network_ok at, state_in_range at, named_below at c.ticked-clock.result.value named)

pub store_act-state-requires : goal.store_act-state-requires
store_act-state-requires c =
    let n = c.args.run.now.network in
    let e = c.unwrap-event.result in
    let named = ap told (sym c.unwrap-event.ensures) ∙ c.event_of.ensures in
    let own = act_storable n (network_ok c.loop-turn.invariant) c.loop-turn.state.sites e.site e.code
    (named_below c.loop-turn.invariant c.ticked-clock.result.value named) (looked_act c.act_of-looked.ensures) in
    record { site = own.0; passable = own.1 }

pub answer_to-answer-requires : goal.answer_to-answer-requires
answer_to-answer-requires c =
    let at = c.loop-turn.invariant in
    let named = ap told (sym c.unwrap-event.ensures) ∙ c.event_of.ensures in
    omega (arith, named_below at c.ticked-clock.result.value named, (network_valid at).few)

pub loop-turn-preserved : goal.loop-turn-preserved
loop-turn-preserved c =
    let n = c.args.run.now.network in
    let e = c.unwrap-event.result in
    let named = ap told (sym c.unwrap-event.ensures) ∙ c.event_of.ensures in
    let ran = run_done n c.loop-turn.state e.site e.code (looked_act c.act_of-looked.ensures)
    c.answer_to-answer.ensures c.store_act-state.ensures refl in
    drawn_on c.loop-turn.invariant c.loop-turn-test.true c.capped.ensures
    c.is_due.ensures c.if-is_due.false c.ticked-clock.ensures named ran
    c.enter_answer-serviced.ensures.0 c.enter_answer-serviced.ensures.1

pub shape_of-book : goal.shape_of-book
shape_of-book c = (known c.loop-turn.invariant).kept

pub returns : goal.returns
returns c = ended c.loop-turn.invariant c.loop-turn-test.false c.owed_pairs.ensures

pub unwrap-event-requires : goal.unwrap-event-requires
unwrap-event-requires c =
    let n = c.args.run.now.network in
    let v = network_valid c.loop-turn.invariant in
    event_ok n.edition n.sites c.ticked-clock.result.value c.event_of.result c.event_of.ensures v.some v.few

use Prim.Native.Nat.{◌<◌}
use native.Mathlib.Omega.{arith}
use Rattle.words.proofs.Codes.{by_input, by_local, by_channel_lem, by_queue, by_operator, by_timeout, by_none}
use borrow.Author.Rules.{rules}
use Rattle.words.proofs.runs.run_in_place.Goals as goal

pub returns-in-5 : goal.returns-in-5
returns-in-5 c = by_local _ _ _ _ _ _ c.in-5.is (c.local_in_place.ensures _)

pub returns-in-10 : goal.returns-in-10
returns-in-10 c = by_queue _ _ _ _ _ _ c.in-10.is (c.queue_in_place.ensures _)

pub returns-in-11 : goal.returns-in-11
returns-in-11 c = by_operator _ _ _ _ _ _ c.in-11.is (c.operator_in_place.ensures _)

pub returns-in-12 : goal.returns-in-12
returns-in-12 c = by_timeout _ _ _ _ _ _ c.in-12.is (c.timeout_in_place.ensures _)

pub returns-in-0-to-4 : goal.returns-in-0-to-4
returns-in-0-to-4 c = by_input _ _ _ _ _ _ (omega arith) c.input_in_place.ensures

pub returns-in-6-to-9 : goal.returns-in-6-to-9
returns-in-6-to-9 c =
    let past : 5 < c.args.code = grind arith in
    let below : c.args.code < 10 = omega arith in
    by_channel_lem _ _ _ _ _ _ past below c.channel_in_place.ensures

pub returns-in_default : goal.returns-in_default
returns-in_default c =
    let none : 14 < c.args.code = grind arith in
    by_none _ _ _ _ (search rules) none

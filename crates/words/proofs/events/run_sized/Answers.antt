use Rattle.std.proofs.Common.{sym}
use borrow.Author.Tests.{ltb-true}
use Rattle.base.specs.Bools.{both}
use Rattle.base.specs.Refusals.{number_nonzero}
use Rattle.words.proofs.Publics.{runnable}
use Rattle.words.proofs.Answered.{run_shared, run_none, run_done}
use Rattle.words.proofs.events.run_sized.Goals as goal

pub returns-in-Err : goal.returns-in-Err
returns-in-Err c =
    let a = c.args in
    rw c.run_refused.ensures
    (run_shared a.network.now a.words.now a.site a.code _ c.in-Err.ensures (number_nonzero c.in-Err.refusal))

pub blocking_in_place-blocking-requires : goal.blocking_in_place-blocking-requires
blocking_in_place-blocking-requires c = runnable _ _ _ (sym c.in_default.ensures) (ltb-true _ _ (both _ _ c.if-site-network.true).0)

pub run_in_place-answer-requires : goal.run_in_place-answer-requires
run_in_place-answer-requires c = runnable _ _ _ (sym c.in_default.ensures) (ltb-true _ _ (both _ _ c.if-site-network.true).0)

pub returns-then-site-network : goal.returns-then-site-network
returns-then-site-network c =
    run_done _ _ _ _ _ _ _ (sym c.in_default.ensures) (rw c.codes_in-codes.ensures at c.if-site-network.true)
    c.run_in_place-answer.ensures c.blocking_in_place-blocking.ensures

pub returns : goal.returns
returns c =
    let a = c.args in
    rw c.run_refused-2.ensures
    (run_none a.network.now a.words.now a.site a.code (sym c.in_default.ensures) (rw c.codes_in-codes.ensures at c.if-site-network.false))

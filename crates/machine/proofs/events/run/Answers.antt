use Rattle.std.proofs.Common.{sym, ◌∙◌}
use borrow.Author.Tests.{ltb-true}
use Rattle.base.specs.Bools.{both}
use Rattle.base.specs.Refusals.{number_nonzero}
use Rattle.theorems.proofs.Refusals.{not_refused}
use Rattle.machine.proofs.Single.{run_shared, run_none, run_passes_on}
use Rattle.machine.proofs.events.run.Goals as goal

pub returns-in-Err : goal.returns-in-Err
returns-in-Err c =
    let a = c.args in
    rw c.from.ensures (run_shared a.network a.state a.site a.code _ c.in-Err.ensures (number_nonzero c.in-Err.refusal))

pub run_checked-requires : goal.run_checked-requires
run_checked-requires c =
    let a = c.args in
    let p = not_refused a.network a.state 0 (sym c.in_default.ensures) in
    (p.0, p.1, ltb-true _ _ (both _ _ c.if-site-network.true).0)

pub returns-then-site-network : goal.returns-then-site-network
returns-then-site-network c =
    let a = c.args in
    let there = rw c.codes_in.ensures at c.if-site-network.true in
    c.run_checked.ensures ∙ run_passes_on a.network a.state a.site a.code (sym c.in_default.ensures) there

pub returns : goal.returns
returns c =
    let a = c.args in
    rw c.from-2.ensures
    (run_none a.network a.state a.site a.code (sym c.in_default.ensures) (rw c.codes_in.ensures at c.if-site-network.false))

-- `tests::byte_is_first` meets its contract: the byte of every channel before is compared. Assumes nothing.
use mathlib.Core.Path.{sym}
use native.Mathlib.Omega.{arith}
use Rattle.base.specs.All.{all_none, all_next, all_end}
use Rattle.faults.proofs.Fed.{byte_turn}
use Rattle.faults.proofs.tests.byte_is_first.Goals as goal

pub loop-i-init : goal.loop-i-init
loop-i-init c = (omega arith, sym (all_none _))

pub loop-i-preserved : goal.loop-i-preserved
loop-i-preserved c =
    let loop = c.loop-i in
    let args = c.args in
    (omega arith, all_next _ loop.i _ _ loop.invariant.1 (byte_turn args.b.now args.byte loop.i))

pub returns : goal.returns
returns c =
    let loop = c.loop-i in
    let args = c.args in
    all_end _ args.m loop.i _ loop.invariant.0 (omega arith) loop.invariant.1

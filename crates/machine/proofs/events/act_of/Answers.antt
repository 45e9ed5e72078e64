use native.Mathlib.Omega.{arith}
use Rattle.theorems.proofs.Networks.{valid_ok}
use Rattle.machine.proofs.RangeAt.{range_runnable}
use Rattle.machine.proofs.Seen.{valid_ends}
use Rattle.machine.proofs.Single.{looked_seen}
use Rattle.machine.proofs.events.act_of.Goals as goal

pub seen_at-seen-requires : goal.seen_at-seen-requires
seen_at-seen-requires c =
    let v = valid_ok c.args.network c.requires.0 in
    record { site = omega (arith, v.few, c.requires.2); ends = valid_ends c.args.network v c.args.s c.requires.2 }

pub step-requires : goal.step-requires
step-requires c =
    let a = c.args in
    let p = c.requires in
    rw c.seen_at-seen.ensures
    (range_runnable a.network (valid_ok a.network p.0) a.state p.1 a.s p.2)

pub returns : goal.returns
returns c =
    let a = c.args in
    looked_seen a.network a.state.sites a.s a.code c.seen_at-seen.ensures c.step.ensures

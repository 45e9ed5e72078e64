use Rattle.std.proofs.Common.{sym, ◌∙◌}
use Rattle.base.specs.Refusals.{number_nonzero}
use Rattle.machine.proofs.Single.{try_refused, try_sent, send_room}
use Rattle.machine.proofs.events.try_send.Goals as goal

pub returns-in-Err : goal.returns-in-Err
returns-in-Err c =
    let a = c.args in
    let own = rw c.out_entries-entries.ensures at c.in-Err.ensures in
    rw c.from.ensures (try_refused a.network a.state a.s a.set own (number_nonzero c.in-Err.refusal))

pub send_checked-requires : goal.send_checked-requires
send_checked-requires c =
    let a = c.args in
    let own = rw c.out_entries-entries.ensures at c.in_default.ensures in
    let p = c.requires in
    send_room a.network a.state a.s a.set p.0 p.1 (sym own)

pub returns : goal.returns
returns c =
    let a = c.args in
    let own = rw c.out_entries-entries.ensures at c.in_default.ensures in
    c.send_checked.ensures ∙ try_sent a.network a.state a.s a.set (sym own)

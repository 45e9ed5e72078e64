use mathlib.Core.Path.{refl}
use native.Mathlib.Omega.{arith}
use Rattle.machine.proofs.Seen.{end_seen}
use Rattle.machine.proofs.store.seen_at.Goals as goal

pub returns : goal.returns
returns c =
    let a = c.args in
    let n = a.network in
    let xs = a.state.sites in
    let h = c.requires.ends in
    rw (
      end_seen n xs a.s h 0 (omega arith) c.channel_at-first.ensures c.end_site.ensures c.end_of.ensures,
      end_seen n xs a.s h 1 (omega arith) c.channel_at-second.ensures c.end_site-2.ensures c.end_of-2.ensures,
      end_seen n xs a.s h 2 (omega arith) c.channel_at-third.ensures c.end_site-3.ensures c.end_of-3.ensures,
      end_seen n xs a.s h 3 (omega arith) c.channel_at-fourth.ensures c.end_site-4.ensures c.end_of-4.ensures,
    ) refl

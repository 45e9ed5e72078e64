-- `writer::put_channel` meets its contract: a byte in version 1, else two. Assumes nothing.
use native.Mathlib.Omega.{arith}
use borrow.Author.Tests.{eq-eqb, ne_eqb}
use Rattle.archive.proofs.Put.{channel_first}
use Rattle.archive.proofs.writer.put_channel.Goals as goal

pub bounds-out-p : goal.bounds-out-p
bounds-out-p c = omega (arith, rw (eq-eqb _ _ c.if-version-eq1.true) at c.requires.0)

pub returns-then-version-eq1 : goal.returns-then-version-eq1
returns-then-version-eq1 c =
    let args = c.args in
    let if1 = c.if-version-eq1 in
    let pre = c.requires in
    channel_first _ _ args.version args.channel if1.true pre.0 pre.1

pub put_word-requires : goal.put_word-requires
put_word-requires c = omega (arith, rw (ne_eqb _ _ c.if-version-eq1.false) at c.requires.0)

pub returns : goal.returns
returns c = rw (ne_eqb _ _ c.if-version-eq1.false) (rw c.from.ensures at c.put_word.ensures)

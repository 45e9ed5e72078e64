-- `service_lines` meets its contract: a line a turn, each within its greatest length. Assumes nothing.
use native.Mathlib.Omega.{arith}
use borrow.Author.Rules.{rules}
use mathlib.Core.Path.{refl}
use Rattle.report.proofs.Puts.{no_lines, line_more, lines_all}
use Rattle.report.proofs.service_lines.Goals as goal

pub loop-k-init : goal.loop-k-init
loop-k-init c = (refl, omega arith, omega arith, no_lines _ _)

pub put_entry-at-requires : goal.put_entry-at-requires
put_entry-at-requires c = omega (arith, c.min-n.ensures, c.loop-k.invariant.2)

pub loop-k-preserved : goal.loop-k-preserved
loop-k-preserved c =
    let e = c.put_entry-at.ensures in
    let l = c.loop-k in
    (search rules, omega arith, omega (arith, e.upper_bound), line_more _ l.k l.invariant.3 e.put)

pub returns : goal.returns
returns c =
    let l = c.loop-k in
    let n = c.min-n in
    lines_all _ n.result l.k n.ensures (omega arith) l.invariant.3

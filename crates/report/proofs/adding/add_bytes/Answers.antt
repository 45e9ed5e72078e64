-- `adding::add_bytes` meets its contract: what fits is put. Assumes nothing.
use mathlib.Core.Path.{sym}
use lib.Seq.{length-take-le}
use native.Mathlib.Omega.{arith}
use Rattle.report.proofs.Adds.{added, added_counts}
use Rattle.report.proofs.adding.add_bytes.Goals as goal

pub slice_bounds-put_all-end : goal.slice_bounds-put_all-end
slice_bounds-put_all-end c = sym (length-take-le _ _ (omega (arith, c.min-n.ensures)))

pub put_all-requires : goal.put_all-requires
put_all-requires c =
    let n = c.min-n in
    let bytes = c.args.bytes.now in
    let l = length-take-le n.result bytes (omega (arith, n.ensures)) in
    omega (arith, n.ensures, c.min-from.ensures, l)

pub returns : goal.returns
returns c =
    let n = c.min-n in
    let f = c.min-from in
    let a = added _ _ f.result n.result f.ensures n.ensures c.put_all.ensures in
    (added_counts a, a)

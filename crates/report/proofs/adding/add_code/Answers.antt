-- `adding::add_code` meets its contract: a byte has two hexadecimal digits. Assumes nothing.
use mathlib.Core.Path.{◌≡◌}
use lib.ListN.{take}
use native.Mathlib.Omega.{arith}
use Rattle.io.specs.Digits.{last_digits}
use Rattle.report.proofs.Adds.{added_then, two_digits}
use Rattle.report.proofs.adding.add_code.Goals as goal

pub returns : goal.returns
returns c =
    let byte = c.args.byte in
    let k = c.hex-k in
    let e : take k.result k.new.out ≡ last_digits 16 2 byte = two_digits byte _ _ (omega arith)
    (rw c.from.ensures at k.ensures.len)
    (rw c.from.ensures at k.ensures.digits) in
    (c.add_bytes.ensures.0, added_then c.add_bytes-behind.ensures.1 (rw e at c.add_bytes.ensures.1))

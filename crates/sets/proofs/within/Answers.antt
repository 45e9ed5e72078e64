-- `sets::within` meets its contract: every u64 lies within 64 sites. Assumes nothing.
use mathlib.Core.Path.{sym}
use Prim.Native.Nat.{◌^◌, ◌≤◌}
use native.Mathlib.Nat.{lt_of_lt_of_le}
use native.Mathlib.Omega.{arith}
use borrow.Author.Tests.{lt-ltb}
use lib.Pow.{pow_mono}
use Rattle.base.specs.Sizes.{set_bits}
use Rattle.sets.proofs.Laws.{shifted_out}
use Rattle.sets.proofs.within.Goals as goal

pub overflow_shr-result : goal.overflow_shr-result
overflow_shr-result c = omega arith

pub returns-then-sites-lt-SET : goal.returns-then-sites-lt-SET
returns-then-sites-lt-SET c = shifted_out c.args.sites c.args.set

pub returns-else-sites-lt-SET : goal.returns-else-sites-lt-SET
returns-else-sites-lt-SET c =
    let a = c.args in
    let h : 2 ^ set_bits ≤ 2 ^ a.sites = pow_mono {i = set_bits} (omega arith) in
    sym (lt-ltb a.set (2 ^ a.sites) (lt_of_lt_of_le (omega arith) h))

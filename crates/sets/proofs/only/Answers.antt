-- `sets::only` meets its contract: below 64 the bit does not leave the word. Assumes nothing.
use mathlib.Core.Path.{◌∙◌}
use Prim.Native.Nat.{◌^◌}
use native.Mathlib.Nat.{one-mul}
use native.Mathlib.Omega.{arith}
use borrow.Author.Tests.{lt-ltb, le-ltb}
use lib.Dec.{lit<}
use lib.Pow.{shl_exact}
use Rattle.base.specs.Sizes.{set_bits}
use Rattle.sets.proofs.only.Goals as goal

pub returns-then-t-lt-SET : goal.returns-then-t-lt-SET
returns-then-t-lt-SET c =
    let t = c.args.t in
    rw (lt-ltb t set_bits (omega arith)) (shl_exact 1 t set_bits (lit< tt) (omega arith) ∙ one-mul (2 ^ t))

pub returns-else-t-lt-SET : goal.returns-else-t-lt-SET
returns-else-t-lt-SET c = rw (le-ltb c.args.t set_bits (omega arith))

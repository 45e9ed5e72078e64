use mathlib.Core.Path.{refl}
use Prim.Native.Nat.{◌+◌}
use native.Mathlib.Numerals.{add-one}
use native.Mathlib.Omega.{arith}
use borrow.Author.Tests.{ne_eqb}
use Rattle.base.specs.Sizes.{split_port}
use Rattle.model.specs.NetInput.{hears}
use Rattle.machine.proofs.heard.is_heard.Goals as goal

pub returns : goal.returns
unfolding hears
returns c =
    let j = c.args.j in
    let own = ne_eqb (j + 1) 0 (λ e. omega arith) in
    let split = ne_eqb (j + 1) split_port (λ e. omega arith) in
    rw (c.is_taken.ensures, c.is_listening.ensures, ← add-one j, own, split) refl

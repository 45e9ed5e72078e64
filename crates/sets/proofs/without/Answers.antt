-- `sets::without` meets its contract: a member lies below 64, so its power can be taken away. Assumes nothing.
use mathlib.Core.Path.{◌≡◌, sym, ◌∙◌}
use mathlib.Core.Bool.{true, cond}
use Prim.Native.Nat.{ℕ, ◌^◌, ◌<◌}
use native.Mathlib.Omega.{arith}
use borrow.Author.Tests.{lt-ltb}
use lib.Dec.{ltb}
use Rattle.base.specs.Sizes.{set_bits}
use Rattle.sets.specs.Sets.{has, only}
use Rattle.sets.proofs.Laws.{minus_in, minus_out, has_le, has_within}
use Rattle.sets.proofs.without.Goals as goal

-- the power that a member has
power : (t X n : ℕ) → X < 2 ^ set_bits → has t X ≡ true → n ≡ cond (ltb t set_bits) (only t) 0 → n ≡ only t
power t X n f h e = rw (lt-ltb t set_bits (has_within set_bits X t f h)) at e

pub overflow_sub-result : goal.overflow_sub-result
overflow_sub-result c =
    let a = c.args in
    let h = sym c.member.ensures ∙ c.if-member.true in
    omega (arith, has_le a.t a.set h, power a.t a.set _ (omega arith) h c.only.ensures)

pub returns-then-member : goal.returns-then-member
returns-then-member c =
    let a = c.args in
    let h = sym c.member.ensures ∙ c.if-member.true in
    omega (arith, minus_in a.t a.set h, power a.t a.set _ (omega arith) h c.only.ensures)

pub returns-else-member : goal.returns-else-member
returns-else-member c = sym (minus_out _ _ (sym c.member.ensures ∙ c.if-member.false))

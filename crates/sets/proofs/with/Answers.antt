-- `sets::with` meets its contract: adding {t} to a set without t does not carry. Assumes nothing.
use mathlib.Core.Path.{◌≡◌, refl, sym, ◌∙◌}
use mathlib.Core.Bool.{Bool, true, false, cond}
use Prim.Native.Nat.{ℕ, ◌+◌, ◌^◌, ◌<◌}
use native.Mathlib.Omega.{arith}
use borrow.Author.Tests.{ltb-true}
use lib.Dec.{ltb}
use Rattle.base.specs.Bools.{cond_ok}
use Rattle.base.specs.Sizes.{set_bits}
use Rattle.sets.specs.Sets.{has, only, plus}
use Rattle.sets.proofs.Laws.{plus_in, plus_out, plus_within}
use Rattle.sets.proofs.with.Goals as goal

adds : (b : Bool) (t X n : ℕ) → has t X ≡ false → n ≡ cond b (only t) 0 → X + n ≡ cond b (plus t X) X
adds true t X n h e = rw e (sym (plus_out t X h))
adds false t X n h e = omega arith

stays : (t X : ℕ) → X < 2 ^ set_bits → cond (ltb t set_bits) (plus t X) X < 2 ^ set_bits
stays t X h =
    cond_ok (λ (n : ℕ). n < 2 ^ set_bits) (ltb t set_bits) (plus t X) X
    (λ e. plus_within set_bits t X (ltb-true t set_bits e) h) (λ e. h)

pub overflow_add-result : goal.overflow_add-result
overflow_add-result c =
    let a = c.args in
    let h = sym c.member.ensures ∙ c.if-member.false in
    omega (arith, adds (ltb a.t set_bits) a.t a.set _ h c.only.ensures, stays a.t a.set (omega arith))

pub returns-then-member : goal.returns-then-member
returns-then-member c =
    let a = c.args in
    cond_ok (λ (n : ℕ). a.set ≡ n) (ltb a.t set_bits) (plus a.t a.set) a.set
    (λ e. sym (plus_in a.t a.set (sym c.member.ensures ∙ c.if-member.true))) (λ e. refl)

pub returns-else-member : goal.returns-else-member
returns-else-member c =
    let a = c.args in
    let h = sym c.member.ensures ∙ c.if-member.false in
    adds (ltb a.t set_bits) a.t a.set _ h c.only.ensures

-- `reader::set_at` meets its contract: two bytes in version 1, else eight. Assumes nothing.
use mathlib.Core.Path.{ap₂, ◌∙◌}
use Prim.Native.Nat.{ℕ, ◌+◌, ◌*◌}
use native.Mathlib.Omega.{arith}
use borrow.Author.Tests.{eq-eqb, ne_eqb}
use Rattle.archive.proofs.reader.set_at.Goals as goal

pub bounds-b-p : goal.bounds-b-p
bounds-b-p c = omega (arith, rw (eq-eqb _ _ c.if-version-eq1.true) at c.requires)

pub bounds-b-p-then-version-eq1 : goal.bounds-b-p-then-version-eq1
bounds-b-p-then-version-eq1 c =
    let if1 = c.if-version-eq1 in
    let pre = c.requires in
    omega (arith, rw (eq-eqb _ _ if1.true) at (pre))

pub returns-then-version-eq1 : goal.returns-then-version-eq1
returns-then-version-eq1 c = rw (eq-eqb _ _ c.if-version-eq1.true) (c.from.ensures ∙ c.word.ensures)

pub quad_at-requires : goal.quad_at-requires
quad_at-requires c = omega (arith, rw (ne_eqb _ _ c.if-version-eq1.false) at c.requires)

pub quad_at-requires-2 : goal.quad_at-requires-2
quad_at-requires-2 c = omega (arith, rw (ne_eqb _ _ c.if-version-eq1.false) at c.requires)

pub returns : goal.returns
returns c =
    let if1 = c.if-version-eq1 in
    let oct = c.oct in
    let quad_at = c.quad_at in
    let quad_at2 = c.quad_at-2 in
    rw (ne_eqb _ _ if1.false)
    (oct.ensures ∙ ap₂ (λ (h l : ℕ). h * 4294967296 + l) quad_at.ensures quad_at2.ensures)

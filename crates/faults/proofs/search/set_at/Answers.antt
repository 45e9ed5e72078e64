-- `search::set_at` meets its contract, by the version. Assumes nothing.
use mathlib.Core.Path.{ap₂, ◌∙◌}
use Prim.Native.Nat.{ℕ, ◌+◌, ◌*◌}
use native.Mathlib.Omega.{arith}
use borrow.Author.Tests.{eq-eqb, ne_eqb}
use Rattle.faults.proofs.Versions.{set_some, set_second}
use Rattle.faults.proofs.search.set_at.Goals as goal

pub word_at-requires : goal.word_at-requires
word_at-requires c = omega (arith, c.requires, set_some c.args.version)

pub returns-then-version-eq1 : goal.returns-then-version-eq1
returns-then-version-eq1 c = rw (eq-eqb _ _ c.if-version-eq1.true) (c.from.ensures ∙ c.word_at.ensures)

pub quad_at-requires : goal.quad_at-requires
quad_at-requires c = omega (arith, c.requires, set_second c.args.version c.if-version-eq1.false)

pub quad_at-requires-2 : goal.quad_at-requires-2
quad_at-requires-2 c = omega (arith, c.requires, set_second c.args.version c.if-version-eq1.false)

pub returns : goal.returns
returns c =
    rw (ne_eqb _ _ c.if-version-eq1.false)
    (c.oct.ensures ∙ ap₂ (λ (h l : ℕ). h * 4294967296 + l) c.quad_at.ensures c.quad_at-2.ensures)

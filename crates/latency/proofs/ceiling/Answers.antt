-- `latency::ceiling` meets its contract. Assumes nothing.
use Rattle.std.proofs.Common.{◌≡◌, ◌∙◌, ℕ, zero, suc, ◌+◌, ◌/◌, ◌%◌, min, cond, eqb, arith}
use borrow.Author.Tests.{ne_eqb}
use Rattle.latency.specs.Latency.{ceiling}
use Rattle.latency.proofs.ceiling.Goals as goal

-- one more where a rest is left
one_more : (q r : ℕ) → q + min 1 r ≡ cond (eqb r 0) q (q + 1)
one_more q zero = let e : q + min 1 0 ≡ q = omega arith in e
one_more q (suc r) =
    let e : q + min 1 (suc r) ≡ q + 1 = omega arith in rw (ne_eqb (suc r) 0 (λ z. omega (arith, z))) e

pub returns : goal.returns
unfolding ceiling
returns c = let a = c.args in c.div_ceil.ensures ∙ one_more (a.x / a.w) (a.x % a.w)

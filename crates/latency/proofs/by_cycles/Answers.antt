-- `latency::by_cycles` meets its contract: no product and no sum is too large for 64 bits. Assumes nothing.
use mathlib.Core.Path.{refl}
use Prim.Native.Nat.{ℕ, ◌≤◌}
use native.Mathlib.Omega.{arith}
use Rattle.latency.specs.Latency.{argument_most, by_cycles, twice_unicast, twice_multi, twice_resumable, twice_restricted}
use Rattle.latency.proofs.Limits.{Products, products}
use Rattle.latency.proofs.by_cycles.Goals as goal

-- what the contract asks bounds the products
bounds : (a b d n : ℕ) → (a ≤ argument_most) × (b ≤ argument_most) × (d ≤ argument_most) × (1 ≤ n) × (n ≤ argument_most)
    → Products a b d n
bounds a b d n r = products a b d n r.0 r.1 r.2 r.4

pub overflow_mul-unicast-2 : goal.overflow_mul-unicast-2
overflow_mul-unicast-2 c = let p = bounds _ _ _ _ c.requires in omega (arith, p.distance)

pub overflow_add-unicast : goal.overflow_add-unicast
overflow_add-unicast c = let p = bounds _ _ _ _ c.requires in omega (arith, p.distance, c.requires.1)

pub overflow_mul-targets : goal.overflow_mul-targets
overflow_mul-targets c = let p = bounds _ _ _ _ c.requires in omega (arith, p.targets)

pub overflow_add-result : goal.overflow_add-result
overflow_add-result c = let p = bounds _ _ _ _ c.requires in omega (arith, p.distance, c.requires.1, p.targets)

pub overflow_mul-result : goal.overflow_mul-result
overflow_mul-result c = let p = bounds _ _ _ _ c.requires in omega (arith, p.copies)

pub overflow_add-result-2 : goal.overflow_add-result-2
overflow_add-result-2 c = let p = bounds _ _ _ _ c.requires in omega (arith, p.distance, c.requires.1, p.targets, p.copies)

pub overflow_mul-result-3 : goal.overflow_mul-result-3
overflow_mul-result-3 c = let p = bounds _ _ _ _ c.requires in omega (arith, p.headers)

pub overflow_add-result-3 : goal.overflow_add-result-3
overflow_add-result-3 c = let p = bounds _ _ _ _ c.requires in omega (arith, p.distance, c.requires.1, p.headers)

pub overflow_add-result-4 : goal.overflow_add-result-4
overflow_add-result-4 c = let p = bounds _ _ _ _ c.requires in omega (arith, p.distance, c.requires.1, p.targets)

pub overflow_mul-result-4 : goal.overflow_mul-result-4
overflow_mul-result-4 c = let p = bounds _ _ _ _ c.requires in omega (arith, p.hops)

pub overflow_add-result-5 : goal.overflow_add-result-5
overflow_add-result-5 c = let p = bounds _ _ _ _ c.requires in omega (arith, p.distance, c.requires.1, p.targets, p.hops)

pub returns : goal.returns
unfolding by_cycles twice_unicast twice_multi twice_resumable twice_restricted
returns c = refl

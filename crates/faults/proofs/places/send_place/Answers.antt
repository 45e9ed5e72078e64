-- `places::send_place` meets its contract, by the version: the sum is the definition's. Assumes nothing.
use mathlib.Core.Path.{◌≡◌, refl, sym, ap, ap₂}
use Prim.Native.Nat.{ℕ, ◌+◌, ◌*◌, ◌≤◌, ◌<◌}
use native.Mathlib.Nat.{mul-le-mul}
use native.Mathlib.Omega.{arith}
use borrow.Author.Tests.{eq-eqb, ne_eqb}
use Rattle.format.specs.Format.{send_width, routes_place, sends_place}
use Rattle.faults.proofs.Versions.{routes_begin}
use Rattle.faults.proofs.places.send_place.Goals as goal

square : (s : ℕ) → s < 256 → s * s ≤ 65025
square s h = mul-le-mul {n₁ = s} {m₁ = s} {n₂ = 255} {m₂ = 255} (omega arith) (omega arith)

-- the routes of S sites begin at 2,054 at most
begun : (v S n p : ℕ) → n ≡ S → n < 256 → p ≡ routes_place v S → p ≤ 2054
begun v S n p sites small place = omega (arith, place, routes_begin v S (omega (arith, sites, small)))

-- the sum, over the width w of a send
summed : (v S N p n k w : ℕ) → p ≡ routes_place v S → n ≡ S → k ≡ N → send_width v ≡ w
    → p + 2 * (n * n) + w * k ≡ sends_place v S + send_width v * N
summed v S N p n k w place sites sends width =
    let q = ap (λ (x : ℕ). x * x) sites in
    let z = ap₂ (λ (x y : ℕ). x * y) width (sym sends) in
    omega (arith, place)

pub overflow_mul-from : goal.overflow_mul-from
overflow_mul-from c = omega (arith, square c.wide-n.result c.wide-n.ensures.1)

pub overflow_mul-from-2 : goal.overflow_mul-from-2
overflow_mul-from-2 c = omega (arith, square c.wide-n.result c.wide-n.ensures.1)

pub overflow_add-from : goal.overflow_add-from
overflow_add-from c =
    omega (arith, square c.wide-n.result c.wide-n.ensures.1, begun _ _ _ _ c.wide-n.ensures.0 c.wide-n.ensures.1 c.routes_place.ensures)

pub overflow_add-result : goal.overflow_add-result
overflow_add-result c =
    omega (arith, square c.wide-n.result c.wide-n.ensures.1, begun _ _ _ _ c.wide-n.ensures.0 c.wide-n.ensures.1 c.routes_place.ensures, c.wide-k.ensures.1)

pub overflow_add-result-else-version-eq1 : goal.overflow_add-result-else-version-eq1
overflow_add-result-else-version-eq1 c =
    omega (arith, square c.wide-n.result c.wide-n.ensures.1, begun _ _ _ _ c.wide-n.ensures.0 c.wide-n.ensures.1 c.routes_place.ensures, c.wide-k.ensures.1)

pub returns-then-version-eq1 : goal.returns-then-version-eq1
returns-then-version-eq1 c =
    summed _ _ _ _ _ _ 5 c.routes_place.ensures c.wide-n.ensures.0 c.wide-k.ensures.0 (rw (eq-eqb _ _ c.if-version-eq1.true) refl)

pub returns-else-version-eq1 : goal.returns-else-version-eq1
returns-else-version-eq1 c =
    summed _ _ _ _ _ _ 11 c.routes_place.ensures c.wide-n.ensures.0 c.wide-k.ensures.0 (rw (ne_eqb _ _ c.if-version-eq1.false) refl)

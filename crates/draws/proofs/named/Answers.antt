-- `draws::named` meets its contract. Assumes nothing.
use mathlib.Core.Path.{◌≡◌, refl, ap, ◌∙◌}
use Prim.Native.Nat.{ℕ, ◌+◌, ◌-◌, ◌*◌, ◌/◌, ◌%◌, ◌≤◌, ◌<◌}
use native.Mathlib.Nat.{mod-lt, mul-le-mul}
use native.Mathlib.Omega.{arith}
use Rattle.base.specs.Sizes.{sites_most, code_count, split_code_count}
use Rattle.draws.specs.Draws.{Shares}
use Rattle.draws.proofs.named.Goals as goal

-- so many codes of so many sites
few : (codes sites : ℕ) → codes ≤ split_code_count → sites ≤ sites_most → codes * sites ≤ split_code_count * sites_most
few codes sites a b = mul-le-mul {n₁ = codes} {m₁ = sites} {n₂ = split_code_count} {m₂ = sites_most} a b

some : (codes sites : ℕ) → code_count ≤ codes → 1 ≤ sites → 1 * 1 ≤ codes * sites
some codes sites a b = mul-le-mul {n₁ = 1} {m₁ = 1} {n₂ = codes} {m₂ = sites} (omega (arith, a)) b

-- the number that a value comes to, m below
below : (v codes sites : ℕ) → 1 ≤ sites → sites ≤ sites_most → code_count ≤ codes → codes ≤ split_code_count
    → v % (codes * sites) < split_code_count * sites_most
below v codes sites a b c d = omega (arith, mod-lt v {m = codes * sites} (omega (arith, some codes sites c a)), few codes sites d b)

module _ (codes share m : ℕ) (h : Shares codes share) (l : m < split_code_count * sites_most) where
  product_few : m * share ≤ split_code_count * sites_most * 65536
  product_few =
      mul-le-mul {n₁ = m} {m₁ = share} {n₂ = split_code_count * sites_most} {m₂ = 65536} (omega (arith, l)) h.small

  whole : codes * (m * share / 65536) + m % codes ≡ m
  whole = ap (λ (q : ℕ). codes * q + m % codes) (h.divides m l) ∙ h.rests m

pub overflow_mul-m : goal.overflow_mul-m
overflow_mul-m c = let a = c.args in let r = c.requires in omega (arith, few a.codes a.sites r.3 r.1)

pub nonzero_rem-m : goal.nonzero_rem-m
nonzero_rem-m c = let a = c.args in let r = c.requires in omega (arith, some a.codes a.sites r.2 r.0)

pub overflow_mul-site : goal.overflow_mul-site
overflow_mul-site c =
    let a = c.args in
    let r = c.requires in
    omega (arith, product_few a.codes a.share _ r.4 (below a.value a.codes a.sites r.0 r.1 r.2 r.3))

pub overflow_mul-result : goal.overflow_mul-result
overflow_mul-result c =
    let a = c.args in
    let r = c.requires in
    let l = below a.value a.codes a.sites r.0 r.1 r.2 r.3 in
    omega (arith, l, whole a.codes a.share _ r.4 l)

pub overflow_sub-result : goal.overflow_sub-result
overflow_sub-result c =
    let a = c.args in
    let r = c.requires in
    omega (arith, whole a.codes a.share _ r.4 (below a.value a.codes a.sites r.0 r.1 r.2 r.3))

pub returns : goal.returns
returns c =
    let a = c.args in
    let r = c.requires in
    let l = below a.value a.codes a.sites r.0 r.1 r.2 r.3 in
    let m = a.value % (a.codes * a.sites) in
    let rest : m - a.codes * (m * a.share / 65536) ≡ m % a.codes = omega (arith, whole a.codes a.share m r.4 l) in
    rw (rest, r.4.divides m l) refl

-- How large the numbers of `latencies` are: a ceiling is the least whole number that is not below its fraction; each of the
-- four values is at most 2 ^ 48 - 2 ^ 32, which is reached, and so fits 49 bits. Assumes nothing.
use mathlib.Core.Path.{◌≡◌, refl}
use mathlib.Core.Bool.{true, ◌&&◌}
use Prim.Native.Nat.{ℕ, ◌+◌, ◌-◌, ◌*◌, ◌/◌, ◌%◌, ◌^◌, ◌≤◌, ◌<◌}
use native.Mathlib.Nat.{mod-lt, div-add-mod', add-mul, one-mul, mul-le-mul, mul-le-mul_left, le-mul_of_pos_right}
use native.Mathlib.Nat.{pos_of_ne-zero, le_of_mul-le-mul_right, lt_of_mul-lt-mul_right}
use native.Mathlib.Omega.{arith}
use borrow.Author.Tests.{leb-true, eqb-true, eqb-false}
use lib.Dec.{eqb, leb}
use Rattle.base.specs.Bools.{cond_ok, both, both3}
use Rattle.latency.specs.Latency.{argument_most, argument_ok, arguments_ok, ceiling, twice_unicast, twice_multi}
use Rattle.latency.specs.Latency.{twice_resumable, twice_restricted, by_cycles, outside, latencies}
use Rattle.latency.specs.Latency.{Latencies}

-- ---- the arguments

pub record Arguments (t L D n W : ℕ) : Type 0 where
  pub t_most : t ≤ argument_most
  pub l_most : L ≤ argument_most
  pub d_most : D ≤ argument_most
  pub n_some : 1 ≤ n
  pub n_most : n ≤ argument_most
  pub w_some : 1 ≤ W

limits : (x : ℕ) → argument_ok x ≡ true → (1 ≤ x) × (x ≤ argument_most)
limits x h = let w = both (leb 1 x) (leb x argument_most) h in (leb-true 1 x w.0, leb-true x argument_most w.1)

pub arguments : (t L D n W : ℕ) → arguments_ok t L D n W ≡ true → Arguments t L D n W
arguments t L D n W h =
    let u = both3 (argument_ok t && argument_ok L && argument_ok D) (argument_ok n) (argument_ok W) h in
    let v = both3 (argument_ok t) (argument_ok L) (argument_ok D) u.0 in
    record {
      t_most = (limits t v.0).1;
      l_most = (limits L v.1).1;
      d_most = (limits D v.2).1;
      n_some = (limits n u.1).0;
      n_most = (limits n u.1).1;
      w_some = (limits W u.2).0;
    }

-- ---- the ceiling

-- a channel of W bits carries x bits in so many cycles
pub ceiling_covers : (x W : ℕ) → 1 ≤ W → x ≤ ceiling x W * W
unfolding ceiling
ceiling_covers x W some =
    cond_ok (λ (q : ℕ). x ≤ q * W) (eqb (x % W) 0) (x / W) (x / W + 1)
    (λ e. omega (arith, div-add-mod' x W, eqb-true (x % W) 0 e))
    (λ e. omega (arith, div-add-mod' x W, mod-lt x {m = W} some, add-mul (x / W) 1 W, one-mul W))

-- and in no fewer
pub ceiling_least : (x W q : ℕ) → 1 ≤ W → x ≤ q * W → ceiling x W ≤ q
unfolding ceiling
ceiling_least x W q some h =
    cond_ok (λ (c : ℕ). c ≤ q) (eqb (x % W) 0) (x / W) (x / W + 1)
    (λ e. le_of_mul-le-mul_right {m = x / W} {n = q} {k = W} (omega (arith, div-add-mod' x W, h)) some)
    (λ e. omega (arith, above (eqb-false (x % W) 0 e)))
  where
    above : (x % W ≡ 0 → ⊥) → x / W < q
    above ne =
        lt_of_mul-lt-mul_right W {m = x / W} {n = q} (omega (arith, div-add-mod' x W, h, pos_of_ne-zero {n = x % W} ne))

-- no more cycles than bits
pub ceiling_most : (x W : ℕ) → 1 ≤ W → ceiling x W ≤ x
ceiling_most x W some = ceiling_least x W x some (le-mul_of_pos_right x some)

-- ---- the values

-- none of the four is above m
pub record AtMost (m : ℕ) (r : Latencies) : Type 0 where
  pub unicast_most : r.unicast ≤ m
  pub multi_most : r.multi ≤ m
  pub resumable_most : r.resumable ≤ m
  pub restricted_most : r.restricted ≤ m

abbrev pub latency_most : ℕ
latency_most = 2 ^ 48 - 2 ^ 32

-- the products that the values are made of
pub record Products (a b D n : ℕ) : Type 0 where
  pub distance : 2 * a * D ≤ 2 * argument_most * argument_most
  pub targets : (n - 1) * a ≤ (argument_most - 1) * argument_most
  pub copies : (n - 1) * b ≤ (argument_most - 1) * argument_most
  pub headers : 2 * (n - 1) * a ≤ 2 * (argument_most - 1) * argument_most
  pub hops : (n - 1) * a * D ≤ (argument_most - 1) * argument_most * argument_most

times : (x y X Y : ℕ) → x ≤ X → y ≤ Y → x * y ≤ X * Y
times x y X Y h k = mul-le-mul {n₁ = x} {m₁ = y} {n₂ = X} {m₂ = Y} h k

module _ (a b D n : ℕ) (ha : a ≤ argument_most) (hb : b ≤ argument_most) (hD : D ≤ argument_most) (hn : n ≤ argument_most) where
  others : n - 1 ≤ argument_most - 1
  others = omega (arith, hn)

  pub products : Products a b D n
  products = record {
    distance = times (2 * a) D _ _ (mul-le-mul_left 2 ha) hD;
    targets = times (n - 1) a _ _ others ha;
    copies = times (n - 1) b _ _ others hb;
    headers = times (2 * (n - 1)) a _ _ (mul-le-mul_left 2 others) ha;
    hops = times ((n - 1) * a) D _ _ (times (n - 1) a _ _ others ha) hD;
  }

  pub cycles_most : AtMost latency_most (by_cycles a b D n)
  unfolding by_cycles twice_unicast twice_multi twice_resumable twice_restricted
  cycles_most =
      let p = products in
      record {
        unicast_most = omega (arith, p.distance, hb);
        multi_most = omega (arith, p.distance, hb, p.targets, p.copies);
        resumable_most = omega (arith, p.distance, hb, p.headers);
        restricted_most = omega (arith, p.distance, hb, p.targets, p.hops);
      }

-- whatever is handed in
pub at_most : (t L D n W : ℕ) → AtMost latency_most (latencies t L D n W)
unfolding latencies
at_most t L D n W =
    cond_ok (AtMost latency_most) (arguments_ok t L D n W) (by_cycles (ceiling t W) (ceiling L W) D n) outside
    (λ h.
    let k = arguments t L D n W h in
    let ha = ceiling_most t W k.w_some in
    let hb = ceiling_most L W k.w_some in
    cycles_most (ceiling t W) (ceiling L W) D n
    (omega (arith, ha, k.t_most)) (omega (arith, hb, k.l_most)) k.d_most k.n_most)
    (λ h.
    let none : 0 ≤ latency_most = omega arith in
    record { unicast_most = none; multi_most = none; resumable_most = none; restricted_most = none })

pub most_reached : (latencies 65535 65535 65535 65535 1).restricted ≡ latency_most
unfolding latencies ceiling by_cycles twice_restricted
most_reached = refl

-- so each takes 49 bits at most
pub fits_49 : (t L D n W : ℕ) → AtMost (2 ^ 49 - 1) (latencies t L D n W)
fits_49 t L D n W =
    let m = at_most t L D n W in
    record {
      unicast_most = omega (arith, m.unicast_most);
      multi_most = omega (arith, m.multi_most);
      resumable_most = omega (arith, m.resumable_most);
      restricted_most = omega (arith, m.restricted_most);
    }

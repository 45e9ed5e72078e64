-- What document 02, L14, asks to show of the four values: they agree for one target, and when restricted is below multi-unicast;
-- and the other form that 001 gives the restricted average. Assumes nothing.
use mathlib.Core.Path.{◌≡◌, refl, ap, ◌∙◌}
use mathlib.Core.Bool.{true}
use Prim.Native.Nat.{ℕ, ◌+◌, ◌-◌, ◌*◌, ◌≤◌, ◌<◌}
use native.Mathlib.Nat.{mul_assoc, add-mul, mul-lt-mul_of_pos_left, lt_of_mul-lt-mul_left}
use native.Mathlib.Omega.{arith}
use Rattle.base.specs.Bools.{cond_ok}
use Rattle.latency.specs.Latency.{arguments_ok, ceiling, twice_unicast, twice_multi, twice_resumable, twice_restricted}
use Rattle.latency.specs.Latency.{by_cycles, outside, latencies}
use Rattle.latency.specs.Latency.{Latencies}

-- ---- one target

pub record Agree (r : Latencies) : Type 0 where
  pub multi_agrees : r.multi ≡ r.unicast
  pub resumable_agrees : r.resumable ≡ r.unicast
  pub restricted_agrees : r.restricted ≡ r.unicast

-- L14: "Show that for n = 1 all four agree"
pub all_agree : (t L D W : ℕ) → Agree (latencies t L D 1 W)
unfolding latencies by_cycles twice_unicast twice_multi twice_resumable twice_restricted
all_agree t L D W =
    cond_ok Agree (arguments_ok t L D 1 W) (by_cycles (ceiling t W) (ceiling L W) D 1) outside
    (λ h. record { multi_agrees = omega arith; resumable_agrees = omega arith; restricted_agrees = omega arith })
    (λ h. record { multi_agrees = refl; resumable_agrees = refl; restricted_agrees = refl })

-- ---- restricted and multi-unicast

module _ (a b D n : ℕ) (several : 1 < n) where
  hops : (n - 1) * a * D ≡ (n - 1) * (a * D)
  hops = mul_assoc (n - 1) a D

  below : twice_restricted a b D n < twice_multi a b D n → a * D < b
  unfolding twice_multi twice_restricted
  below h = lt_of_mul-lt-mul_left (n - 1) {m = a * D} {n = b} (omega (arith, h, hops))

  only_below : a * D < b → twice_restricted a b D n < twice_multi a b D n
  unfolding twice_multi twice_restricted
  only_below h = omega (arith, hops, mul-lt-mul_of_pos_left {m = a * D} {n = b} {k = n - 1} h (omega (arith, several)))

-- the answer where nothing is refused
pub by_cycles_lem : (t L D n W : ℕ) → arguments_ok t L D n W ≡ true → latencies t L D n W ≡ by_cycles (ceiling t W) (ceiling L W) D n
unfolding latencies
by_cycles_lem t L D n W h = rw h refl

-- L14: "restricted is below multi-unicast for n above 1 exactly if ceiling(t / W) times D is below ceiling(L / W)"
pub below_exactly : (t L D n W : ℕ) → arguments_ok t L D n W ≡ true → 1 < n
    → ((latencies t L D n W).restricted < (latencies t L D n W).multi → ceiling t W * D < ceiling L W)
    × (ceiling t W * D < ceiling L W → (latencies t L D n W).restricted < (latencies t L D n W).multi)
unfolding by_cycles
below_exactly t L D n W h several =
    rw (by_cycles_lem t L D n W h)
    (below (ceiling t W) (ceiling L W) D n several, only_below (ceiling t W) (ceiling L W) D n several)

-- ---- the restricted average, as 001 has it first

-- "T_RBM = (n+1)/2 ⌈t/W⌉ D + ⌈L/W⌉ + (n-1)/2 ⌈t/W⌉", doubled: the same
pub first_form : (a b D n : ℕ) → 1 ≤ n → twice_restricted a b D n ≡ (n + 1) * a * D + 2 * b + (n - 1) * a
unfolding twice_restricted
first_form a b D n some = omega (arith, ap (λ (x : ℕ). x * D) more, add-mul ((n - 1) * a) (2 * a) D)
  where
    more : (n + 1) * a ≡ (n - 1) * a + 2 * a
    more = ap (λ (x : ℕ). x * a) (omega (arith, some)) ∙ add-mul (n - 1) 2 a

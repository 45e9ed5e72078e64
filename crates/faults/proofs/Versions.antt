-- The places of an archive by its version, told once for both: how far they reach, and that each part is within the
-- bytes. Assumes nothing.
use mathlib.Core.Path.{◌≡◌, refl}
use mathlib.Core.Bool.{Bool, true, false, cond}
use Prim.Native.Nat.{ℕ, ◌+◌, ◌*◌, ◌≤◌, ◌<◌}
use native.Mathlib.Omega.{arith}
use borrow.Author.Tests.{eq-eqb, ne_eqb}
use lib.Dec.{eqb}
use Rattle.base.specs.Sizes.{port_count}
use Rattle.format.specs.Format.{edition_width, channel_width, set_width, send_width}
use Rattle.format.specs.Format.{head_length, channel_place, routes_place, sends_place, length_with}

-- what holds of the widths of version 1 and of those of version 2 holds of the widths of every version
pub by_version : (P : ℕ → ℕ → ℕ → Type 0) (v : ℕ) → P 0 1 2 → P 1 2 8 → P (edition_width v) (channel_width v) (set_width v)
by_version P v first second = go (eqb v 1)
  where
    go : (t : Bool) → P (cond t 0 1) (cond t 1 2) (cond t 2 8)
    go true = first
    go false = second

module _ (v : ℕ) where
  -- the edition has a byte at most, a set two bytes at least
  pub edition_small : edition_width v ≤ 1
  edition_small = by_version (λ e c s. e ≤ 1) v (omega arith) (omega arith)

  pub set_some : 2 ≤ set_width v
  set_some = by_version (λ e c s. 2 ≤ s) v (omega arith) (omega arith)

  -- where it is known which of the two
  pub channel_first : (m : ℕ) → v ≡ 1 → channel_place v m ≡ 13 + m
  channel_first m e = rw (eq-eqb v 1 e) (omega arith)

  pub channel_second : (m : ℕ) → (v ≡ 1 → ⊥) → channel_place v m ≡ 14 + 2 * m
  channel_second m e = rw (ne_eqb v 1 e) refl

  pub set_second : (v ≡ 1 → ⊥) → set_width v ≡ 8
  set_second e = rw (ne_eqb v 1 e) refl

  -- the routes begin early enough for a small number
  pub routes_begin : (S : ℕ) → S < 256 → routes_place v S ≤ 2054
  routes_begin S l = by_version (λ e c s. 13 + e + c * (port_count * S) ≤ 2054) v (omega arith) (omega arith)

  -- ---- what is within an archive of S sites and N sends

  module _ (S N : ℕ) where
    pub head_within : head_length v ≤ length_with v S N
    head_within = omega arith

    -- channel m and the byte behind it
    pub channel_within : (m : ℕ) → m < port_count * S → 1 ≤ S * S → channel_place v m + 2 ≤ length_with v S N
    channel_within m l q =
        by_version (λ e c s. 13 + e + c * m + 2 ≤ 13 + e + c * (port_count * S) + 2 * (S * S) + (3 + s) * N) v
        (omega arith) (omega arith)

    -- route k
    pub route_within : (k : ℕ) → k < S * S → routes_place v S + 2 * k + 2 ≤ length_with v S N
    route_within k l = omega arith

    -- send k
    pub send_within : (k : ℕ) → k < N → sends_place v S + send_width v * k + send_width v ≤ length_with v S N
    send_within k l =
        by_version
        (λ e c s.
        13 + e + c * (port_count * S) + 2 * (S * S) + (3 + s) * k + (3 + s)
        ≤ 13 + e + c * (port_count * S) + 2 * (S * S) + (3 + s) * N) v
        (omega arith) (omega arith)

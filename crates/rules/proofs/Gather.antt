-- The router's search over targets and ports, as its two loops take it: what is known before a turn of each, and what each
-- way through a turn makes of it. Assumes nothing.
use mathlib.Core.Path.{◌≡◌, refl, sym, ap, ◌∙◌}
use mathlib.Core.Bool.{true, false}
use mathlib.Core.List.{List}
use Prim.Native.Nat.{ℕ, suc, ◌+◌, ◌-◌, ◌≤◌, ◌<◌}
use native.Mathlib.Omega.{arith}
use borrow.Author.Tests.{ne_eqb}
use lib.ListN.{get_or, length, length-set, drop}
use Rattle.std.specs.Prelude.{None}
use Rattle.base.specs.Sizes.{output_count, port_count}
use Rattle.sets.specs.Sets.{has}
use Rattle.types.specs.declared.Network.{Network}
use Rattle.types.specs.declared.Output.{Output}
use Rattle.model.specs.Network.{list_of}
use Rattle.model.specs.Router.{Gathered, Every, Missing, first_port, serves, gets, gather_from, gather, unchosen}
use Rattle.rules.specs.Router.{of_gathered}
use Rattle.rules.proofs.Found.{port_hit, port_miss, port_none, is_port_lem}

-- before target t: what is to do from it on is what is to do from the start
pub record Turning (n : Network) (s : ℕ) (os : List Output) (Y : ℕ) (sets : List ℕ) (t : ℕ) : Type 0 where
  pub below : t ≤ n.sites
  pub five : length sets ≡ output_count
  pub same : gather_from n s os Y (n.sites - t) t sets ≡ gather n s os Y

-- before port k of the list of target t, the outer loop's turn having begun with target b
pub record Seeking (n : Network) (s : ℕ) (os : List Output) (Y : ℕ) (sets : List ℕ) (t b : ℕ) (l : List ℕ) (k : ℕ) : Type 0 where
  pub small : k ≤ port_count
  pub four : length l ≡ port_count
  pub below : t < n.sites
  pub here : t ≡ b
  pub five : length sets ≡ output_count
  pub wanted : has t Y ≡ true
  pub ahead : first_port (serves os sets) (drop k l) ≡ first_port (serves os sets) (list_of n s t)
  pub same : gather_from n s os Y (n.sites - t) t sets ≡ gather n s os Y

-- a loop that counts t up to n has n - t turns left: one, and what is left after it
left : (n t : ℕ) → t < n → n - t ≡ suc (n - (t + 1))
left n t h = omega arith

pub missing : (g : Gathered) → of_gathered g ≡ None → g ≡ Missing
missing (Every sets) e = absurd (cc)
missing Missing e = refl

module _ {n : Network} {s : ℕ} {os : List Output} {Y : ℕ} where
  pub starts : Turning n s os Y unchosen 0
  unfolding gather
  starts =
      let e : n.sites - 0 ≡ n.sites = omega arith in
      record { below = omega arith; five = refl; same = ap (λ (m : ℕ). gather_from n s os Y m 0 unchosen) e }

  module _ {sets : List ℕ} {t : ℕ} (w : Turning n s os Y sets t) where
    -- all targets have an output
    pub done : n.sites ≤ t → gather n s os Y ≡ Every sets
    unfolding gather_from
    done l = let e : n.sites - t ≡ 0 = omega arith in sym w.same ∙ ap (λ (m : ℕ). gather_from n s os Y m t sets) e

    -- t is no target
    pub pass_by : t < n.sites → has t Y ≡ false → Turning n s os Y sets (t + 1)
    unfolding gather_from
    pass_by h e = record { below = omega arith; five = w.five; same = rw (left n.sites t h, e) at w.same }

    -- t is one
    pub enter : (l : List ℕ) → t < n.sites → has t Y ≡ true → l ≡ list_of n s t → Seeking n s os Y sets t t l 0
    enter l h e g =
        record {
          small = omega arith;
          four = ap length g;
          below = h;
          here = refl;
          five = w.five;
          wanted = e;
          ahead = ap (first_port (serves os sets)) g;
          same = w.same;
        }

  module _ {sets : List ℕ} {t b : ℕ} {l : List ℕ} {k : ℕ} (w : Seeking n s os Y sets t b l k) where
    -- no port serves
    pub no_port : port_count ≤ k → gather n s os Y ≡ Missing
    unfolding gather_from
    no_port h =
        let z : first_port (serves os sets) (list_of n s t) ≡ 0 = sym w.ahead ∙ port_none (serves os sets) l k (omega (arith, w.four)) in
        sym w.same ∙ (rw (left n.sites t w.below, w.wanted, z))

    -- port k does not
    pub next_port : k < port_count → serves os sets (get_or l k 0) ≡ false → Seeking n s os Y sets t b l (k + 1)
    next_port h e =
        record {
          small = omega arith;
          four = w.four;
          below = w.below;
          here = w.here;
          five = w.five;
          wanted = w.wanted;
          ahead = port_miss (serves os sets) l k (omega (arith, w.four)) e ∙ w.ahead;
          same = w.same;
        }

    -- port k does
    pub with_port : k < port_count → serves os sets (get_or l k 0) ≡ true → Turning n s os Y (gets sets (get_or l k 0) t) (t + 1)
    unfolding gather_from
    with_port h e =
        let p = is_port_lem os sets (get_or l k 0) e in
        let z : first_port (serves os sets) (list_of n s t) ≡ get_or l k 0 = sym w.ahead ∙ port_hit (serves os sets) l k (omega (arith, w.four)) e in
        let q = ne_eqb (get_or l k 0) 0 (λ i. omega (arith, p.0)) in
        record {
          below = omega (arith, w.below);
          five = simp length-set w.five;
          same = rw (left n.sites t w.below, w.wanted, z, q) at w.same;
        }

-- What a valid network is known by: the test of a network (2, 17, 3, 6, 7), taken apart. Assumes nothing.
use Prim.Native.Nat.{ℕ, ◌+◌, ◌*◌, ◌≤◌, ◌<◌, suc}
use mathlib.Core.Path.{◌≡◌, sym, ◌∙◌}
use mathlib.Core.Bool.{true, not}
use mathlib.Core.Logic.{⊎_elim}
use native.Mathlib.Omega.{arith}
use native.Mathlib.Decide.{dec_lt}
use borrow.Author.Tests.{ltb-true, leb-true, eqb-true, eqb-false, not-true}
use lib.Dec.{eqb, ltb, leb}
use Rattle.base.specs.Sizes.{sites_most, first_sites, port_count, queue_room, no_channel}
use Rattle.base.specs.Bools.{both, either, first_of, cond_ok}
use Rattle.base.specs.All.{all_at}
use Rattle.theorems.specs.Names.{Network}
use Rattle.model.specs.Network.{channel_at, channel, joined, version_ok, edition_ok, kind_then, sites_in, sizes_ok}
use Rattle.model.specs.Network.{channel_ok, channels_ok, routes_ok, network_refusal}

pub record Valid (n : Network) : Type 0 where
  pub some : 1 ≤ n.sites
  pub few : n.sites ≤ sites_most
  pub tried : 1 ≤ n.tries
  pub deep : n.depth ≤ queue_room
  pub room : 1 ≤ n.depth
  -- a channel ends at an input of the network, and no two end at the same one
  pub ends : (s j : ℕ) → s < n.sites → j < port_count → joined n s (suc j) ≡ true → channel n s (suc j) < port_count * n.sites
  pub apart : (s j s' j' : ℕ) → s < n.sites → j < port_count → s' < n.sites → j' < port_count → joined n s (suc j) ≡ true
      → channel n s (suc j) ≡ channel n s' (suc j') → (s ≡ s') × (j ≡ j')

-- version and edition known, where nothing is refused
pub kind_known : (n : Network) (next : ℕ) → kind_then n next ≡ 0 → (version_ok n ≡ true) × (edition_ok n ≡ true) × (next ≡ 0)
kind_known n next h =
    let a = first_of (version_ok n) _ 2 0 (λ e. omega arith) h in
    let b = first_of (edition_ok n) next 17 0 (λ e. omega arith) a.1 in
    (a.0, b.0, b.1)

-- the three tests of a network that is not refused
pub passed : (n : Network) → network_refusal n ≡ 0 → (sizes_ok n ≡ true) × (channels_ok n ≡ true) × (routes_ok n ≡ true)
unfolding network_refusal
passed n h =
    let a = first_of (sizes_ok n) _ 3 0 (λ e. omega arith) (kind_known n _ h).2 in
    let b = first_of (channels_ok n) _ 6 0 (λ e. omega arith) a.1 in
    (a.0, b.0, (first_of (routes_ok n) 0 7 0 (λ e. omega arith) b.1).0)

-- no version has more than the most sites
pub sites_in_lem : (version : ℕ) → sites_in version ≤ sites_most
sites_in_lem version = cond_ok (λ (m : ℕ). m ≤ sites_most) (eqb version 1) first_sites sites_most (λ e. omega arith) (λ e. omega arith)

-- S, T and D within their limits
pub sizes_at : (n : Network) → sizes_ok n ≡ true
    → (1 ≤ n.sites) × (n.sites ≤ sites_most) × (1 ≤ n.tries) × (1 ≤ n.depth) × (n.depth ≤ queue_room)
sizes_at n h =
    let a = both _ (leb n.depth queue_room) h in
    let b = both _ (leb 1 n.depth) a.0 in
    let c = both _ (leb 1 n.tries) b.0 in
    let d = both (leb 1 n.sites) (leb n.sites (sites_in n.version)) c.0 in
    let few : n.sites ≤ sites_most = omega (arith, leb-true n.sites (sites_in n.version) d.1, sites_in_lem n.version) in
    (leb-true _ _ d.0, few, leb-true _ _ c.1, leb-true _ _ b.1, leb-true _ _ a.1)

module _ (n : Network) (h : network_refusal n ≡ 0) where
  channel_ok_lem : (c : ℕ) → c < port_count * n.sites → (channel_at n c ≡ no_channel → ⊥)
      → (channel_at n c < port_count * n.sites) × ((d : ℕ) → d < c → channel_at n d ≡ channel_at n c → ⊥)
  channel_ok_lem c l ne =
      ⊎_elim (λ e. absurd (ne (eqb-true (channel_at n c) no_channel e)))
      (λ e.
      let w = both (ltb (channel_at n c) (port_count * n.sites)) _ e in
      (ltb-true _ _ w.0, λ d k. eqb-false _ _ (not-true _ (all_at (λ d. not (eqb (channel_at n d) (channel_at n c))) d c k w.1))))
      (either (eqb (channel_at n c) no_channel) _ (all_at (channel_ok n) c (port_count * n.sites) l (passed n h).1))

  same_channel : (c d : ℕ) → c < port_count * n.sites → d < port_count * n.sites → (channel_at n c ≡ no_channel → ⊥)
      → channel_at n c ≡ channel_at n d → c ≡ d
  same_channel c d hc hd ne e = go (dec_lt c d) (dec_lt d c)
    where
      go : Dec (c < d) → Dec (d < c) → c ≡ d
      go (yes a) b = absurd ((channel_ok_lem d hd (λ k. ne (e ∙ k))).1 c a e)
      go (no a) (yes b) = absurd ((channel_ok_lem c hc ne).1 d b (sym e))
      go (no a) (no b) = omega arith

  there : {b : ℕ} → not (eqb b no_channel) ≡ true → b ≡ no_channel → ⊥
  there {b} e = eqb-false b no_channel (not-true (eqb b no_channel) e)

  pub valid_ok : Valid n
  valid_ok =
      let sizes = sizes_at n (passed n h).0 in
      record {
        some = sizes.0;
        few = sizes.1;
        tried = sizes.2;
        deep = sizes.4;
        room = sizes.3;
        ends = λ s j hs hj hb. (channel_ok_lem (port_count * s + j) (omega arith) (there hb)).0;
        apart =
            λ s j s' j' hs hj hs' hj' hb e.
            let c = same_channel (port_count * s + j) (port_count * s' + j') (omega arith) (omega arith) (there hb) e in
            (omega arith, omega arith);
      }

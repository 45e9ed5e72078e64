-- What the bytes of an archive whose head passed hold: the model's channels, tables of ports, routes and sends, where they
-- stand, and that all of it is within the bytes. Assumes nothing.
use mathlib.Core.Path.{◌≡◌, refl, sym, ap, ◌∙◌}
use mathlib.Core.Bool.{Bool}
use mathlib.Core.List.{List}
use Prim.Native.Nat.{ℕ, ◌+◌, ◌*◌, ◌≤◌, ◌<◌}
use native.Mathlib.Nat.{mul-le-mul}
use native.Mathlib.Omega.{arith}
use lib.ListN.{length}
use Rattle.base.specs.Sizes.{sites_most, port_count}
use Rattle.base.specs.Flat.{place_below}
use Rattle.base.specs.Over.{over_below}
use Rattle.types.specs.declared.StoredSend.{StoredSend}
use Rattle.model.specs.Types.{send_d, send_at}
use Rattle.model.specs.Network.{channel_at, is_channel, route_of, route_ok, no_channels, no_routes}
use Rattle.model.specs.Runs.{send_ok, no_sends}
use Rattle.checks.specs.Network.{ports_by, ports_of, route_by}
use Rattle.checks.specs.Sends.{draw_before, send_after}
use Rattle.checks.proofs.NetworkLaws.{route_by_lem}
use Rattle.checks.proofs.SendsLaws.{draw_next, send_in_lem}
use Rattle.format.specs.Format.{at, word, draws_place, head_length, channel_place, routes_place, sends_place}
use Rattle.format.specs.Format.{send_width, length_with, channel_in, set_in, send_of, version_of, sites_of, count_of, network_of, run_of}
use Rattle.faults.specs.Head.{Head, Read}
use Rattle.faults.proofs.Versions.{channel_within, route_within, send_within}

pub sites_held : (b : List ℕ) (S : ℕ) → S ≡ sites_of b → S ≡ (network_of b).sites
unfolding network_of
sites_held b S e = e

pub count_held : (b : List ℕ) (N : ℕ) → N ≡ count_of b → N ≡ (run_of b).count
unfolding run_of
count_held b N e = e

pub sites_run : (b : List ℕ) (S : ℕ) → S ≡ sites_of b → S ≡ (run_of b).network.sites
unfolding run_of
sites_run b S e = e

draws_run : (b : List ℕ) (v : ℕ) → v ≡ version_of b → word b (draws_place v) ≡ (run_of b).draws
unfolding run_of
draws_run b v e = ap (λ (x : ℕ). word b (draws_place x)) e

-- what the head says of the version and S that were read
pub record Sized (b : List ℕ) (v S : ℕ) : Type 0 where
  pub enough : head_length v ≤ length b
  pub size : length b ≡ length_with v S (count_of b)
  pub some : 1 ≤ S
  pub few : S ≤ sites_most
  pub square : S * S ≤ sites_most * sites_most
  pub squared : 1 ≤ S * S

sized_head : (b : List ℕ) → Head b → Sized b (version_of b) (sites_of b)
sized_head b h =
    record {
      enough = h.enough;
      size = h.size;
      some = h.some;
      few = h.few;
      square = h.square;
      squared = mul-le-mul h.some h.some;
    }

pub sized : (b : List ℕ) (v S : ℕ) → Read b v S → Sized b v S
sized b v S r = rw (r.version, r.sites) (sized_head b r.head)

module _ (b : List ℕ) (v S : ℕ) (r : Read b v S) where
  -- ---- where channels, routes and sends stand is within the bytes

  pub channel_inside : (m : ℕ) → m < port_count * S → channel_place v m + 2 ≤ length b
  channel_inside m l =
      let z = sized b v S r in
      omega (arith, z.size, channel_within v S (count_of b) m l z.squared)

  pub row_small : (s : ℕ) → s < S → s * S < sites_most * sites_most
  row_small s l = let z = sized b v S r in omega (arith, place_below s 0 S sites_most l z.some z.few)

  pub route_inside : (s t : ℕ) → s < S → t < S → routes_place v S + 2 * (s * S) + 2 * t + 1 < length b
  route_inside s t ls lt =
      let z = sized b v S r in
      omega (arith, z.size, route_within v S (count_of b) (s * S + t) (place_below s t S S ls lt (omega arith)))

  pub send_inside : (N k : ℕ) → N ≡ count_of b → k < N
      → sends_place v S + send_width v * k + send_width v ≤ length b
  send_inside N k eN l =
      let z = sized b v S r in
      omega (arith, z.size, send_within v S (count_of b) k (omega arith))

  -- ---- channels

  pub channel_held : (m : ℕ) → m < port_count * S → channel_at (network_of b) m ≡ channel_in v b (channel_place v m)
  unfolding network_of
  channel_held m l =
      let held : channel_at (network_of b) m ≡ channel_in (version_of b) b (channel_place (version_of b) m) =
      over_below (λ c. channel_in (version_of b) b (channel_place (version_of b) c)) (port_count * sites_of b) no_channels m 0
      (omega (arith, r.sites)) (omega (arith, r.head.few)) in
      held ∙ ap (λ (x : ℕ). channel_in x b (channel_place x m)) (sym r.version)

  -- the table of the ports of site s, by the channels that were read
  pub ports_held : (s w x y z : ℕ) → s < S
      → w ≡ channel_in v b (channel_place v (port_count * s))
      → x ≡ channel_in v b (channel_place v (port_count * s + 1))
      → y ≡ channel_in v b (channel_place v (port_count * s + 2))
      → z ≡ channel_in v b (channel_place v (port_count * s + 3))
      → ports_by (is_channel w) (is_channel x) (is_channel y) (is_channel z) ≡ ports_of (network_of b) s
  ports_held s w x y z l ew ex ey ez =
      let held : (j q p : ℕ) → j < port_count → p ≡ port_count * s + j → q ≡ channel_in v b (channel_place v p)
      → channel_at (network_of b) (port_count * s + j) ≡ q =
      λ j q p k e eq. ap (channel_at (network_of b)) (sym e) ∙ channel_held p (omega arith) ∙ sym eq in
      sym
      (rw (
        held 0 w (port_count * s) (omega arith) (omega arith) ew,
        held 1 x (port_count * s + 1) (omega arith) refl ex,
        held 2 y (port_count * s + 2) (omega arith) refl ey,
        held 3 z (port_count * s + 3) (omega arith) refl ez,
      ) refl)

  -- ---- routes

  -- that from site s to site t
  pub route_held : (s t p : ℕ) → s < S → t < S → p ≡ routes_place v S + 2 * (s * S) + 2 * t
      → route_of (network_of b) s t ≡ word b p
  unfolding network_of
  route_held s t p ls lt e =
      let n = sites_of b in
      let from = routes_place (version_of b) n in
      let held : route_of (network_of b) s t ≡ word b (from + 2 * (s * n + t)) =
      over_below (λ k. word b (from + 2 * k)) (n * n) no_routes (s * n + t) 0
      (place_below s t n n (omega (arith, r.sites)) (omega (arith, r.sites)) (omega arith))
      (omega (arith, r.head.square)) in
      held ∙ (rw (← r.sites, ← r.version) (ap (word b) (omega arith)))

  pub route_tested : (s t p w : ℕ) (ports : List Bool) (said : Bool) → s < S → t < S
      → p ≡ routes_place v S + 2 * (s * S) + 2 * t → ports ≡ ports_of (network_of b) s → w ≡ word b p
      → said ≡ route_by ports s t w → said ≡ route_ok (network_of b) s t
  route_tested s t p w ports said ls lt ep eports ew er =
      er
      ∙ ap (λ (ps : List Bool). route_by ps s t w) eports
      ∙ ap (route_by (ports_of (network_of b) s) s t) (ew ∙ sym (route_held s t p ls lt ep))
      ∙ route_by_lem (network_of b) s t

  -- ---- sends

  -- send m, at place p
  module _ (N m p : ℕ) (eN : N ≡ count_of b) (e : p ≡ sends_place v S + send_width v * m) (l : m < N) (few : N < 256) where
    pub send_held : send_of v b p ≡ send_at (run_of b) m
    unfolding run_of
    send_held =
        let n = sites_of b in
        let w = version_of b in
        let from = sends_place w n in
        let held : send_at (run_of b) m ≡ send_of w b (from + send_width w * m) =
        over_below (λ k. send_of w b (from + send_width w * k)) (count_of b) no_sends m send_d (omega arith) (omega arith) in
        rw e (rw (r.version, r.sites) (sym held))

    -- the test of it, with the numbers that were read for it
    module _ (draw set : ℕ) (ed : draw ≡ word b p) (es : set ≡ set_in v b (p + 3)) where
      read : ◌≡◌ {A = StoredSend} (record { set = set; draw = draw; site = at b (p + 2) }) (send_at (run_of b) m)
      read = rw (ed, es) send_held

      pub send_tested : (draws last : ℕ) (said : Bool) → draws ≡ word b (draws_place v)
          → last ≡ draw_before (send_at (run_of b)) m
          → said ≡ send_after S draws last (record { set = set; draw = draw; site = at b (p + 2) })
          → said ≡ send_ok (run_of b) m
      send_tested draws last said eD el er =
          er
          ∙ ap (send_after S draws last) read
          ∙ ap (λ (x : ℕ). send_after x draws last (send_at (run_of b) m)) (sites_run b S r.sites)
          ∙ ap (λ (x : ℕ). send_after (run_of b).network.sites x last (send_at (run_of b) m)) (eD ∙ draws_run b v r.version)
          ∙ ap (λ (x : ℕ). send_after (run_of b).network.sites (run_of b).draws x (send_at (run_of b) m)) el
          ∙ send_in_lem (run_of b) m

      -- and the draw number that the next one is tested behind
      pub draw_kept : draw ≡ draw_before (send_at (run_of b)) (m + 1)
      draw_kept = ap (λ (x : StoredSend). x.draw) read ∙ draw_next (send_at (run_of b)) m

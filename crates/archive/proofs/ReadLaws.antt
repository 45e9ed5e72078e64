-- The network and the run of bytes whose head passed, as the reader reads them: from place p on, where the fields
-- stand, with S as it was read. Assumes nothing.
use mathlib.Core.Path.{◌≡◌, refl, sym, ap, ◌∙◌}
use mathlib.Core.List.{List}
use Prim.Native.Nat.{ℕ, ◌+◌, ◌*◌, ◌≤◌, ◌<◌}
use native.Mathlib.Nat.{mul-le-mul}
use native.Mathlib.Omega.{arith}
use lib.ListN.{length}
use Rattle.base.specs.Sizes.{sites_most, sends_most, port_count}
use Rattle.types.specs.declared.Network.{Network}
use Rattle.types.specs.declared.StoredSend.{StoredSend}
use Rattle.types.specs.declared.Run.{Run}
use Rattle.format.specs.Format.{at, quad, edition_place, sites_place, tries_place, depth_place, seed_place, draws_place}
use Rattle.format.specs.Format.{count_place}
use Rattle.format.specs.Format.{channel_place, routes_place, sends_place, length_with, send_width, edition_of, channels_of}
use Rattle.format.specs.Format.{routes_of, sends_of}
use Rattle.format.specs.Format.{version_of, sites_of, count_of, network_of, run_of}
use Rattle.faults.specs.Head.{Head}

module _ (b : List ℕ) (p : ℕ) (ep : p ≡ sites_place (version_of b)) where
  abbrev v : ℕ
  v = version_of b

  -- field k is at place q
  field : (k q : ℕ) → q ≡ sites_place v + k → p + k ≡ q
  field k q e = omega arith

  -- ---- where the parts stand is within the bytes

  module _ (h : Head b) (S : ℕ) (eS : S ≡ at b p) where
    sites : S ≡ sites_of b
    sites = eS ∙ ap (at b) ep

    square : S * S ≡ sites_of b * sites_of b
    square = ap (λ (x : ℕ). x * x) sites

    size : length b ≡ length_with v S (count_of b)
    size = h.size ∙ ap (λ (x : ℕ). length_with v x (count_of b)) (sym sites)

    pub channels_within : (port_count * S ≤ port_count * sites_most) × (channel_place v (port_count * S) < length b)
    channels_within =
        let some : 1 * 1 ≤ sites_of b * sites_of b = mul-le-mul h.some h.some in
        (omega (arith, sites, h.few), omega (arith, size, square, some))

    pub routes_within : (q : ℕ) → q ≡ routes_place v (at b p)
        → (S * S ≤ sites_most * sites_most) × (q + 2 * (S * S) ≤ length b)
    routes_within q e =
        let place : q ≡ routes_place v S = e ∙ ap (routes_place v) (sym eS) in
        (omega (arith, square, h.square), omega (arith, size, place))

    pub sends_within : (N : ℕ) → N ≡ at b (p + 9) → N < 256
        → (N ≤ sends_most) × (sends_place v S + send_width v * N ≤ length b)
    sends_within N e l =
        let count : N ≡ count_of b = e ∙ ap (at b) (field 9 (count_place v) (omega arith)) in
        let whole : length b ≡ length_with v S N = size ∙ ap (length_with v S) (sym count) in
        (omega arith, omega (arith, whole))

  -- ---- what is read

  pub network_read : (S D edition q : ℕ) (channels routes : List ℕ) → S ≡ at b p → D ≡ at b (p + 2)
      → edition ≡ edition_of v (at b edition_place) → channels ≡ channels_of v b (port_count * S)
      → q ≡ routes_place v (at b p) → routes ≡ routes_of b q (S * S)
      → ◌≡◌ {A = Network}
      (record {
        sites = S;
        depth = D;
        tries = at b (p + 1);
        version = v;
        edition = edition;
        channels = channels;
        routes = routes;
      }) (network_of b)
  unfolding network_of
  network_read S D edition q channels routes eS eD ee ec eq er =
      let t = ap (at b) (field 1 (tries_place v) (omega arith)) in
      let d = ap (at b) (field 2 (depth_place v) (omega arith)) in
      rw (er, eq, ec, eS, eD, ee, t, d, ep) refl

  pub run_read : (n : Network) (seed draws N : ℕ) (sends : List StoredSend) → n ≡ network_of b → seed ≡ quad b (p + 3)
      → draws ≡ at b (p + 7) * 256 + at b (p + 8) → N ≡ at b (p + 9) → sends ≡ sends_of v b (sends_place v (at b p)) N
      → ◌≡◌ {A = Run} (record { network = n; seed = seed; draws = draws; count = N; sends = sends }) (run_of b)
  unfolding network_of run_of
  run_read n seed draws N sends en es ed eN ee =
      let s = ap (quad b) (field 3 (seed_place v) (omega arith)) in
      let x = ap (at b) (field 7 (draws_place v) (omega arith)) in
      let y = ap (at b) (field 8 (draws_place v + 1) (omega arith)) in
      let c = ap (at b) (field 9 (count_place v) (omega arith)) in
      rw (ee, en, es, ed, eN, s, x, y, c, ep) refl

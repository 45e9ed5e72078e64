-- What the functions of the mover cite of the parts of a file: the lists that are moved, the head, all of them together.
-- Assumes nothing.
use mathlib.Core.Path.{◌≡◌, refl, sym, ap, ◌∙◌}
use mathlib.Core.Bool.{Bool, true, false, ◌&&◌}
use mathlib.Core.List.{List}
use Prim.Native.Nat.{ℕ, ◌+◌, ◌*◌, ◌≤◌, ◌<◌}
use native.Mathlib.Nat.{mul-le-mul}
use native.Mathlib.Omega.{arith}
use lib.Dec.{eqb, leb}
use lib.ListN.{length, get_or}
use Rattle.base.specs.Sizes.{sites_most, first_sites, port_count, sends_most}
use Rattle.base.specs.Over.{over_below}
use Rattle.base.specs.Put.{put}
use Rattle.types.specs.declared.StoredSend.{StoredSend}
use Rattle.model.specs.Types.{send_d}
use Rattle.model.specs.Network.{no_channels, no_routes, network_under}
use Rattle.model.specs.Runs.{no_sends, under}
use Rattle.format.specs.Format.{at, word, quad, word_bytes, start_with, fields_with, head_bytes, channel_part, channel_bytes}
use Rattle.format.specs.Format.{route_bytes, send_bytes, sends_bytes, length_of}
use Rattle.format.specs.Format.{edition_place, sites_place, tries_place, depth_place, seed_place, draws_place, count_place}
use Rattle.format.specs.Format.{head_length, channel_width, channel_place, routes_place, sends_place, send_width, length_with}
use Rattle.format.specs.Format.{in_version, edition_of, channel_of, channel_in, send_of, channels_of, routes_of, sends_of}
use Rattle.format.specs.Format.{version_of, sites_of, count_of, run_of}
use Rattle.format.specs.Moves.{run_under, file_under, file_refusal, goes_into, go_refusal}
use Rattle.faults.specs.Head.{Head}
use Rattle.archive.specs.Code.{AllNarrow, Movable, fields_in}
use Rattle.archive.proofs.Holds.{part_ends}
use Rattle.archive.proofs.Parts.{length_channel, length_send}
use Rattle.archive.proofs.Put.{length_put, channels_turn, routes_turn, sends_turn, put_head, put_parts}

-- ---- the lists: what stands in them, and a turn of the loop that moves the first n

module _ (from to : ℕ) (b : List ℕ) (n k : ℕ) (l : k < n) where
  pub channel_there : n ≤ port_count * sites_most → at (channels_of from b n) k ≡ channel_in from b (channel_place from k)
  channel_there few = over_below (λ c. channel_in from b (channel_place from c)) n no_channels k 0 l (omega arith)

  pub channel_turn : n ≤ port_count * sites_most → (out a c : List ℕ) → length a ≡ length out
      → channel_place to n ≤ length out
      → a ≡ put out (head_length to) (channel_bytes to (channels_of from b n) k)
      → c ≡ put a (channel_place to k) (channel_part to (channel_in from b (channel_place from k)))
      → (length c ≡ length out) × (c ≡ put out (head_length to) (channel_bytes to (channels_of from b n) (k + 1)))
  channel_turn few out a c same room ea ec =
      let x = at (channels_of from b n) k in
      let q = channel_place to k in
      let e : c ≡ put a q (channel_part to x) =
      ec ∙ ap (λ (y : ℕ). put a q (channel_part to y)) (sym (channel_there few)) in
      let ends = part_ends (channel_width to) k n l in (
        ap length e ∙ length_put a q (channel_part to x) (omega (arith, ends, length_channel to x)) ∙ same,
        channels_turn to (channels_of from b n) out a c k q ea e refl (omega (arith, ends)),
      )

  pub send_turn_lem : (p q : ℕ) → n ≤ sends_most → (out a c : List ℕ) → length a ≡ length out
      → q + send_width to * n ≤ length out
      → a ≡ put out q (sends_bytes to (sends_of from b p n) k)
      → c ≡ put a (q + send_width to * k) (send_bytes to (send_of from b (p + send_width from * k)))
      → (length c ≡ length out) × (c ≡ put out q (sends_bytes to (sends_of from b p n) (k + 1)))
  send_turn_lem p q few out a c same room ea ec =
      let x = get_or (sends_of from b p n) k send_d in
      let at-k = q + send_width to * k in
      let there : x ≡ send_of from b (p + send_width from * k) =
      over_below (λ k. send_of from b (p + send_width from * k)) n no_sends k send_d l (omega arith) in
      let e : c ≡ put a at-k (send_bytes to x) = ec ∙ ap (λ (y : StoredSend). put a at-k (send_bytes to y)) (sym there) in
      let ends = part_ends (send_width to) k n l in (
        ap length e ∙ length_put a at-k (send_bytes to x) (omega (arith, ends, length_send to x)) ∙ same,
        sends_turn to (sends_of from b p n) out a c q k at-k ea e refl (omega (arith, ends)),
      )

pub route_turn : (b : List ℕ) (n k : ℕ) → k < n → (p q : ℕ) → n ≤ sites_most * sites_most → (out a c : List ℕ)
    → length a ≡ length out → q + 2 * n ≤ length out
    → a ≡ put out q (route_bytes (routes_of b p n) k) → c ≡ put a (q + 2 * k) (word_bytes (word b (p + 2 * k)))
    → (length c ≡ length out) × (c ≡ put out q (route_bytes (routes_of b p n) (k + 1)))
route_turn b n k l p q few out a c same room ea ec =
    let x = at (routes_of b p n) k in
    let there : x ≡ word b (p + 2 * k) = over_below (λ k. word b (p + 2 * k)) n no_routes k 0 l (omega arith) in
    let e : c ≡ put a (q + 2 * k) (word_bytes x) = ec ∙ ap (λ (y : ℕ). put a (q + 2 * k) (word_bytes y)) (sym there) in (
      ap length e ∙ length_put a (q + 2 * k) (word_bytes x) (omega arith) ∙ same,
      routes_turn (routes_of b p n) out a c q k ea e (omega arith),
    )

-- channel k of version v, by the place p where it was read
pub channel_here : (v : ℕ) (b : List ℕ) (k p x : ℕ) → p ≡ channel_place v k → x ≡ channel_of v (at b p) (at b (p + 1))
    → x ≡ channel_in v b (channel_place v k)
channel_here v b k p x e h = h ∙ ap (channel_in v b) e

-- ---- the head

pub fields_moved : (b out after : List ℕ) (p q S D seed draws N : ℕ) → S ≡ at b p → D ≡ at b (p + 2)
    → seed ≡ quad b (p + 3) → draws ≡ at b (p + 7) * 256 + at b (p + 8) → N ≡ at b (p + 9)
    → after ≡ put out q (fields_with S (at b (p + 1)) D seed draws N) → after ≡ put out q (fields_in b p)
fields_moved b out after p q S D seed draws N eS eD es ed eN e =
    let next : p + 8 ≡ p + 7 + 1 = omega arith in
    e ∙ rw (eS, eD, es, ed, eN, next) refl

fields_here : (b : List ℕ) (v p : ℕ) → p ≡ sites_place v
    → fields_in b p
    ≡ fields_with (at b (sites_place v)) (at b (tries_place v)) (at b (depth_place v)) (quad b (seed_place v))
    (word b (draws_place v)) (at b (count_place v))
fields_here b v p e =
    let tries : p + 1 ≡ tries_place v = omega arith in
    let depth : p + 2 ≡ depth_place v = omega arith in
    let seed : p + 3 ≡ seed_place v = omega arith in
    let draws : p + 7 ≡ draws_place v = omega arith in
    let count : p + 9 ≡ count_place v = omega arith in
    rw (tries, depth, seed, draws, count, e) refl

-- bytes whose head passed, of version `from`, their fields from place p on
module _ (b : List ℕ) (from p : ℕ) (h : Head b) (ev : from ≡ version_of b) (ep : p ≡ sites_place from) where
  from_place : p ≡ sites_place (version_of b)
  from_place = ep ∙ ap sites_place ev

  pub fields_within : (3 < length b) × (p + 10 ≤ length b)
  fields_within = (omega (arith, h.enough), omega (arith, from_place, h.enough))

  pub goes_here : (to edition : ℕ) → edition ≡ edition_of from (at b edition_place) → (g : Bool)
      → g ≡ in_version to (leb (at b p) first_sites && eqb edition 1) true → g ≡ goes_into to (run_of b)
  unfolding run_of
  goes_here to edition ee g eg = eg ∙ rw (ee, from_place, ev) refl

  -- the answer behind the file's own refusals
  module _ (passed : file_refusal from b ≡ 0) (to : ℕ) where
    pub go_yes : goes_into to (run_of b) ≡ true → 0 ≡ go_refusal from to b
    go_yes g = rw (passed, g) refl

    pub go_15 : goes_into to (run_of b) ≡ false → 15 ≡ go_refusal from to b
    go_15 g = rw (passed, g) refl

  pub size_here : (to size : ℕ) → size ≡ length_with to (at b p) (at b (p + 9)) → size ≡ length_of (run_under to b)
  unfolding under network_under run_of
  size_here to size e =
      let count : p + 9 ≡ count_place (version_of b) = omega (arith, from_place) in
      e ∙ rw (count, from_place) refl

-- the file moved to version `to`
module _ (b : List ℕ) (from to p : ℕ) (m : Movable b from to) (ep : p ≡ sites_place from) where
  pub head_moved : (out a c : List ℕ) (edition size q : ℕ) → edition ≡ edition_of from (at b edition_place)
      → size ≡ length_of (run_under to b) → q ≡ sites_place to → a ≡ put out 0 (start_with to edition size)
      → c ≡ put a q (fields_in b p) → c ≡ put out 0 (head_bytes (run_under to b))
  unfolding under network_under run_of
  head_moved out a c edition size q ee es eq ea ec =
      let here = from_place b from p m.head m.version ep in
      put_head (run_under to b) out a c size es (ea ∙ rw (ee, m.version) refl)
      (ec ∙ rw eq (ap (put a (sites_place to)) (fields_here b (version_of b) p here)))

  -- S and N, as they were read; a room for the moved file
  module _ (S N : ℕ) (eS : S ≡ at b p) (eN : N ≡ at b (p + 9)) (size room : ℕ) (es : size ≡ length_of (run_under to b))
      (enough : size ≤ room) where
    here : p ≡ sites_place (version_of b)
    here = from_place b from p m.head m.version ep

    sites : S ≡ sites_of b
    sites = eS ∙ ap (at b) here

    count : N ≡ count_of b
    count = eN ∙ ap (at b) (omega (arith, here))

    own_size : length b ≡ length_with from S N
    own_size = m.head.size ∙ rw (sites, count, m.version) refl

    new_size : size ≡ length_with to S N
    unfolding under network_under run_of
    new_size = es ∙ rw (sites, count) refl

    pub head_fits : head_length to ≤ room
    head_fits = omega (arith, new_size)

    square : S * S ≡ sites_of b * sites_of b
    square = ap (λ (x : ℕ). x * x) sites

    pub channels_fit : (port_count * S ≤ port_count * sites_most) × (channel_place from (port_count * S) < length b)
        × (channel_place to (port_count * S) ≤ room) × AllNarrow to (channels_of from b (port_count * S)) (port_count * S)
    channels_fit =
        let some : 1 * 1 ≤ sites_of b * sites_of b = mul-le-mul m.head.some m.head.some in (
          omega (arith, sites, m.head.few),
          omega (arith, own_size, square, some),
          omega (arith, new_size),
          rw sites m.narrow,
        )

    module _ (q r : ℕ) (eq : q ≡ routes_place from (at b p)) (er : r ≡ routes_place to (at b p)) where
      pub routes_fit : (S * S ≤ sites_most * sites_most) × (q + 2 * (S * S) ≤ length b) × (r + 2 * (S * S) ≤ room)
      routes_fit =
          let own : q ≡ routes_place from S = eq ∙ ap (routes_place from) (sym eS) in
          let new : r ≡ routes_place to S = er ∙ ap (routes_place to) (sym eS) in
          (omega (arith, square, m.head.square), omega (arith, own_size, own), omega (arith, new_size, new))

      pub parts_moved : (out a c d e : List ℕ) → a ≡ put out 0 (head_bytes (run_under to b))
          → c ≡ put a (head_length to) (channel_bytes to (channels_of from b (port_count * S)) (port_count * S))
          → d ≡ put c r (route_bytes (routes_of b q (S * S)) (S * S))
          → e ≡ put d (sends_place to (at b p)) (sends_bytes to (sends_of from b (sends_place from (at b p)) N) N)
          → e ≡ put out 0 (file_under to b)
      unfolding file_under under network_under run_of
      parts_moved out a c d e ea ec ed ee =
          put_parts (run_under to b) out a c d e ea (ec ∙ rw (sites, m.version) refl)
          (ed ∙ rw (er, eq, ← eS, sites, m.version) refl) (ee ∙ rw (← eS, sites, count, m.version) refl)

    pub sends_fit : N < 256 → (N ≤ sends_most) × (sends_place from (at b p) + send_width from * N ≤ length b)
        × (sends_place to (at b p) + send_width to * N ≤ room)
    sends_fit l = rw (← eS) (omega arith, omega (arith, own_size), omega (arith, new_size))

-- The parts of the archive of a run: how long they are, and which bytes have them where. Assumes nothing.
use mathlib.Core.Path.{◌≡◌, refl, ◌∙◌}
use mathlib.Core.Bool.{Bool, true, false, cond}
use mathlib.Core.List.{List, [], ◌∷◌, ◌++◌}
use Prim.Native.Nat.{ℕ, ◌+◌, ◌*◌, ◌≤◌, ◌<◌}
use native.Mathlib.Omega.{arith}
use lib.Dec.{eqb}
use lib.ListN.{length, get_or, length-append}
use Rattle.base.specs.Sizes.{sites_most, sends_most, port_count, no_channel}
use Rattle.types.specs.declared.Run.{Run}
use Rattle.types.specs.declared.StoredSend.{StoredSend}
use Rattle.model.specs.Types.{send_d, send_at}
use Rattle.format.specs.Format.{at, word_bytes, oct_bytes, start_with, fields_with, channel_part, send_bytes, encode}
use Rattle.format.specs.Format.{length_of}
use Rattle.format.specs.Format.{head_bytes, channel_bytes, route_bytes, sends_bytes, channel_width, send_width, sites_place}
use Rattle.format.specs.Format.{head_length, channel_place, routes_place, sends_place, length_with}
use Rattle.faults.proofs.Versions.{by_version}
use Rattle.archive.proofs.Holds.{Holds, part_ends, length_each, holds_both, holds_left, holds_right, holds_each}
use Rattle.archive.proofs.Holds.{holds_at}

-- ---- the widths, by the version

pub length_start : (v edition size : ℕ) → length (start_with v edition size) ≡ sites_place v
length_start v edition size = go (eqb v 1)
  where
    go : (t : Bool) → length (word_bytes size ++ (v ∷ []) ++ cond t [] (edition ∷ [])) ≡ 3 + cond t 0 1
    go true = refl
    go false = refl

pub length_channel : (v x : ℕ) → length (channel_part v x) ≡ channel_width v
length_channel v x = go (eqb v 1)
  where
    go : (t : Bool) → length (cond t (cond (eqb x no_channel) 255 x ∷ []) (word_bytes x)) ≡ cond t 1 2
    go true = refl
    go false = refl

pub length_send : (v : ℕ) (e : StoredSend) → length (send_bytes v e) ≡ send_width v
length_send v e = go (eqb v 1)
  where
    go : (t : Bool)
        → length (word_bytes e.draw ++ (e.site ∷ []) ++ cond t (word_bytes e.set) (oct_bytes e.set))
        ≡ 3 + cond t 2 8
    go true = refl
    go false = refl

-- a channel and the byte behind it stand before what follows the channels
pub channel_inside : (v c n m : ℕ) → c < n → channel_place v n < m → channel_place v c + 1 < m
channel_inside v c n m l h =
    let some = by_version (λ e w s. 1 ≤ w) v (omega arith) (omega arith) in
    omega (arith, part_ends (channel_width v) c n l)

-- the longest archive has 11,523 bytes
pub most_bytes : (v S N : ℕ) → S ≤ sites_most → S * S ≤ sites_most * sites_most → N ≤ sends_most → length_with v S N ≤ 11523
most_bytes v S N few square count =
    by_version (λ e c s. 13 + e + c * (port_count * S) + 2 * (S * S) + (3 + s) * N ≤ 11523) v (omega arith) (omega arith)

-- ---- the parts

module _ (r : Run) where
  abbrev v : ℕ
  v = r.network.version

  abbrev S : ℕ
  S = r.network.sites

  abbrev pub start_of : List ℕ
  start_of = start_with v r.network.edition (length_of r)

  abbrev pub fields_of : List ℕ
  fields_of = fields_with S r.network.tries r.network.depth r.seed r.draws r.count

  pub length_head : length (head_bytes r) ≡ head_length v
  unfolding head_bytes
  length_head = length-append start_of fields_of ∙ omega (arith, length_start v r.network.edition (length_of r))

pub length_channels : (v : ℕ) (cs : List ℕ) (n : ℕ) → length (channel_bytes v cs n) ≡ channel_width v * n
unfolding channel_bytes
length_channels v cs n = length_each (channel_width v) _ (λ c. length_channel v (at cs c)) n

pub length_routes : (rs : List ℕ) (n : ℕ) → length (route_bytes rs n) ≡ 2 * n
unfolding route_bytes
length_routes rs n = length_each 2 _ (λ k. refl) n

pub length_sends : (v : ℕ) (es : List StoredSend) (n : ℕ) → length (sends_bytes v es n) ≡ send_width v * n
unfolding sends_bytes
length_sends v es n = length_each (send_width v) _ (λ k. length_send v (get_or es k send_d)) n

-- the bytes l have the parts of the archive of r where they belong
pub record Held (l : List ℕ) (r : Run) : Type 0 where
  pub start : Holds l 0 (start_of r)
  pub fields : Holds l (sites_place (v r)) (fields_of r)
  pub channels : (c : ℕ) → c < port_count * S r
      → Holds l (channel_place (v r) c) (channel_part (v r) (at r.network.channels c))
  pub routes : (k : ℕ) → k < S r * S r
      → Holds l (routes_place (v r) (S r) + 2 * k) (word_bytes (at r.network.routes k))
  pub sends : (k : ℕ) → k < r.count
      → Holds l (sends_place (v r) (S r) + send_width (v r) * k) (send_bytes (v r) (send_at r k))

module _ (r : Run) where
  abbrev pub cs : List ℕ
  cs = channel_bytes (v r) r.network.channels (port_count * S r)

  abbrev pub rs : List ℕ
  rs = route_bytes r.network.routes (S r * S r)

  abbrev pub es : List ℕ
  es = sends_bytes (v r) r.sends r.count

  -- where the parts of an archive end
  pub starts : sites_place (v r) ≡ 0 + length (start_of r)
  starts = omega (arith, length_start (v r) r.network.edition (length_of r))

  pub heads : head_length (v r) ≡ 0 + length (head_bytes r)
  heads = omega (arith, length_head r)

  pub joins : routes_place (v r) (S r) ≡ 0 + length (head_bytes r ++ cs)
  joins =
      omega
      (arith, heads, length-append (head_bytes r) cs, length_channels (v r) r.network.channels (port_count * S r))

  pub leads : sends_place (v r) (S r) ≡ 0 + length (head_bytes r ++ cs ++ rs)
  leads = omega (arith, joins, length-append (head_bytes r ++ cs) rs, length_routes r.network.routes (S r * S r))

  -- "The length is 13 + 4S + 2S² + 5N", "14 + 8S + 2S² + 11N"
  pub length_encode : length (encode r) ≡ length_of r
  unfolding encode
  length_encode =
      length-append (head_bytes r ++ cs ++ rs) es
      ∙ omega (arith, leads, length_sends (v r) r.sends r.count)

  channels_wide : (c : ℕ) → length (channel_part (v r) (at r.network.channels c)) ≡ channel_width (v r)
  channels_wide c = length_channel (v r) (at r.network.channels c)

  sends_wide : (k : ℕ) → length (send_bytes (v r) (send_at r k)) ≡ send_width (v r)
  sends_wide k = length_send (v r) (send_at r k)

  module _ (l : List ℕ) where
    pub held_at : Holds l 0 (encode r) → Held l r
    unfolding encode head_bytes channel_bytes route_bytes sends_bytes
    held_at h =
        let c = holds_left l 0 _ (head_bytes r ++ cs ++ rs) es leads h in
        let b = holds_left l 0 _ (head_bytes r ++ cs) rs joins c in
        let a = holds_left l 0 _ (head_bytes r) cs heads b in
        record {
          start = holds_left l 0 _ (start_of r) (fields_of r) starts a;
          fields = holds_right l 0 _ (start_of r) (fields_of r) starts a;
          channels = holds_at l (channel_width (v r)) _ channels_wide (head_length (v r)) (port_count * S r)
              (holds_right l 0 _ (head_bytes r) cs heads b);
          routes = holds_at l 2 _ (λ k. refl) (routes_place (v r) (S r)) (S r * S r)
              (holds_right l 0 _ (head_bytes r ++ cs) rs joins c);
          sends = holds_at l (send_width (v r)) _ sends_wide (sends_place (v r) (S r)) r.count
              (holds_right l 0 _ (head_bytes r ++ cs ++ rs) es leads h);
        }

    pub held_by : Held l r → Holds l 0 (encode r)
    unfolding encode head_bytes channel_bytes route_bytes sends_bytes
    held_by h =
        let a = holds_both l 0 _ (start_of r) (fields_of r) starts h.start h.fields in
        let c = holds_each l (channel_width (v r)) _ channels_wide (head_length (v r)) (port_count * S r) h.channels in
        let t = holds_each l 2 _ (λ k. refl) (routes_place (v r) (S r)) (S r * S r) h.routes in
        let s = holds_each l (send_width (v r)) _ sends_wide (sends_place (v r) (S r)) r.count h.sends in
        holds_both l 0 _ (head_bytes r ++ cs ++ rs) es leads
        (holds_both l 0 _ (head_bytes r ++ cs) rs joins (holds_both l 0 _ (head_bytes r) cs heads a c) t) s

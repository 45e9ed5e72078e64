-- The archive, versions 1 and 2 (document 01, "Draws and the stored run"; document 02, L4): the bytes that a run is written as,
-- and the run that bytes stand for. What differs between the versions is a place or a width, as a function of the version v.
-- Bytes are numbers below 256. Which bytes and runs are turned down is said in Refusals.
use Rattle.std.specs.Prelude.{cond, List, [], ◌∷◌, ◌++◌, ℕ, zero, suc, ◌+◌, ◌*◌, ◌/◌, ◌%◌, ◌<◌, eqb, get_or}
use Rattle.base.specs.Sizes.{port_count, no_channel}
use Rattle.base.specs.Over.{over}
use Rattle.types.specs.declared.Network.{Network}
use Rattle.types.specs.declared.StoredSend.{StoredSend}
use Rattle.types.specs.declared.Run.{Run}
use Rattle.model.specs.Types.{send_d, send_at}
use Rattle.model.specs.Network.{no_channels, no_routes}
use Rattle.model.specs.Runs.{no_sends}

-- ---- "All numbers big-endian"

-- the byte at place i, and the numbers in the two, the four and the eight bytes from place i on
abbrev pub at : List ℕ → ℕ → ℕ
at b i = get_or b i 0

abbrev pub word : List ℕ → ℕ → ℕ
word b i = at b i * 256 + at b (i + 1)

abbrev pub quad : List ℕ → ℕ → ℕ
quad b i = word b i * 65536 + word b (i + 2)

abbrev pub oct : List ℕ → ℕ → ℕ
oct b i = quad b i * 4294967296 + quad b (i + 4)

-- a number as two, as four and as eight bytes
abbrev pub word_bytes : ℕ → List ℕ
word_bytes x = x / 256 % 256 ∷ x % 256 ∷ []

abbrev pub quad_bytes : ℕ → List ℕ
quad_bytes x = x / 16777216 % 256 ∷ x / 65536 % 256 ∷ x / 256 % 256 ∷ x % 256 ∷ []

abbrev pub oct_bytes : ℕ → List ℕ
oct_bytes x = quad_bytes (x / 4294967296) ++ quad_bytes x

-- ---- what differs by the version: "after the version byte an edition byte .., then version 1's fields with two-byte channels
-- (65535 for none; 255 is now a real input) and eight-byte sets"

-- the first in version 1, else the second
abbrev pub in_version : {A : Type 0} → ℕ → A → A → A
in_version v first second = cond (eqb v 1) first second

abbrev pub edition_width : ℕ → ℕ
edition_width v = in_version v 0 1

abbrev pub channel_width : ℕ → ℕ
channel_width v = in_version v 1 2

abbrev pub set_width : ℕ → ℕ
set_width v = in_version v 2 8

-- "draw number 2, site 1", and the set
abbrev pub send_width : ℕ → ℕ
send_width v = 3 + set_width v

-- ---- the parts, one after the other: the head, the channels, the routes, the sends

-- "total length 2 bytes, version 1 byte (1), S 1, T 1, D 1, seed 4, draws 2, sends N 1": the place of each, and of what
-- follows them
abbrev pub length_place : ℕ
length_place = 0

abbrev pub version_place : ℕ
version_place = 2

abbrev pub edition_place : ℕ
edition_place = 3

abbrev pub sites_place : ℕ → ℕ
sites_place v = 3 + edition_width v

abbrev pub tries_place : ℕ → ℕ
tries_place v = 4 + edition_width v

abbrev pub depth_place : ℕ → ℕ
depth_place v = 5 + edition_width v

abbrev pub seed_place : ℕ → ℕ
seed_place v = 6 + edition_width v

abbrev pub draws_place : ℕ → ℕ
draws_place v = 10 + edition_width v

abbrev pub count_place : ℕ → ℕ
count_place v = 12 + edition_width v

abbrev pub head_length : ℕ → ℕ
head_length v = 13 + edition_width v

-- "then per site and port 1..4 a channel byte", or two: 4S of them, that of place c
abbrev pub channel_place : ℕ → ℕ → ℕ
channel_place v c = head_length v + channel_width v * c

-- "then for each from-site and to-site a 2-byte route"
abbrev pub routes_place : ℕ → ℕ → ℕ
routes_place v S = channel_place v (port_count * S)

-- "then N sends: draw number 2, site 1, set 2", or 8
abbrev pub sends_place : ℕ → ℕ → ℕ
sends_place v S = routes_place v S + 2 * (S * S)

-- "The length is 13 + 4S + 2S² + 5N", "14 + 8S + 2S² + 11N"
abbrev pub length_with : ℕ → ℕ → ℕ → ℕ
length_with v S N = sends_place v S + send_width v * N

abbrev pub length_of : Run → ℕ
length_of r = length_with r.network.version r.network.sites r.count

-- ---- the bytes of a run

-- f 0, f 1, .., f (n - 1), one after the other
unfoldable pub each : (ℕ → List ℕ) → ℕ → List ℕ
each f zero = []
each f (suc n) = each f n ++ f n

-- the length, the version and in version 2 the edition; then the fields
abbrev pub start_with : ℕ → ℕ → ℕ → List ℕ
start_with v edition size = word_bytes size ++ (v ∷ []) ++ in_version v [] (edition ∷ [])

abbrev pub fields_with : ℕ → ℕ → ℕ → ℕ → ℕ → ℕ → List ℕ
fields_with S T D seed draws N = (S ∷ T ∷ D ∷ []) ++ quad_bytes seed ++ word_bytes draws ++ (N ∷ [])

unfoldable pub head_bytes : Run → List ℕ
head_bytes r =
    let n = r.network in
    start_with n.version n.edition (length_of r)
    ++ fields_with n.sites n.tries n.depth r.seed r.draws r.count

-- "255 for none, else 4 x site + port - 1 of the input": in version 1 a byte, 65535 in memory for 255; in version 2 as the
-- network has it
abbrev pub channel_part : ℕ → ℕ → List ℕ
channel_part v x = in_version v (cond (eqb x no_channel) 255 x ∷ []) (word_bytes x)

unfoldable pub channel_bytes : ℕ → List ℕ → ℕ → List ℕ
channel_bytes v channels n = each (λ c. channel_part v (at channels c)) n

-- "four hex digits, the first choice highest": as the network has them, that from site s to site t at place s * S + t
unfoldable pub route_bytes : List ℕ → ℕ → List ℕ
route_bytes routes n = each (λ k. word_bytes (at routes k)) n

-- "draw number 2, site 1, set 2 (bit i is site i)", or set 8
abbrev pub set_part : ℕ → ℕ → List ℕ
set_part v X = in_version v (word_bytes X) (oct_bytes X)

abbrev pub send_bytes : ℕ → StoredSend → List ℕ
send_bytes v e = word_bytes e.draw ++ (e.site ∷ []) ++ set_part v e.set

unfoldable pub sends_bytes : ℕ → List StoredSend → ℕ → List ℕ
sends_bytes v sends n = each (λ k. send_bytes v (get_or sends k send_d)) n

unfoldable pub encode : Run → List ℕ
encode r =
    let v = r.network.version in
    head_bytes r
    ++ channel_bytes v r.network.channels (port_count * r.network.sites)
    ++ route_bytes r.network.routes (r.network.sites * r.network.sites)
    ++ sends_bytes v r.sends r.count

-- ---- the run of some bytes; "Room beyond S sites or N sends .. the reader leaves it zero"

-- "Version 1 .. is edition 1"; the edition by the version and the byte behind it
abbrev pub edition_of : ℕ → ℕ → ℕ
edition_of v byte = in_version v 1 byte

-- the channel by the version and two bytes, and that from place p on; the set from place p on
abbrev pub channel_of : ℕ → ℕ → ℕ → ℕ
channel_of v first second = in_version v (cond (eqb first 255) no_channel first) (first * 256 + second)

abbrev pub channel_in : ℕ → List ℕ → ℕ → ℕ
channel_in v b p = channel_of v (at b p) (at b (p + 1))

abbrev pub set_in : ℕ → List ℕ → ℕ → ℕ
set_in v b p = in_version v (word b p) (oct b p)

abbrev pub channels_of : ℕ → List ℕ → ℕ → List ℕ
channels_of v b n = over (λ c. channel_in v b (channel_place v c)) n no_channels

abbrev pub routes_of : List ℕ → ℕ → ℕ → List ℕ
routes_of b p n = over (λ k. word b (p + 2 * k)) n no_routes

abbrev pub send_of : ℕ → List ℕ → ℕ → StoredSend
send_of v b p = record { set = set_in v b (p + 3); draw = word b p; site = at b (p + 2) }

abbrev pub sends_of : ℕ → List ℕ → ℕ → ℕ → List StoredSend
sends_of v b p n = over (λ k. send_of v b (p + send_width v * k)) n no_sends

-- by the version v, which the bytes say; then S and N
abbrev pub network_in : ℕ → List ℕ → Network
network_in v b =
    let S = at b (sites_place v) in
    record {
      sites = S;
      depth = at b (depth_place v);
      tries = at b (tries_place v);
      version = v;
      edition = edition_of v (at b edition_place);
      channels = channels_of v b (port_count * S);
      routes = routes_of b (routes_place v S) (S * S);
    }

abbrev pub run_in : ℕ → List ℕ → Run
run_in v b =
    let S = at b (sites_place v) in
    let N = at b (count_place v) in
    record {
      network = network_in v b;
      seed = quad b (seed_place v);
      draws = word b (draws_place v);
      count = N;
      sends = sends_of v b (sends_place v S) N;
    }

abbrev pub version_of : List ℕ → ℕ
version_of b = at b version_place

abbrev pub sites_of : List ℕ → ℕ
sites_of b = at b (sites_place (version_of b))

abbrev pub count_of : List ℕ → ℕ
count_of b = at b (count_place (version_of b))

unfoldable pub network_of : List ℕ → Network
network_of b = network_in (version_of b) b

unfoldable pub run_of : List ℕ → Run
run_of b = run_in (version_of b) b

-- the run that a refusal hands back
abbrev pub no_run : Run
no_run =
    record {
      network =
          record { sites = 0; depth = 0; tries = 0; version = 0; edition = 0; channels = no_channels; routes = no_routes };
      seed = 0;
      draws = 0;
      count = 0;
      sends = no_sends;
    }

-- ---- what the types give, and theorems about any bytes and any run ask of them

-- each byte is below 256
abbrev pub Bytes : List ℕ → Type 0
Bytes b = (i : ℕ) → at b i < 256

-- the numbers of a run that the archive holds fit their types
pub record Fits (r : Run) : Type 0 where
  pub tries : r.network.tries < 256
  pub edition : r.network.edition < 256
  pub channels : (c : ℕ) → at r.network.channels c < 65536
  pub routes : (k : ℕ) → at r.network.routes k < 65536
  pub seed : r.seed < 4294967296
  pub draws : r.draws < 65536
  pub marks : (k : ℕ) → (send_at r k).draw < 65536
  pub sites : (k : ℕ) → (send_at r k).site < 256
  pub sets : (k : ℕ) → (send_at r k).set < 18446744073709551616

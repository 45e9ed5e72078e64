-- read-write: reading a written archive gives back the run, with its room beyond S sites and N sends at zero; and
-- exactly: the reader accepts exactly the archives that some valid run is written as. Assumed of a run: its numbers
-- fit their types.
use mathlib.Core.Path.{◌≡◌, refl, sym, ap, ◌∙◌, subst}
use mathlib.Core.Bool.{Bool, true, false, cond}
use mathlib.Core.List.{List, [], ◌∷◌, ◌++◌}
use Prim.Native.Nat.{ℕ, zero, suc, ◌+◌, ◌*◌, ◌≤◌, ◌<◌}
use native.Mathlib.Nat.{mul-le-mul}
use native.Mathlib.Omega.{arith}
use borrow.Author.Tests.{eqb-true, eq-eqb}
use lib.Dec.{eqb}
use lib.ListN.{length, get_or}
use Rattle.base.specs.Sizes.{port_count, sites_most, first_sites, sends_most}
use Rattle.base.specs.Over.{over, over_same}
use Rattle.base.specs.Lists.{same_at}
use Rattle.types.specs.declared.StoredSend.{StoredSend}
use Rattle.types.specs.declared.Run.{Run}
use Rattle.model.specs.Types.{send_d, send_at}
use Rattle.model.specs.Network.{version_ok, edition_ok, sizes_ok, no_channels, no_routes, trimmed_network}
use Rattle.model.specs.Runs.{body_refusal, stored_refusal, no_sends, trimmed}
use Rattle.theorems.proofs.Trimmed.{trimmed_body}
use Rattle.format.specs.Format.{Bytes, Fits, at, word, quad, word_bytes, quad_bytes, encode, length_of, length_with}
use Rattle.format.specs.Format.{send_width}
use Rattle.format.specs.Format.{edition_place, sites_place, tries_place, depth_place, seed_place, draws_place, count_place}
use Rattle.format.specs.Format.{channel_place, routes_place, sends_place}
use Rattle.format.specs.Format.{in_version, edition_of, channel_in, send_of, channels_of, routes_of, sends_of, version_of}
use Rattle.format.specs.Format.{sites_of, count_of, network_in, network_of, run_in, run_of}
use Rattle.format.specs.Refusals.{read_refusal, decode}
use Rattle.faults.proofs.HeadLaws.{head_from, head_by}
use Rattle.archive.proofs.Holds.{Holds, byte_at, holds_own, holds_left, holds_right}
use Rattle.archive.proofs.Values.{word_read, quad_read, channel_read, send_read, word_fits, quad_fits}
use Rattle.archive.proofs.Values.{channel_fits, set_fits}
use Rattle.archive.proofs.Parts.{Held, held_at, length_encode, most_bytes}
use Rattle.archive.proofs.Passed.{Stored, stored_passes, stored_read, first_edition, first_few, set_narrow}
use Rattle.archive.proofs.RoundTripBytes.{write_read}

-- ---- reading what was written

module _ (l : List ℕ) (r : Run) (held : Held l r) (z : Stored r) (h : Fits r) where
  abbrev v : ℕ
  v = r.network.version

  abbrev S : ℕ
  S = r.network.sites

  small : length_of r ≤ 11523
  small = most_bytes v S r.count z.fit.few z.fit.square z.fit.count

  -- the head

  abbrev front : List ℕ
  front = word_bytes (length_of r) ++ (v ∷ [])

  start : Holds l 0 front
  start = holds_left l 0 3 front (in_version v [] (r.network.edition ∷ [])) refl held.start

  field : word l 0 ≡ length_of r
  field =
      word_read l 0 (length_of r) (holds_left l 0 2 (word_bytes (length_of r)) (v ∷ []) refl start)
      ∙ omega (arith, small)

  version : version_of l ≡ v
  version = byte_at l 2 v (holds_right l 0 2 (word_bytes (length_of r)) (v ∷ []) refl start)

  edition : edition_of v (at l edition_place) ≡ r.network.edition
  edition = go (eqb v 1) refl held.start
    where
      go : (t : Bool) → eqb v 1 ≡ t → Holds l 0 (front ++ cond t [] (r.network.edition ∷ []))
          → cond t 1 (at l edition_place) ≡ r.network.edition
      go true e k = sym (first_edition r.network (eqb-true v 1 e) z.edition)
      go false e k = byte_at l 3 r.network.edition (holds_right l 0 3 front (r.network.edition ∷ []) refl k)

  abbrev sizes : List ℕ
  sizes = S ∷ r.network.tries ∷ r.network.depth ∷ []

  sites : at l (sites_place v) ≡ S
  sites = ap (at l) (omega arith) ∙ held.fields 0 (omega arith)

  tries : at l (tries_place v) ≡ r.network.tries
  tries = ap (at l) (omega arith) ∙ held.fields 1 (omega arith)

  depth : at l (depth_place v) ≡ r.network.depth
  depth = ap (at l) (omega arith) ∙ held.fields 2 (omega arith)

  count : at l (count_place v) ≡ r.count
  count = ap (at l) (omega arith) ∙ held.fields 9 (omega arith)

  abbrev seeded : List ℕ
  seeded = sizes ++ quad_bytes r.seed

  abbrev drawn : List ℕ
  drawn = seeded ++ word_bytes r.draws

  to_draws : Holds l (sites_place v) drawn
  to_draws = holds_left l (sites_place v) (count_place v) drawn (r.count ∷ []) (omega arith) held.fields

  seed : quad l (seed_place v) ≡ r.seed
  seed =
      quad_read l (seed_place v) r.seed
      (holds_right l (sites_place v) (seed_place v) sizes (quad_bytes r.seed) (omega arith)
      (holds_left l (sites_place v) (draws_place v) seeded (word_bytes r.draws) (omega arith) to_draws))
      ∙ omega (arith, h.seed)

  draws : word l (draws_place v) ≡ r.draws
  draws =
      word_read l (draws_place v) r.draws
      (holds_right l (sites_place v) (draws_place v) seeded (word_bytes r.draws) (omega arith) to_draws)
      ∙ omega (arith, h.draws)

  -- the parts behind it

  channels : channels_of v l (port_count * S) ≡ over (at r.network.channels) (port_count * S) no_channels
  channels =
      over_same (λ c. channel_in v l (channel_place v c)) (at r.network.channels) (port_count * S) no_channels
      (λ c k.
      channel_read l v (channel_place v c) (at r.network.channels c) (h.channels c) (z.fit.narrow c k)
      (held.channels c k))

  routes : routes_of l (routes_place v S) (S * S) ≡ over (at r.network.routes) (S * S) no_routes
  routes =
      over_same (λ k. word l (routes_place v S + 2 * k)) (at r.network.routes) (S * S) no_routes
      (λ k m.
      word_read l (routes_place v S + 2 * k) (at r.network.routes k) (held.routes k m)
      ∙ omega (arith, h.routes k))

  sends : sends_of v l (sends_place v S) r.count ≡ over (send_at r) r.count no_sends
  sends =
      over_same (λ k. send_of v l (sends_place v S + send_width v * k)) (send_at r) r.count no_sends
      (λ k m.
      send_read l v (sends_place v S + send_width v * k) (send_at r k) (h.marks k) (h.sets k)
      (λ e. set_narrow r z e k m) (held.sends k m))

  network : network_in v l ≡ trimmed_network r.network
  unfolding trimmed_network
  network = simp (sites, tries, depth, edition, channels, routes)

  -- the same by the version that the bytes say
  network_of_lem : network_of l ≡ trimmed_network r.network
  unfolding network_of
  network_of_lem = ap (λ (x : ℕ). network_in x l) version ∙ network

  pub again : run_of l ≡ trimmed r
  unfolding run_of trimmed trimmed_network
  again =
      ap (λ (x : ℕ). run_in x l) version
      ∙ simp (sites, tries, depth, edition, channels, routes, seed, draws, count, sends)

  pub accepted : length l ≡ length_of r → read_refusal l ≡ 0
  unfolding read_refusal trimmed_network
  accepted e =
      let S-of : sites_of l ≡ S = ap (λ (x : ℕ). at l (sites_place x)) version ∙ sites in
      let N-of : count_of l ≡ r.count = ap (λ (x : ℕ). at l (count_place x)) version ∙ count in
      let n : length l ≡ length_with (version_of l) (sites_of l) (count_of l) = rw (S-of, N-of, version) e in
      let seeded = ap (λ (x : ℕ). quad l (seed_place x)) version ∙ seed in
      let head =
      head_from l (field ∙ sym e) (ap version_ok network_of_lem ∙ z.known) (ap edition_ok network_of_lem ∙ z.edition)
      (ap sizes_ok network_of_lem ∙ z.sizes) (λ q. z.seed (sym seeded ∙ q)) n in
      head_by l (body_refusal (run_of l)) head
      ∙ ap body_refusal again
      ∙ trimmed_body r z.fit.few z.fit.count
      ∙ z.body

own : (r : Run) → Held (encode r) r
own r = held_at r (encode r) (holds_own (encode r))

-- the run of what was written, and what the reader says of it
module _ (r : Run) (p : stored_refusal r ≡ 0) (h : Fits r) where
  pub written_run : run_of (encode r) ≡ trimmed r
  written_run = again (encode r) r (own r) (stored_passes r p) h

  pub written_passes : read_refusal (encode r) ≡ 0
  written_passes = accepted (encode r) r (own r) (stored_passes r p) h (length_encode r)

-- what the writer accepts, the reader gives back
pub read_write : (r : Run) → stored_refusal r ≡ 0 → Fits r → decode (encode r) ≡ record { refusal = 0; run = trimmed r }
unfolding decode
read_write r p h = rw (written_passes r p h, written_run r p h) refl

-- ---- what was read is a valid run whose numbers fit

filled : {A : Type 0} (P : A → Type 0) (f : ℕ → A) (n : ℕ) (xs : List A) (d : A) → ((i : ℕ) → P (f i))
    → ((i : ℕ) → P (get_or xs i d)) → (i : ℕ) → P (get_or (over f n xs) i d)
unfolding over
filled P f zero xs d h k i = k i
filled P f (suc n) [] d h k i = k i
filled P f (suc n) (x ∷ xs) d h k zero = h zero
filled P f (suc n) (x ∷ xs) d h k (suc i) = filled P (λ i. f (suc i)) n xs d (λ i. h (suc i)) (λ i. k (suc i)) i

module _ (b : List ℕ) (w : Bytes b) where
  edition_fits : (v : ℕ) → edition_of v (at b edition_place) < 256
  edition_fits v = go (eqb v 1)
    where
      go : (t : Bool) → cond t 1 (at b edition_place) < 256
      go true = omega arith
      go false = w edition_place

  -- a number of each send that was read
  sends_fit : (f : StoredSend → ℕ) (m : ℕ) → f send_d < m → (v p n : ℕ) → ((q : ℕ) → f (send_of v b q) < m)
      → (k : ℕ) → f (get_or (sends_of v b p n) k send_d) < m
  sends_fit f m e v p n h =
      filled (λ (x : StoredSend). f x < m) _ n no_sends send_d (λ k. h (p + send_width v * k))
      (λ k. subst (λ (x : StoredSend). f x < m) (sym (same_at sends_most k send_d)) e)

  pub read_fits : Fits (run_of b)
  unfolding run_of
  read_fits =
      let v = version_of b in
      let S = sites_of b in
      let N = count_of b in
      record {
        tries = w (tries_place v);
        edition = edition_fits v;
        channels = filled (λ (x : ℕ). x < 65536) _ (port_count * S) no_channels 0
            (λ c. channel_fits b w v (channel_place v c))
            (λ c. omega (arith, same_at {A = ℕ} (port_count * sites_most) c 0));
        routes = filled (λ (x : ℕ). x < 65536) _ (S * S) no_routes 0
            (λ k. word_fits b w (routes_place v S + 2 * k))
            (λ k. omega (arith, same_at {A = ℕ} (sites_most * sites_most) k 0));
        seed = quad_fits b w (seed_place v);
        draws = word_fits b w (draws_place v);
        marks = sends_fit (λ e. e.draw) 65536 (omega arith) v (sends_place v S) N (λ q. word_fits b w q);
        sites = sends_fit (λ e. e.site) 256 (omega arith) v (sends_place v S) N (λ q. w (q + 2));
        sets = sends_fit (λ e. e.set) 18446744073709551616 (omega arith) v (sends_place v S) N
            (λ q. set_fits b w v (q + 3));
      }

  pub read_stored : read_refusal b ≡ 0 → stored_refusal (run_of b) ≡ 0
  unfolding run_of
  read_stored e = stored_read b e (omega (arith, w (count_place (version_of b))))

-- the reader accepts exactly the archives that some valid run is written as
pub exactly : (b : List ℕ) → Bytes b
    → (read_refusal b ≡ 0 → (r : Run) × (stored_refusal r ≡ 0) × Fits r × (encode r ≡ b))
    × ((r : Run) → stored_refusal r ≡ 0 → Fits r → encode r ≡ b → read_refusal b ≡ 0)
exactly b w = (
  λ e. (run_of b, read_stored b w e, read_fits b w, write_read b w e),
  λ r p h e. ap read_refusal (sym e) ∙ written_passes r p h,
)

-- in version 1 "at most 1,864", in version 2 at most 11,523
pub at_most : (r : Run) → stored_refusal r ≡ 0
    → (r.network.version ≡ 1 → length (encode r) ≤ 1864) × (length (encode r) ≤ 11523)
at_most r p =
    let n = r.network in
    let z = stored_passes r p in
    let f = z.fit in (
      λ e.
          let few = first_few n e z.sizes in
          let square : n.sites * n.sites ≤ first_sites * first_sites = mul-le-mul few few in
          let one : eqb n.version 1 ≡ true = eq-eqb n.version 1 e in
          omega (arith, f.count, rw one at (length_encode r)),
      omega (arith, length_encode r, most_bytes n.version n.sites r.count f.few f.square f.count),
    )

-- The test by bytes that no channel before channel m is the same is the model's, in both versions. It counts only where
-- channel m is an input of the network, so below 256: then equal channels are equal bytes, whatever the others are.
-- Assumes nothing.
use mathlib.Core.Path.{◌≡◌, refl, sym, ap, ◌∙◌}
use mathlib.Core.Bool.{Bool, true, false, cond, not, ◌&&◌, ◌||◌}
use mathlib.Core.List.{List}
use Prim.Native.Nat.{ℕ, ◌+◌, ◌*◌, ◌<◌}
use native.Mathlib.Omega.{arith}
use borrow.Author.Tests.{eq-eqb, ne_eqb, eqb-true, eqb-false, ltb-true}
use lib.Dec.{eqb, ltb}
use Rattle.base.specs.Sizes.{port_count, no_channel}
use Rattle.base.specs.All.{all, all_same}
use Rattle.model.specs.Network.{channel_at, channel_ok}
use Rattle.format.specs.Format.{at, channel_place, channel_in, network_of}
use Rattle.faults.specs.Head.{Read}
use Rattle.faults.specs.Channels.{byte_differs, pair_differs, is_first}
use Rattle.faults.proofs.Held.{sized, sites_held, channel_held}

-- ---- equal channels are equal bytes

-- the channel of a byte, and of two
abbrev byte_channel : ℕ → ℕ
byte_channel a = cond (eqb a 255) no_channel a

abbrev pair_channel : ℕ → ℕ → ℕ
pair_channel high low = high * 256 + low

bytes_alike : (a c : ℕ) → byte_channel c < 256 → not (eqb (byte_channel a) (byte_channel c)) ≡ not (eqb a c)
bytes_alike a c = go (eqb a 255) (eqb c 255) refl refl
  where
    go : (s t : Bool) → eqb a 255 ≡ s → eqb c 255 ≡ t → cond t no_channel c < 256
        → not (eqb (cond s no_channel a) (cond t no_channel c)) ≡ not (eqb a c)
    go s true es et h = absurd (omega (arith, h))
    go false false es et h = refl
    go true false es et h =
        let ea = eqb-true a 255 es in
        let nc = eqb-false c 255 et in
        ap not (ne_eqb no_channel c (λ e. omega (arith, h)) ∙ sym (ne_eqb a c (λ e. nc (sym e ∙ ea))))

pairs_alike : (h l high low : ℕ) → pair_channel high low < 256
    → not (eqb (pair_channel h l) (pair_channel high low)) ≡ not (eqb h high) || not (eqb l low)
pairs_alike h l high low k = go (eqb h high) (eqb l low) refl refl
  where
    go : (s t : Bool) → eqb h high ≡ s → eqb l low ≡ t
        → not (eqb (pair_channel h l) (pair_channel high low)) ≡ not s || not t
    go true true es et =
        let a = eqb-true h high es in
        let c = eqb-true l low et in
        ap not (eq-eqb (pair_channel h l) (pair_channel high low) (omega arith))
    go true false es et =
        let a = eqb-true h high es in
        let c = eqb-false l low et in
        ap not (ne_eqb (pair_channel h l) (pair_channel high low) (λ e. c (omega arith)))
    go false t es et =
        let a = eqb-false h high es in
        ap not (ne_eqb (pair_channel h l) (pair_channel high low) (λ e. a (omega arith)))

-- ---- in each version

module _ (b : List ℕ) where
  byte_held : (m : ℕ) → channel_in 1 b (channel_place 1 m) < 256
      → all (λ i. not (eqb (channel_in 1 b (channel_place 1 i)) (channel_in 1 b (channel_place 1 m)))) m
      ≡ all (byte_differs b (at b (channel_place 1 m))) m
  byte_held m h =
      all_same (λ i. not (eqb (channel_in 1 b (channel_place 1 i)) (channel_in 1 b (channel_place 1 m))))
      (byte_differs b (at b (channel_place 1 m))) m
      (λ i l. bytes_alike (at b (channel_place 1 i)) (at b (channel_place 1 m)) h)

  pair_held : (m : ℕ) → channel_in 2 b (channel_place 2 m) < 256
      → all (λ i. not (eqb (channel_in 2 b (channel_place 2 i)) (channel_in 2 b (channel_place 2 m)))) m
      ≡ all (pair_differs b (at b (channel_place 2 m)) (at b (channel_place 2 m + 1))) m
  pair_held m h =
      all_same (λ i. not (eqb (channel_in 2 b (channel_place 2 i)) (channel_in 2 b (channel_place 2 m))))
      (pair_differs b (at b (channel_place 2 m)) (at b (channel_place 2 m + 1))) m
      (λ i l.
      pairs_alike (at b (channel_place 2 i)) (at b (channel_place 2 i + 1)) (at b (channel_place 2 m))
      (at b (channel_place 2 m + 1)) h)

  -- t is whether the version is 1
  held_by : (v m : ℕ) (t : Bool) → eqb v 1 ≡ t → channel_in v b (channel_place v m) < 256
      → all (λ i. not (eqb (channel_in v b (channel_place v i)) (channel_in v b (channel_place v m)))) m ≡ is_first v b m
  unfolding is_first
  held_by v m true e h = rw e (byte_held m (rw e at h))
  held_by v m false e h = rw e (pair_held m (rw e at h))

  first_held : (v m : ℕ) → channel_in v b (channel_place v m) < 256
      → all (λ i. not (eqb (channel_in v b (channel_place v i)) (channel_in v b (channel_place v m)))) m ≡ is_first v b m
  first_held v m h = held_by v m (eqb v 1) refl h

-- ---- the same at the places as the code has them

byte_place : (i : ℕ) → 13 + i ≡ channel_place 1 i
byte_place i = omega arith

low_place : (i : ℕ) → 15 + 2 * i ≡ channel_place 2 i + 1
low_place i = omega arith

-- what a turn of each loop adds
pub byte_turn : (b : List ℕ) (byte i : ℕ) → not (eqb (at b (13 + i)) byte) ≡ byte_differs b byte i
byte_turn b byte i = ap (λ (p : ℕ). not (eqb (at b p) byte)) (byte_place i)

pub pair_turn : (b : List ℕ) (high low i : ℕ)
    → not (eqb (at b (14 + 2 * i)) high) || not (eqb (at b (15 + 2 * i)) low) ≡ pair_differs b high low i
pair_turn b high low i =
    ap (λ (p : ℕ). not (eqb (at b (14 + 2 * i)) high) || not (eqb (at b p) low)) (low_place i)

-- what the loop of each version answered, r
module _ (v : ℕ) (b : List ℕ) (m : ℕ) (r : Bool) where
  pub bytes_first : v ≡ 1 → r ≡ all (byte_differs b (at b (13 + m))) m → r ≡ is_first v b m
  unfolding is_first
  bytes_first e er = rw (eq-eqb v 1 e) (er ∙ ap (λ (p : ℕ). all (byte_differs b (at b p)) m) (byte_place m))

  pub pairs_first : (v ≡ 1 → ⊥) → r ≡ all (pair_differs b (at b (14 + 2 * m)) (at b (15 + 2 * m))) m → r ≡ is_first v b m
  unfolding is_first
  pairs_first e er =
      rw (ne_eqb v 1 e)
      (er ∙ ap (λ (p : ℕ). all (pair_differs b (at b (channel_place 2 m)) (at b p)) m) (low_place m))

-- ---- the model's test of channel m, with what was said of it: an input of the network, no channel before is the same

and_same : (a x y : Bool) → (a ≡ true → x ≡ y) → a && x ≡ a && y
and_same true x y h = h refl
and_same false x y h = refl

module _ (b : List ℕ) (v S : ℕ) (r : Read b v S) (m : ℕ) (l : m < port_count * S) where
  abbrev channel_as : ℕ → ℕ
  channel_as i = channel_in v b (channel_place v i)

  -- the model's test over the bytes
  test_held : channel_ok (network_of b) m
      ≡ eqb (channel_as m) no_channel
      || ltb (channel_as m) (port_count * S) && all (λ i. not (eqb (channel_as i) (channel_as m))) m
  test_held =
      let n = network_of b in
      let same = all_same (λ i. not (eqb (channel_at n i) (channel_as m))) (λ i. not (eqb (channel_as i) (channel_as m))) m
      (λ i k. ap (λ (x : ℕ). not (eqb x (channel_as m))) (channel_held b v S r i (omega arith))) in
      rw (channel_held b v S r m l, same, ← sites_held b S r.sites) refl

  pub channel_tested : (c : ℕ) (below new : Bool) → c ≡ channel_in v b (channel_place v m)
      → below ≡ ltb c (port_count * S) → new ≡ is_first v b m
      → eqb c no_channel || below && new ≡ channel_ok (network_of b) m
  channel_tested c below new ec eb en =
      let held : (ltb (channel_as m) (port_count * S) ≡ true)
      → is_first v b m ≡ all (λ i. not (eqb (channel_as i) (channel_as m))) m =
      λ t. sym (first_held b v m (omega (arith, (sized b v S r).few, ltb-true (channel_as m) (port_count * S) t))) in
      rw (eb, en, ec)
      (ap (λ (t : Bool). eqb (channel_as m) no_channel || t) (and_same _ _ _ held)
      ∙ sym test_held)

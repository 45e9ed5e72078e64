-- In range as facts of a queue: its tests of specs/Range.antt in both directions, and what an entry more, the front away or an
-- entry changed leaves of them. Assumes nothing.
use Prim.Native.Nat.{ℕ, ◌≤◌, ◌<◌, suc, ◌+◌, ◌-◌}
use mathlib.Core.Path.{◌≡◌, refl, ◌∙◌}
use mathlib.Core.List.{List, [], ◌∷◌, ◌++◌}
use mathlib.Core.Bool.{Bool, true, ◌&&◌, ◌||◌}
use native.Mathlib.Omega.{arith}
use borrow.Author.Tests.{lt-ltb, le-ltb, le-leb, eq-eqb, ltb-true, ltb-false, leb-true, eqb-true}
use lib.Dec.{eqb, ltb, leb}
use lib.ListN.{get_or, length, set, drop, length-set}
use Rattle.base.specs.Sizes.{queue_room}
use Rattle.base.specs.Bools.{implies, pick, and, both, implies_at, implies_by, pick_at, pick_by, cond_ok}
use Rattle.base.specs.All.{all, all_at, all_by}
use Rattle.base.specs.Lists.{beyond, all_set, all_but, pop_at, length_pop}
use Rattle.theorems.specs.Names.{OutEntry, InEntry, OutQueue, InQueue, Network}
use Rattle.model.specs.Types.{no_out_entry, no_in_entry}
use Rattle.draws.specs.Draws.{restricted}
use Rattle.model.specs.Range.{tag_ok, zero_out_entry, zero_in_entry, out_queue_ok, in_queue_ok, depth_of}
use Rattle.theorems.proofs.RangeTests.{Tagged, tag_at, tag_by}

-- ---- the facts

-- a queue of at most D in an array: it has c entries, U holds of each, Z of the room beyond
pub record Queued {A : Type 0} (U : ℕ → A → Type 0) (Z : A → Bool) (d : A) (D c : ℕ) (l : List A) : Type 0 where
  pub long : length l ≡ queue_room
  pub few : c ≤ D
  pub each : (m : ℕ) → (m < c → U m (get_or l m d)) × (c ≤ m → Z (get_or l m d) ≡ true)

abbrev pub OutEntryIn : Network → ℕ → ℕ → OutEntry → Type 0
OutEntryIn n k m d = Tagged n k d.packet d.set × (d.started ≡ true → m ≡ 0)

abbrev pub InEntryIn : Network → ℕ → ℕ → InEntry → Type 0
InEntryIn n k m a = Tagged n k a.packet a.set

abbrev pub OutQueueIn : Network → ℕ → OutQueue → Type 0
OutQueueIn n k q = Queued (OutEntryIn n k) zero_out_entry no_out_entry n.depth q.count q.entries

-- in-queue m
abbrev pub InQueueIn : Network → ℕ → ℕ → InQueue → Type 0
InQueueIn n k m q = Queued (InEntryIn n k) zero_in_entry no_in_entry (depth_of n.edition n.depth m) q.count q.entries

-- ---- the tests

-- a queue by its tests: v that of an entry in use, Z that of the room beyond
module _ {A : Type 0} (U : ℕ → A → Type 0) (Z : A → Bool) (d : A) (D c : ℕ) (l : List A) (v : ℕ → A → Bool) where
  abbrev entry_ok : ℕ → Bool
  entry_ok m = pick (ltb m c) (v m (get_or l m d)) (Z (get_or l m d))

  queue_at_lem : length l ≡ queue_room → D ≤ queue_room → Z d ≡ true → ((m : ℕ) (a : A) → v m a ≡ true → U m a)
      → leb c D && all entry_ok queue_room ≡ true → Queued U Z d D c l
  queue_at_lem long deep zd vu h =
      let w = both (leb c D) (all entry_ok queue_room) h in
      let few : c ≤ D = leb-true c D w.0 in
      record {
        long = long;
        few = few;
        each =
            beyond (λ m a. (m < c → U m a) × (c ≤ m → Z a ≡ true)) l d queue_room long
            (λ m k.
            let e = pick_at (ltb m c) (v m (get_or l m d)) (Z (get_or l m d)) (all_at entry_ok m queue_room k w.1) in
            (λ a. vu m (get_or l m d) (e.0 (lt-ltb m c a)), λ a. e.1 (le-ltb m c a)))
            (λ m k. (λ a. absurd (omega arith), λ a. zd));
      }

  queue_by : ((m : ℕ) (a : A) → U m a → v m a ≡ true) → Queued U Z d D c l → leb c D && all entry_ok queue_room ≡ true
  queue_by uv h =
      and (leb c D) (all entry_ok queue_room) (le-leb c D h.few)
      (all_by entry_ok queue_room
      (λ m k.
      pick_by (ltb m c) (v m (get_or l m d)) (Z (get_or l m d)) (λ e. uv m (get_or l m d) ((h.each m).0 (ltb-true m c e)))
      (λ e. (h.each m).1 (ltb-false m c e))))

-- in-queue m has at most the network's depth
pub depth_most : (edition D m : ℕ) → depth_of edition D m ≤ D
depth_most edition D m =
    cond_ok (λ (d : ℕ). d ≤ D) (eqb m 0 || restricted edition) D 0 (λ e. omega arith) (λ e. omega arith)

module _ (n : Network) (k : ℕ) where
  abbrev out_used : ℕ → OutEntry → Bool
  out_used m d = tag_ok n.sites k d.packet d.set && implies d.started (eqb m 0)

  pub out_queue_at : (q : OutQueue) → length q.entries ≡ queue_room → n.depth ≤ queue_room
      → out_queue_ok n.sites n.depth k q ≡ true → OutQueueIn n k q
  out_queue_at q long deep h =
      queue_at_lem (OutEntryIn n k) zero_out_entry no_out_entry n.depth q.count q.entries out_used long deep refl
      (λ m d e.
      let a = both (tag_ok n.sites k d.packet d.set) (implies d.started (eqb m 0)) e in
      (tag_at n k d.packet d.set a.0, λ s. eqb-true m 0 (implies_at d.started (eqb m 0) a.1 s)))
      h

  pub out_queue_by : (q : OutQueue) → OutQueueIn n k q → out_queue_ok n.sites n.depth k q ≡ true
  out_queue_by q h =
      queue_by (OutEntryIn n k) zero_out_entry no_out_entry n.depth q.count q.entries out_used
      (λ m d u.
      and (tag_ok n.sites k d.packet d.set) (implies d.started (eqb m 0))
      (tag_by n k d.packet d.set u.0)
      (implies_by d.started (eqb m 0) (λ s. eq-eqb m 0 (u.1 s))))
      h

  pub in_queue_at_lem : (m : ℕ) (q : InQueue) → length q.entries ≡ queue_room → n.depth ≤ queue_room
      → in_queue_ok n.sites (depth_of n.edition n.depth m) k q ≡ true → InQueueIn n k m q
  in_queue_at_lem m q long deep h =
      queue_at_lem (InEntryIn n k) zero_in_entry no_in_entry (depth_of n.edition n.depth m) q.count q.entries
      (λ i a. tag_ok n.sites k a.packet a.set) long (omega (arith, depth_most n.edition n.depth m)) refl
      (λ i a e. tag_at n k a.packet a.set e) h

  pub in_queue_by : (m : ℕ) (q : InQueue) → InQueueIn n k m q
      → in_queue_ok n.sites (depth_of n.edition n.depth m) k q ≡ true
  in_queue_by m q h =
      queue_by (InEntryIn n k) zero_in_entry no_in_entry (depth_of n.edition n.depth m) q.count q.entries
      (λ i a. tag_ok n.sites k a.packet a.set) (λ i a u. tag_by n k a.packet a.set u) h

-- ---- queues in arrays

module _ {A : Type 0} (U : ℕ → A → Type 0) (Z : A → Bool) (d : A) {D c : ℕ} {l : List A} where
  -- one more at the back
  pub queue_push : (v : A) → c < D → D ≤ queue_room → U c v → Queued U Z d D c l → Queued U Z d D (c + 1) (set l c v)
  queue_push v h deep u q =
      record {
        long = length-set l c v ∙ q.long;
        few = omega arith;
        each =
            all_but (λ m a. (m < c + 1 → U m a) × (c + 1 ≤ m → Z a ≡ true)) l c v d (omega (arith, q.long))
            (λ e. u, λ e. absurd (omega arith))
            (λ m ne. (λ e. (q.each m).0 (omega arith), λ e. (q.each m).1 (omega arith)));
      }

  -- the front away
  pub queue_pop : ((m : ℕ) (a : A) → U (suc m) a → U m a) → Queued U Z d D c l
      → Queued U Z d D (c - 1) (drop 1 l ++ (d ∷ []))
  queue_pop f q =
      record {
        long = length_pop l d 7 q.long;
        few = omega (arith, q.few);
        each =
            λ m.
            rw (pop_at l d m)
            (λ e. f m _ ((q.each (suc m)).0 (omega arith)), λ e. (q.each (suc m)).1 (omega arith));
      }

  -- one entry changed
  pub queue_set : (i : ℕ) (v : A) → i < c → U i v → Queued U Z d D c l → Queued U Z d D c (set l i v)
  queue_set i v h u q =
      record {
        long = length-set l i v ∙ q.long;
        few = q.few;
        each =
            all_set (λ m a. (m < c → U m a) × (c ≤ m → Z a ≡ true)) l i v d (λ e. u, λ e. absurd (omega arith))
            q.each;
      }

  -- under a weaker fact
  pub queue_map : (W : ℕ → A → Type 0) → ((m : ℕ) (a : A) → U m a → W m a) → Queued U Z d D c l → Queued W Z d D c l
  queue_map W f q = record { long = q.long; few = q.few; each = λ m. (λ e. f m _ ((q.each m).0 e), (q.each m).1) }

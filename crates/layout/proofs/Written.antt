-- One place written: every other place, every other site and the counter are as they were.
use mathlib.Core.Path.{◌≡◌, refl, sym, ap, ap₂, ◌∙◌}
use mathlib.Core.List.{List}
use mathlib.Core.Logic.{◌≢◌}
use Prim.Native.Nat.{ℕ, ◌+◌, ◌*◌, ◌/◌, ◌<◌, ◌≤◌}
use native.Mathlib.Omega.{arith}
use lib.ListN.{length, get_or, set, length-set}
use lib.Seq.{get_or-set_same, get_or-set_other}
use Rattle.base.specs.Rows.{rows}
use Rattle.base.specs.Sizes.{sites_most, input_count, output_count, in_queue_count, queue_room}
use Rattle.types.specs.declared.Input.{Input}
use Rattle.types.specs.declared.Output.{Output}
use Rattle.types.specs.declared.OutEntry.{OutEntry}
use Rattle.types.specs.declared.InEntry.{InEntry}
use Rattle.types.specs.declared.InQueue.{InQueue}
use Rattle.types.specs.declared.Site.{Site}
use Rattle.model.specs.Types.{set_site, set_in, set_out, set_queue}
use Rattle.layout.specs.Layout.{outputs_from, leaving_from, arrived_from, counts_from, site_places, arrived_place, count_place}
use Rattle.layout.specs.Layout.{counter_at, word_count, set_index, fields_index}
use Rattle.layout.specs.Packed.{input_from, output_from, out_entry_from, in_entry_from}
use Rattle.layout.specs.Words.{set_at, fields_at, input_at, output_at, leaving_at, arrived_at, in_queue_at, site_of, sites_of}
use Rattle.layout.specs.Stored.{placed, leaving_set, leaving_count, arrived_set, arrived_count}
use Rattle.layout.proofs.Rows.{rows_same, rows_set}
use Rattle.layout.proofs.Decoded.{arrived_of_lem, in_count}

-- the two words of place k of site t are the same in c and d
abbrev pub Same : List ℕ → List ℕ → ℕ → ℕ → Type 0
Same c d t k = (set_at d t k ≡ set_at c t k) × (fields_at d t k ≡ fields_at c t k)

-- d is c with place k of site s written: X is its set, w its fields
pub record Wrote (c d : List ℕ) (s k X w : ℕ) : Type 0 where
  pub size : length d ≡ word_count
  pub its_set : set_at d s k ≡ X
  pub its_fields : fields_at d s k ≡ w
  pub others : (t l : ℕ) → l < site_places → (t ≡ s → l ≢ k) → Same c d t l
  pub counter : get_or d counter_at 0 ≡ get_or c counter_at 0

-- ---- two words written, or one of them

-- a place has one site and one number in it
apart : (s k t l : ℕ) → k < site_places → l < site_places → (t ≡ s → l ≢ k) → site_places * t + l ≢ site_places * s + k
apart s k t l hk hl ne e =
    let a : (site_places * t + l) / site_places ≡ t = omega arith in
    let b : (site_places * s + k) / site_places ≡ s = omega arith in
    let f : t ≡ s = sym a ∙ ap (λ (n : ℕ). n / site_places) e ∙ b in
    ne f (omega arith)

module _ (c : List ℕ) (s k : ℕ) (hs : s < sites_most) (hk : k < site_places) (hl : length c ≡ word_count) where
  pub wrote_set : (X : ℕ) → Wrote c (set c (set_index s k) X) s k X (fields_at c s k)
  wrote_set X =
      record {
        size = length-set c (set_index s k) X ∙ hl;
        its_set = get_or-set_same c (set_index s k) X 0 (omega arith);
        its_fields = get_or-set_other c (set_index s k) (fields_index s k) X 0 (λ e. omega arith);
        others = λ t l h ne. (
          get_or-set_other c (set_index s k) (set_index t l) X 0 (λ e. apart s k t l hk h ne (omega arith)),
          get_or-set_other c (set_index s k) (fields_index t l) X 0 (λ e. omega arith),
        );
        counter = get_or-set_other c (set_index s k) counter_at X 0 (λ e. omega arith);
      }

  pub wrote_fields : (w : ℕ) → Wrote c (set c (fields_index s k) w) s k (set_at c s k) w
  wrote_fields w =
      record {
        size = length-set c (fields_index s k) w ∙ hl;
        its_set = get_or-set_other c (fields_index s k) (set_index s k) w 0 (λ e. omega arith);
        its_fields = get_or-set_same c (fields_index s k) w 0 (omega arith);
        others = λ t l h ne. (
          get_or-set_other c (fields_index s k) (set_index t l) w 0 (λ e. omega arith),
          get_or-set_other c (fields_index s k) (fields_index t l) w 0 (λ e. apart s k t l hk h ne (omega arith)),
        );
        counter = get_or-set_other c (fields_index s k) counter_at w 0 (λ e. omega arith);
      }

-- both words of a place
pub wrote_both : (c : List ℕ) (s k : ℕ) → s < sites_most → k < site_places → length c ≡ word_count → (X w : ℕ) → Wrote c (placed c s k X w) s k X w
wrote_both c s k hs hk hl X w =
    let d = set c (set_index s k) X in
    let a = wrote_set c s k hs hk hl X in
    let b = wrote_fields d s k hs hk a.size w in
    record {
      size = b.size;
      its_set = b.its_set ∙ a.its_set;
      its_fields = b.its_fields;
      others = λ t l h ne. let p = a.others t l h ne in let q = b.others t l h ne in (q.0 ∙ p.0, q.1 ∙ p.1);
      counter = b.counter ∙ a.counter;
    }

-- ---- a place with the same words is the same place

module _ (c d : List ℕ) (t : ℕ) where
  input_same : (i : ℕ) → Same c d t i → input_at d t i ≡ input_at c t i
  unfolding input_at
  input_same i e = ap₂ input_from e.0 e.1

  output_same : (j : ℕ) → Same c d t (outputs_from + j) → output_at d t j ≡ output_at c t j
  unfolding output_at
  output_same j e = ap₂ output_from e.0 e.1

  leaving_same : (m : ℕ) → Same c d t (leaving_from + m) → leaving_at d t m ≡ leaving_at c t m
  unfolding leaving_at
  leaving_same m e = ap₂ out_entry_from e.0 e.1

  arrived_same : (q m : ℕ) → Same c d t (arrived_place q m) → arrived_at d t q m ≡ arrived_at c t q m
  unfolding arrived_at
  arrived_same q m e = ap₂ in_entry_from e.0 e.1

pub same_queue : (a a' : List InEntry) (k k' : ℕ) → a ≡ a' → k ≡ k'
    → ◌≡◌ {A = InQueue} (record { entries = a; count = k }) (record { entries = a'; count = k' })
same_queue a a' k k' p q = rw (p, q) refl

pub same_site : (i i' : List Input) (o o' : List Output) (u u' : List OutEntry) (k k' : ℕ) (a a' : List InQueue)
    → i ≡ i' → o ≡ o' → u ≡ u' → k ≡ k' → a ≡ a'
    → ◌≡◌ {A = Site} (record { inputs = i; outputs = o; outgoing = record { entries = u; count = k }; incoming = a })
    (record { inputs = i'; outputs = o'; outgoing = record { entries = u'; count = k' }; incoming = a' })
same_site i i' o o' u u' k k' a a' p q r s t = rw (p, q, r, s, t) refl

-- an in-queue with the same words
queue_same : (c d : List ℕ) (t q : ℕ) → ((m : ℕ) → m < queue_room → Same c d t (arrived_place q m)) → Same c d t (count_place q)
    → in_queue_at d t q ≡ in_queue_at c t q
unfolding in_queue_at
queue_same c d t q e n = same_queue _ _ _ _ (rows_same queue_room _ _ (λ m l. arrived_same c d t q m (e m l))) n.0

-- a site with the same words
pub whole_same : (c d : List ℕ) (t : ℕ) → ((l : ℕ) → l < site_places → Same c d t l) → site_of d t ≡ site_of c t
unfolding site_of
whole_same c d t e =
    same_site _ _ _ _ _ _ _ _ _ _ (rows_same input_count _ _ (λ i l. input_same c d t i (e i (omega arith))))
    (rows_same output_count _ _ (λ j l. output_same c d t j (e (outputs_from + j) (omega arith))))
    (rows_same queue_room _ _ (λ m l. leaving_same c d t m (e (leaving_from + m) (omega arith)))) (e counts_from (omega arith)).0
    (rows_same in_queue_count _ _ (λ q g. queue_same c d t q (λ m l. e (arrived_place q m) (omega arith)) (e (count_place q) (omega arith))))

-- ---- the sites after it

module _ (c d : List ℕ) (s k X w : ℕ) (p : Wrote c d s k X w) where
  -- another place of any site
  other : (t l : ℕ) → l < site_places → (t ≡ s → l ≢ k) → Same c d t l
  other = p.others

  -- the parts of a site that the place is not in
  inputs_kept : (t : ℕ) → ((i : ℕ) → i < input_count → t ≡ s → i ≢ k) → rows input_count (input_at d t) ≡ rows input_count (input_at c t)
  inputs_kept t ne = rows_same input_count _ _ (λ i l. input_same c d t i (p.others t i (omega arith) (ne i l)))

  outputs_kept : (t : ℕ) → ((j : ℕ) → j < output_count → t ≡ s → outputs_from + j ≢ k) → rows output_count (output_at d t) ≡ rows output_count (output_at c t)
  outputs_kept t ne = rows_same output_count _ _ (λ j l. output_same c d t j (p.others t (outputs_from + j) (omega arith) (ne j l)))

  leaving_kept : (t : ℕ) → ((m : ℕ) → m < queue_room → t ≡ s → leaving_from + m ≢ k) → rows queue_room (leaving_at d t) ≡ rows queue_room (leaving_at c t)
  leaving_kept t ne = rows_same queue_room _ _ (λ m l. leaving_same c d t m (p.others t (leaving_from + m) (omega arith) (ne m l)))

  out_count_kept : (t : ℕ) → (t ≡ s → counts_from ≢ k) → set_at d t counts_from ≡ set_at c t counts_from
  out_count_kept t ne = (p.others t counts_from (omega arith) ne).0

  queue_kept : (t q : ℕ) → q < in_queue_count → ((m : ℕ) → m < queue_room → t ≡ s → arrived_place q m ≢ k) → (t ≡ s → count_place q ≢ k)
      → in_queue_at d t q ≡ in_queue_at c t q
  queue_kept t q g ne nc =
      queue_same c d t q (λ m l. p.others t (arrived_place q m) (omega arith) (ne m l)) (p.others t (count_place q) (omega arith) nc)

  -- a place before the in-queues' entries, or the out-queue's count
  queues_kept : (t : ℕ) → ((q m : ℕ) → q < in_queue_count → m < queue_room → t ≡ s → arrived_place q m ≢ k)
      → ((q : ℕ) → q < in_queue_count → t ≡ s → count_place q ≢ k) → rows in_queue_count (in_queue_at d t) ≡ rows in_queue_count (in_queue_at c t)
  queues_kept t ne nc = rows_same in_queue_count _ _ (λ q g. queue_kept t q g (λ m l. ne q m g l) (nc q g))

  -- another site
  site_kept : (t : ℕ) → t ≢ s → site_of d t ≡ site_of c t
  site_kept t ne = whole_same c d t (λ l h. p.others t l h (λ e. absurd (ne e)))

  pub sites_after : (x : Site) → s < sites_most → site_of d s ≡ x → sites_of d ≡ set_site (sites_of c) s x
  unfolding sites_of
  sites_after x hs e = rows_set sites_most (site_of c) (site_of d) s x hs e (λ t l ne. site_kept t ne)

-- ---- the counter written: every place of every site is as it was

pub counter_same : (c : List ℕ) (k t l : ℕ) → t < sites_most → l < site_places → Same c (set c counter_at k) t l
counter_same c k t l ht hl =
    (get_or-set_other c counter_at (set_index t l) k 0 (λ e. omega arith), get_or-set_other c counter_at (fields_index t l) k 0 (λ e. omega arith))

pub counter_sites : (c : List ℕ) (k : ℕ) → sites_of (set c counter_at k) ≡ sites_of c
unfolding sites_of
counter_sites c k = rows_same sites_most _ _ (λ t ht. whole_same c (set c counter_at k) t (λ l hl. counter_same c k t l ht hl))

-- ---- the site of the place, for each kind of place

module _ (c d : List ℕ) (s X w : ℕ) where
  pub site_input : (i : ℕ) → i < input_count → Wrote c d s i X w → site_of d s ≡ set_in (site_of c s) i (input_from X w)
  unfolding site_of input_at
  site_input i h p =
      same_site _ _ _ _ _ _ _ _ _ _
      (rows_set input_count (input_at c s) (input_at d s) i (input_from X w) h (ap₂ input_from p.its_set p.its_fields)
      (λ j l ne. input_same c d s j (p.others s j (omega arith) (λ e. ne))))
      (outputs_kept c d s i X w p s (λ j l e q. omega arith)) (leaving_kept c d s i X w p s (λ m l e q. omega arith))
      (out_count_kept c d s i X w p s (λ e q. omega arith))
      (queues_kept c d s i X w p s (λ q m g l e z. omega arith) (λ q g e z. omega arith))

  pub site_output : (j : ℕ) → j < output_count → Wrote c d s (outputs_from + j) X w → site_of d s ≡ set_out (site_of c s) j (output_from X w)
  unfolding site_of output_at
  site_output j h p =
      let k = outputs_from + j in
      same_site _ _ _ _ _ _ _ _ _ _ (inputs_kept c d s k X w p s (λ i l e q. omega arith))
      (rows_set output_count (output_at c s) (output_at d s) j (output_from X w) h (ap₂ output_from p.its_set p.its_fields)
      (λ i l ne. output_same c d s i (p.others s (outputs_from + i) (omega arith) (λ e q. ne (omega arith)))))
      (leaving_kept c d s k X w p s (λ m l e q. omega arith)) (out_count_kept c d s k X w p s (λ e q. omega arith))
      (queues_kept c d s k X w p s (λ q m g l e z. omega arith) (λ q g e z. omega arith))

  pub site_leaving : (m : ℕ) → m < queue_room → Wrote c d s (leaving_from + m) X w → site_of d s ≡ leaving_set (site_of c s) m (out_entry_from X w)
  unfolding site_of leaving_at
  site_leaving m h p =
      let k = leaving_from + m in
      same_site _ _ _ _ _ _ _ _ _ _ (inputs_kept c d s k X w p s (λ i l e q. omega arith)) (outputs_kept c d s k X w p s (λ j l e q. omega arith))
      (rows_set queue_room (leaving_at c s) (leaving_at d s) m (out_entry_from X w) h (ap₂ out_entry_from p.its_set p.its_fields)
      (λ i l ne. leaving_same c d s i (p.others s (leaving_from + i) (omega arith) (λ e q. ne (omega arith)))))
      (out_count_kept c d s k X w p s (λ e q. omega arith)) (queues_kept c d s k X w p s (λ q i g l e z. omega arith) (λ q g e z. omega arith))

  pub site_out_count : Wrote c d s counts_from X w → site_of d s ≡ leaving_count (site_of c s) X
  unfolding site_of
  site_out_count p =
      let k = counts_from in
      same_site _ _ _ _ _ _ _ _ _ _ (inputs_kept c d s k X w p s (λ i l e q. omega arith)) (outputs_kept c d s k X w p s (λ j l e q. omega arith))
      (leaving_kept c d s k X w p s (λ i l e q. omega arith)) p.its_set
      (queues_kept c d s k X w p s (λ q i g l e z. omega arith) (λ q g e z. omega arith))

  -- a place of in-queue q, which is iq after it
  site_queue : (q k : ℕ) (iq : InQueue) → arrived_from ≤ k → k ≢ counts_from → q < in_queue_count → Wrote c d s k X w
      → ((p : ℕ) → p < in_queue_count → p ≢ q → in_queue_at d s p ≡ in_queue_at c s p) → in_queue_at d s q ≡ iq
      → site_of d s ≡ set_queue (site_of c s) q iq
  unfolding site_of
  site_queue q k iq a b g p others e =
      same_site _ _ _ _ _ _ _ _ _ _ (inputs_kept c d s k X w p s (λ i l f z. omega arith)) (outputs_kept c d s k X w p s (λ j l f z. omega arith))
      (leaving_kept c d s k X w p s (λ i l f z. omega arith)) (out_count_kept c d s k X w p s (λ f z. b (sym z)))
      (rows_set in_queue_count (in_queue_at c s) (in_queue_at d s) q iq g e others)

  pub site_arrived : (q m : ℕ) → q < in_queue_count → m < queue_room → Wrote c d s (arrived_place q m) X w
      → site_of d s ≡ arrived_set (site_of c s) q m (in_entry_from X w)
  unfolding in_queue_at arrived_at
  site_arrived q m g h p =
      let k = arrived_place q m in
      site_queue q k _ (omega arith) (λ e. omega arith) g p
      (λ r l ne. queue_kept c d s k X w p s r l (λ i f e z. ne (omega arith)) (λ e z. omega arith))
      (same_queue _ _ _ _
      (rows_set queue_room (arrived_at c s q) (arrived_at d s q) m (in_entry_from X w) h (ap₂ in_entry_from p.its_set p.its_fields)
      (λ i l ne. arrived_same c d s q i (p.others s (arrived_place q i) (omega arith) (λ e z. ne (omega arith))))
      ∙ ap (λ (l : List InEntry). set l m (in_entry_from X w)) (sym (arrived_of_lem c s q g)))
      ((p.others s (count_place q) (omega arith) (λ e z. omega arith)).0 ∙ sym (in_count c s q g)))

  pub site_in_count : (q : ℕ) → q < in_queue_count → Wrote c d s (count_place q) X w → site_of d s ≡ arrived_count (site_of c s) q X
  unfolding in_queue_at
  site_in_count q g p =
      let k = count_place q in
      site_queue q k _ (omega arith) (λ e. omega arith) g p
      (λ r l ne. queue_kept c d s k X w p s r l (λ i f e z. omega arith) (λ e z. ne (omega arith)))
      (same_queue _ _ _ _
      (rows_same queue_room _ _ (λ m l. arrived_same c d s q m (p.others s (arrived_place q m) (omega arith) (λ e z. omega arith)))
      ∙ sym (arrived_of_lem c s q g))
      p.its_set)

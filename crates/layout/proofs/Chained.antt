-- Stores one after the other, and the stores of all places of a kind one by one.
use mathlib.Core.Path.{◌≡◌, refl, sym, ap, ◌∙◌}
use mathlib.Core.List.{List}
use Prim.Native.Nat.{ℕ, ◌+◌, ◌<◌}
use native.Mathlib.Omega.{arith}
use lib.ListN.{length, get_or, set}
use lib.Seq.{get_or-set_same, set-get_or, set-set, ext_get_or}
use Rattle.base.specs.Sizes.{sites_most, in_queue_count, queue_room}
use Rattle.base.specs.Over.{over, over_none, over_more, over_below, length_over}
use Rattle.types.specs.declared.OutEntry.{OutEntry}
use Rattle.types.specs.declared.InEntry.{InEntry}
use Rattle.types.specs.declared.InQueue.{InQueue}
use Rattle.types.specs.declared.Site.{Site}
use Rattle.model.specs.Types.{site_d, in_queue_d, site_at, queue_at, set_site, with_in_queues, set_queue, no_out_entry, no_in_entry}
use Rattle.layout.specs.Layout.{word_count}
use Rattle.layout.specs.Words.{sites_of}
use Rattle.layout.specs.Stored.{Stored, leaving_all, arrived_all, arrived_count}
use Rattle.layout.proofs.Decoded.{all_sites, site_at_lem, eight_leaving, two_queues, eight_arrived}

-- ---- one after the other

-- nothing stored
pub stays : (c : List ℕ) → length c ≡ word_count → Stored c c (sites_of c)
stays c h = record { size = h; sites = refl; counter = refl; kept = λ ok. ok }

-- the sites that the second store leaves are a function of those that it finds
pub chained : (c d e : List ℕ) (xs : List Site) (F : List Site → List Site) → Stored c d xs → Stored d e (F (sites_of d)) → Stored c e (F xs)
chained c d e xs F p q =
    record { size = q.size; sites = q.sites ∙ ap F p.sites; counter = q.counter ∙ p.counter; kept = λ ok. q.kept (p.kept ok) }

-- at any site
pub then_far : (c d e : List ℕ) (xs : List Site) (u : ℕ) (g : Site → Site) → Stored c d xs → Stored d e (set_site (sites_of d) u (g (site_at (sites_of d) u)))
    → Stored c e (set_site xs u (g (site_at xs u)))
then_far c d e xs u g p q = chained c d e xs (λ l. set_site l u (g (site_at l u))) p q

-- at the site that was stored last
pub then_own : (c d e : List ℕ) (s : ℕ) (x : Site) (f : Site → Site) → s < sites_most → Stored c d (set_site (sites_of c) s x)
    → Stored d e (set_site (sites_of d) s (f (site_at (sites_of d) s))) → Stored c e (set_site (sites_of c) s (f x))
then_own c d e s x f hs p q =
    let l = all_sites c in
    let g = ap f (get_or-set_same (sites_of c) s x site_d (omega arith)) in
    let r = then_far c d e (set_site (sites_of c) s x) s f p q in
    record {
      size = r.size;
      sites = r.sites ∙ ap (set_site (set_site (sites_of c) s x) s) g ∙ set-set (sites_of c) s x (f x);
      counter = r.counter;
      kept = r.kept;
    }

-- ---- a site's places of one kind

-- d is read past their end, n of them
pub record Part (A : Type 0) : Type 0 where
  pub d : A
  pub n : ℕ
  pub get : Site → List A
  pub put : Site → List A → Site
  pub same : (x : Site) → put x (get x) ≡ x

-- what is written is read again, the last one written
pub record Kept {A : Type 0} (P : Part A) : Type 0 where
  pub got : (x : Site) → length x.incoming ≡ in_queue_count → (l : List A) → P.get (P.put x l) ≡ l
  pub last : (x : Site) → length x.incoming ≡ in_queue_count → (k l : List A) → P.put (P.put x k) l ≡ P.put x l
  pub room : (c : List ℕ) (s : ℕ) → s < sites_most → length (P.get (site_at (sites_of c) s)) ≡ P.n

abbrev pub leaving_part : Part OutEntry
leaving_part = record { d = no_out_entry; n = queue_room; get = λ x. x.outgoing.entries; put = leaving_all; same = λ x. refl }

pub leaving_kept : Kept leaving_part
leaving_kept =
    record {
      got = λ x h l. refl;
      last = λ x h k l. refl;
      room = λ c s h. ap (λ (x : Site). length x.outgoing.entries) (site_at_lem c s h) ∙ eight_leaving c s;
    }

-- the site x with in-queue q written and read, or written twice
module _ (x : Site) (q : ℕ) (g : q < in_queue_count) (h : length x.incoming ≡ in_queue_count) where
  queue_got : (iq : InQueue) → queue_at (set_queue x q iq) q ≡ iq
  queue_got iq = get_or-set_same x.incoming q iq in_queue_d (omega arith)

  queue_last : (f : InQueue → InQueue) (iq : InQueue) → set_queue (set_queue x q iq) q (f (queue_at (set_queue x q iq) q)) ≡ set_queue x q (f iq)
  queue_last f iq = ap (λ (z : InQueue). set_queue (set_queue x q iq) q (f z)) (queue_got iq) ∙ ap (with_in_queues x) (set-set x.incoming q iq (f iq))

abbrev pub arrived_part : ℕ → Part InEntry
arrived_part q =
    record {
      d = no_in_entry;
      n = queue_room;
      get = λ x. (queue_at x q).entries;
      put = λ x l. arrived_all x q l;
      same = λ x. ap (with_in_queues x) (set-get_or x.incoming q in_queue_d);
    }

pub arrived_kept : (q : ℕ) → q < in_queue_count → Kept (arrived_part q)
arrived_kept q g =
    record {
      got = λ x h l. ap (λ (iq : InQueue). iq.entries) (queue_got x q g h _);
      last = λ x h k l. queue_last x q g h (λ z. record { entries = l; count = z.count }) _;
      room = λ c s h. ap (λ (x : Site). length (queue_at x q).entries) (site_at_lem c s h) ∙ eight_arrived c s q g;
    }

queues : (c : List ℕ) (s : ℕ) → s < sites_most → length (site_at (sites_of c) s).incoming ≡ in_queue_count
queues c s h = ap (λ (x : Site). length x.incoming) (site_at_lem c s h) ∙ two_queues c s

-- an in-queue's entries, then its count
pub then_count : (c d e : List ℕ) (s q : ℕ) (iq : InQueue) → s < sites_most → q < in_queue_count
    → Stored c d (set_site (sites_of c) s (arrived_all (site_at (sites_of c) s) q iq.entries))
    → Stored d e (set_site (sites_of d) s (arrived_count (site_at (sites_of d) s) q iq.count))
    → Stored c e (set_site (sites_of c) s (set_queue (site_at (sites_of c) s) q iq))
then_count c d e s q iq hs g p r =
    let t = then_own c d e s _ (λ x. arrived_count x q iq.count) hs p r in
    let f = queue_last (site_at (sites_of c) s) q g (queues c s hs) (λ z. record { entries = z.entries; count = iq.count }) _ in
    record { size = t.size; sites = t.sites ∙ ap (set_site (sites_of c) s) f; counter = t.counter; kept = t.kept }

-- ---- stored one by one

over_all : {A : Type 0} (n : ℕ) (d : A) (l k : List A) → length l ≡ n → length k ≡ n → over (λ i. get_or l i d) n k ≡ l
over_all n d l k hl hk =
    let z = length_over (λ i. get_or l i d) n k in
    ext_get_or d (over (λ i. get_or l i d) n k) l (z ∙ hk ∙ sym hl) (λ i h. over_below (λ i. get_or l i d) n k i d (omega arith) (omega arith))

-- the site with its first k places stored, from the list l
module _ {A : Type 0} (P : Part A) where
  abbrev pub filled : Site → List A → ℕ → Site
  filled x l k = P.put x (over (λ i. get_or l i P.d) k (P.get x))

  abbrev pub Filled : List ℕ → List ℕ → ℕ → List A → ℕ → Type 0
  Filled c e s l k = Stored c e (set_site (sites_of c) s (filled (site_at (sites_of c) s) l k))

  pub none_filled : (c : List ℕ) (s : ℕ) (l : List A) → length c ≡ word_count → Filled c c s l 0
  none_filled c s l h =
      let x = site_at (sites_of c) s in
      let e : filled x l 0 ≡ x = ap (P.put x) (over_none (λ i. get_or l i P.d) (P.get x)) ∙ P.same x in
      let f : set_site (sites_of c) s (filled x l 0) ≡ sites_of c = ap (set_site (sites_of c) s) e ∙ set-get_or (sites_of c) s site_d in
      record { size = h; sites = sym f; counter = refl; kept = λ ok. ok }

  pub one_filled : Kept P → (c d e : List ℕ) (s : ℕ) (l : List A) (k : ℕ) → s < sites_most → k < P.n → Filled c d s l k
      → Stored d e (set_site (sites_of d) s (P.put (site_at (sites_of d) s) (set (P.get (site_at (sites_of d) s)) k (get_or l k P.d))))
      → Filled c e s l (k + 1)
  one_filled K c d e s l k hs hk p q =
      let x = site_at (sites_of c) s in
      let v = get_or l k P.d in
      let r = K.room c s hs in
      let m = ap (P.put x) (over_more (λ i. get_or l i P.d) k (P.get x) (omega arith)) in
      let f = queues c s hs in
      let g = ap (λ (z : List A). P.put (filled x l k) (set z k v)) (K.got x f _) ∙ K.last x f _ _ in
      let t = then_own c d e s (filled x l k) (λ y. P.put y (set (P.get y) k v)) hs p q in
      record { size = t.size; sites = t.sites ∙ ap (set_site (sites_of c) s) (g ∙ m); counter = t.counter; kept = t.kept }

  pub all_filled : Kept P → (c e : List ℕ) (s : ℕ) (l : List A) (k : ℕ) → s < sites_most → length l ≡ P.n → k ≡ P.n → Filled c e s l k
      → Stored c e (set_site (sites_of c) s (P.put (site_at (sites_of c) s) l))
  all_filled K c e s l k hs hl hk p =
      let x = site_at (sites_of c) s in
      let f = ap (P.put x) (ap (λ (m : ℕ). over (λ i. get_or l i P.d) m (P.get x)) hk ∙ over_all P.n P.d l (P.get x) hl (K.room c s hs)) in
      record { size = p.size; sites = p.sites ∙ ap (set_site (sites_of c) s) f; counter = p.counter; kept = p.kept }

-- What a store leaves, for each kind of place.
use mathlib.Core.Path.{◌≡◌, sym, ap, ◌∙◌}
use mathlib.Core.List.{List}
use mathlib.Core.Bool.{true}
use Prim.Native.Nat.{ℕ, ◌+◌, ◌<◌}
use native.Mathlib.Omega.{arith}
use borrow.Author.Tests.{lt-ltb}
use lib.ListN.{length, get_or, set, length-set}
use lib.Seq.{get_or-set_same}
use Rattle.base.specs.Sizes.{sites_most, input_count, output_count, in_queue_count, queue_room}
use Rattle.types.specs.declared.Input.{Input}
use Rattle.types.specs.declared.Output.{Output}
use Rattle.types.specs.declared.OutEntry.{OutEntry}
use Rattle.types.specs.declared.InEntry.{InEntry}
use Rattle.types.specs.declared.Site.{Site}
use Rattle.model.specs.Types.{site_at, set_site, set_in, set_out}
use Rattle.layout.specs.Layout.{outputs_from, leaving_from, counts_from, site_places, arrived_place, count_place, counter_at, word_count, set_index}
use Rattle.layout.specs.Packed.{input_from, input_word, output_from, output_word, out_entry_from, out_entry_word, in_entry_from, in_entry_word}
use Rattle.layout.specs.Words.{repacked, fields_at, site_of, sites_of, canonical}
use Rattle.layout.specs.Stored.{placed, Stored, Counted, leaving_set, leaving_count, arrived_set, arrived_count}
use Rattle.layout.proofs.Packing.{input_back_lem, output_back, out_entry_back, in_entry_back}
use Rattle.layout.proofs.Decoded.{site_at_lem}
use Rattle.layout.proofs.PlaceKinds.{repacked_input, repacked_output, repacked_leaving, repacked_arrived, repacked_out_count, repacked_in_count}
use Rattle.layout.proofs.Written.{Wrote, wrote_set, wrote_both, sites_after, counter_same, counter_sites}
use Rattle.layout.proofs.Written.{site_input, site_output, site_leaving, site_arrived, site_out_count, site_in_count}
use Rattle.layout.proofs.Canonical.{repacked_same, put_kept, place_kept, canonical_by_places}

-- a good place written, the site that it gives
stored : (c d : List ℕ) (s k X w : ℕ) (f : Site → Site) → s < sites_most → Wrote c d s k X w
    → (canonical c ≡ true → repacked k X w ≡ w) → site_of d s ≡ f (site_of c s)
    → Stored c d (set_site (sites_of c) s (f (site_at (sites_of c) s)))
stored c d s k X w f hs p good e =
    record {
      size = p.size;
      sites = sites_after c d s k X w p _ hs (e ∙ ap f (sym (site_at_lem c s hs)));
      counter = p.counter;
      kept = put_kept c d s k X w p good;
    }

-- ---- for each kind of place

module _ (c : List ℕ) (s : ℕ) (hs : s < sites_most) (hl : length c ≡ word_count) where
  -- the sites with site s changed
  abbrev changed : (Site → Site) → List Site
  changed f = set_site (sites_of c) s (f (site_at (sites_of c) s))

  pub stored_input : (i w : ℕ) (y : Input) → i < input_count → (w ≡ input_word y) × (y.packet < 256) × (y.tries < 256) × (length y.outputs ≡ output_count)
      → Stored c (placed c s i y.set w) (changed (λ x. set_in x i y))
  stored_input i w y h fit =
      let back = ap (input_from y.set) fit.0 ∙ input_back_lem y fit.1 fit.2 fit.3 in
      let p = wrote_both c s i hs (omega arith) hl y.set w in
      stored c _ s i y.set w (λ x. set_in x i y) hs p (λ ok. repacked_input y.set w i h ∙ ap input_word back ∙ sym fit.0)
      (site_input c _ s y.set w i h p ∙ ap (set_in (site_of c s) i) back)

  pub stored_output : (j w : ℕ) (o : Output) → j < output_count → (w ≡ output_word o) × (o.packet < 256) × (o.input < 256)
      → Stored c (placed c s (outputs_from + j) o.set w) (changed (λ x. set_out x j o))
  stored_output j w o h fit =
      let back = ap (output_from o.set) fit.0 ∙ output_back o fit.1 fit.2 in
      let p = wrote_both c s (outputs_from + j) hs (omega arith) hl o.set w in
      stored c _ s (outputs_from + j) o.set w (λ x. set_out x j o) hs p (λ ok. repacked_output o.set w j h ∙ ap output_word back ∙ sym fit.0)
      (site_output c _ s o.set w j h p ∙ ap (set_out (site_of c s) j) back)

  pub stored_leaving : (m w : ℕ) (u : OutEntry) → m < queue_room → (w ≡ out_entry_word u) × (u.packet < 256)
      → Stored c (placed c s (leaving_from + m) u.set w) (changed (λ x. leaving_set x m u))
  stored_leaving m w u h fit =
      let back = ap (out_entry_from u.set) fit.0 ∙ out_entry_back u fit.1 in
      let p = wrote_both c s (leaving_from + m) hs (omega arith) hl u.set w in
      stored c _ s (leaving_from + m) u.set w (λ x. leaving_set x m u) hs p (λ ok. repacked_leaving u.set w m h ∙ ap out_entry_word back ∙ sym fit.0)
      (site_leaving c _ s u.set w m h p ∙ ap (leaving_set (site_of c s) m) back)

  pub stored_arrived : (q m w : ℕ) (a : InEntry) → q < in_queue_count → m < queue_room → (w ≡ in_entry_word a) × (a.packet < 256)
      → Stored c (placed c s (arrived_place q m) a.set w) (changed (λ x. arrived_set x q m a))
  stored_arrived q m w a g h fit =
      let k = arrived_place q m in
      let back = ap (in_entry_from a.set) fit.0 ∙ in_entry_back a fit.1 in
      let p = wrote_both c s k hs (omega arith) hl a.set w in
      stored c _ s k a.set w (λ x. arrived_set x q m a) hs p (λ ok. repacked_arrived a.set w q m g h ∙ ap in_entry_word back ∙ sym fit.0)
      (site_arrived c _ s a.set w q m g h p ∙ ap (arrived_set (site_of c s) q m) back)

  -- a count: the word beside it stays, and is zero in canonical words
  beside : (k n : ℕ) → k < site_places → ((X w : ℕ) → repacked k X w ≡ 0) → canonical c ≡ true → repacked k n (fields_at c s k) ≡ fields_at c s k
  beside k n hk zero ok = zero n _ ∙ sym (repacked_same c s k ok hs hk ∙ zero _ _)

  pub stored_out_count : (n : ℕ) → Stored c (set c (set_index s counts_from) n) (changed (λ x. leaving_count x n))
  stored_out_count n =
      let k = counts_from in
      let p = wrote_set c s k hs (omega arith) hl n in
      stored c _ s k n (fields_at c s k) (λ x. leaving_count x n) hs p (beside k n (omega arith) repacked_out_count) (site_out_count c _ s n _ p)

  pub stored_in_count : (q n : ℕ) → q < in_queue_count → Stored c (set c (set_index s (count_place q)) n) (changed (λ x. arrived_count x q n))
  stored_in_count q n g =
      let k = count_place q in
      let p = wrote_set c s k hs (omega arith) hl n in
      stored c _ s k n (fields_at c s k) (λ x. arrived_count x q n) hs p (beside k n (omega arith) (λ X w. repacked_in_count X w q))
      (site_in_count c _ s n _ q g p)

-- ---- the counter's word

pub stored_counter : (c : List ℕ) (k : ℕ) → length c ≡ word_count → k < 256 → Counted c (set c counter_at k) (sites_of c) k
stored_counter c k h l =
    let e = get_or-set_same c counter_at k 0 (omega arith) in
    record {
      size = length-set c counter_at k ∙ h;
      sites = counter_sites c k;
      counter = e;
      kept = λ ok. canonical_by_places (set c counter_at k) (λ t m ht hm. place_kept c (set c counter_at k) t m ok ht hm (counter_same c k t m ht hm))
          (lt-ltb (get_or (set c counter_at k) counter_at 0) 256 (omega arith));
    }

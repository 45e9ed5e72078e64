-- The canonical form by the two words of each place alone, and what keeps it.
use mathlib.Core.Path.{◌≡◌, sym, ap, ap₂, ◌∙◌}
use mathlib.Core.List.{List}
use mathlib.Core.Bool.{true}
use Prim.Native.Nat.{ℕ, ◌<◌}
use native.Mathlib.Decide.{ℕ_discrete}
use borrow.Author.Tests.{eq-eqb, eqb-true}
use lib.Dec.{eqb, ltb}
use lib.ListN.{get_or}
use Rattle.base.specs.All.{all, all_at, all_by}
use Rattle.base.specs.Bools.{and, both}
use Rattle.base.specs.Sizes.{sites_most}
use Rattle.types.specs.declared.Input.{Input}
use Rattle.types.specs.declared.Output.{Output}
use Rattle.types.specs.declared.OutEntry.{OutEntry}
use Rattle.types.specs.declared.InEntry.{InEntry}
use Rattle.layout.specs.Layout.{counts_from, site_places, count_place, counter_at}
use Rattle.layout.specs.Packed.{input_from, input_word, output_from, output_word, out_entry_from, out_entry_word, in_entry_from, in_entry_word}
use Rattle.layout.specs.Words.{repacked, set_at, fields_at, input_at, output_at, leaving_at, arrived_at, site_of, set_of, fields_of, place_same, canonical}
use Rattle.layout.proofs.Decoded.{in_at_lem, out_at_lem, leaving_at_lem, arrived_at_lem, out_count, in_count}
use Rattle.layout.proofs.PlaceKinds.{by_kind, set_input, set_output, set_leaving, set_arrived, set_out_count, set_in_count}
use Rattle.layout.proofs.PlaceKinds.{fields_input, fields_output, fields_leaving, fields_arrived, fields_out_count, fields_in_count}
use Rattle.layout.proofs.PlaceKinds.{repacked_input, repacked_output, repacked_leaving, repacked_arrived, repacked_out_count, repacked_in_count}
use Rattle.layout.proofs.Written.{Same, Wrote}

-- ---- the words of a site that words stand for: its sets are the words, its packed words the words packed again

module _ (c : List ℕ) (s : ℕ) where
  pub set_again : (k : ℕ) → k < site_places → set_of (site_of c s) k ≡ set_at c s k
  unfolding input_at output_at leaving_at arrived_at input_from output_from out_entry_from in_entry_from
  set_again =
      by_kind (λ k. set_of (site_of c s) k ≡ set_at c s k)
      (λ i h. set_input (site_of c s) i h ∙ ap (λ (y : Input). y.set) (in_at_lem c s i h))
      (λ j h. set_output (site_of c s) j h ∙ ap (λ (o : Output). o.set) (out_at_lem c s j h))
      (λ m h. set_leaving (site_of c s) m h ∙ ap (λ (u : OutEntry). u.set) (leaving_at_lem c s m h))
      (λ q m g h. set_arrived (site_of c s) q m g h ∙ ap (λ (a : InEntry). a.set) (arrived_at_lem c s q m g h))
      (set_out_count (site_of c s) ∙ out_count c s)
      (λ q g. set_in_count (site_of c s) q ∙ in_count c s q g)

  pub fields_again : (k : ℕ) → k < site_places → fields_of (site_of c s) k ≡ repacked k (set_at c s k) (fields_at c s k)
  unfolding input_at output_at leaving_at arrived_at
  fields_again =
      by_kind (λ k. fields_of (site_of c s) k ≡ repacked k (set_at c s k) (fields_at c s k))
      (λ i h. fields_input (site_of c s) i h ∙ ap input_word (in_at_lem c s i h) ∙ sym (repacked_input _ _ i h))
      (λ j h. fields_output (site_of c s) j h ∙ ap output_word (out_at_lem c s j h) ∙ sym (repacked_output _ _ j h))
      (λ m h. fields_leaving (site_of c s) m h ∙ ap out_entry_word (leaving_at_lem c s m h) ∙ sym (repacked_leaving _ _ m h))
      (λ q m g h. fields_arrived (site_of c s) q m g h ∙ ap in_entry_word (arrived_at_lem c s q m g h) ∙ sym (repacked_arrived _ _ q m g h))
      (fields_out_count (site_of c s) ∙ sym (repacked_out_count (set_at c s counts_from) (fields_at c s counts_from)))
      (λ q g. fields_in_count (site_of c s) q ∙ sym (repacked_in_count (set_at c s (count_place q)) (fields_at c s (count_place q)) q))

  pub place_again : (k : ℕ) → k < site_places → place_same c s k ≡ eqb (fields_at c s k) (repacked k (set_at c s k) (fields_at c s k))
  place_again k h = ap (λ (w : ℕ). eqb (fields_at c s k) w) (fields_again k h)

-- a packed word of zero is good at any place
pub repacked_zero : (X k : ℕ) → k < site_places → repacked k X 0 ≡ 0
unfolding input_from input_word output_from output_word out_entry_from out_entry_word in_entry_from in_entry_word
repacked_zero X =
    by_kind (λ k. repacked k X 0 ≡ 0) (λ i h. repacked_input X 0 i h) (λ j h. repacked_output X 0 j h) (λ m h. repacked_leaving X 0 m h)
    (λ q m g h. repacked_arrived X 0 q m g h) (repacked_out_count X 0) (λ q g. repacked_in_count X 0 q)

-- what a test of a place answers: of its packed word alone where that is zero, else packed again
pub zero_same : (c : List ℕ) (s k w : ℕ) → k < site_places → w ≡ fields_at c s k → w ≡ 0 → true ≡ place_same c s k
zero_same c s k w h e z =
    let f : fields_at c s k ≡ 0 = sym e ∙ z in
    sym (place_again c s k h ∙ ap (λ (n : ℕ). eqb n (repacked k (set_at c s k) n)) f ∙ eq-eqb 0 _ (sym (repacked_zero (set_at c s k) k h)))

pub packed_same : (c : List ℕ) (s k X w r : ℕ) → k < site_places → X ≡ set_at c s k → w ≡ fields_at c s k → r ≡ repacked k X w → eqb w r ≡ place_same c s k
packed_same c s k X w r h a b e = ap (eqb w) e ∙ ap₂ (λ (Y n : ℕ). eqb n (repacked k Y n)) a b ∙ sym (place_again c s k h)

-- ---- the form, taken apart and put together

pub canonical_counter : (c : List ℕ) → canonical c ≡ true → ltb (get_or c counter_at 0) 256 ≡ true
unfolding canonical
canonical_counter c ok = (both (all (λ s. all (place_same c s) site_places) sites_most) _ ok).1

pub canonical_at : (c : List ℕ) (s k : ℕ) → canonical c ≡ true → s < sites_most → k < site_places → place_same c s k ≡ true
unfolding canonical
canonical_at c s k ok hs hk =
    let every = (both (all (λ t. all (place_same c t) site_places) sites_most) _ ok).0 in
    all_at (place_same c s) k site_places hk (all_at (λ t. all (place_same c t) site_places) s sites_most hs every)

pub canonical_by_places : (c : List ℕ) → ((s k : ℕ) → s < sites_most → k < site_places → place_same c s k ≡ true)
    → ltb (get_or c counter_at 0) 256 ≡ true → canonical c ≡ true
unfolding canonical
canonical_by_places c h e =
    and (all (λ s. all (place_same c s) site_places) sites_most) _
    (all_by (λ s. all (place_same c s) site_places) sites_most (λ s hs. all_by (place_same c s) site_places (λ k hk. h s k hs hk))) e

-- a packed word of canonical words is the word packed again
pub repacked_same : (c : List ℕ) (s k : ℕ) → canonical c ≡ true → s < sites_most → k < site_places
    → fields_at c s k ≡ repacked k (set_at c s k) (fields_at c s k)
repacked_same c s k ok hs hk = eqb-true _ _ (sym (place_again c s k hk) ∙ canonical_at c s k ok hs hk)

-- ---- one place written: it is good if the words were, the others are as they were

-- a place with the same words is as good as it was
pub place_kept : (c d : List ℕ) (t l : ℕ) → canonical c ≡ true → t < sites_most → l < site_places → Same c d t l → place_same d t l ≡ true
place_kept c d t l ok ht hl e = place_again d t l hl ∙ rw (e.0, e.1) (sym (place_again c t l hl) ∙ canonical_at c t l ok ht hl)

pub put_kept : (c d : List ℕ) (s k X w : ℕ) → Wrote c d s k X w → (canonical c ≡ true → repacked k X w ≡ w) → canonical c ≡ true → canonical d ≡ true
put_kept c d s k X w p good ok =
    canonical_by_places d (λ t l ht hl. go t l ht hl (ℕ_discrete t s) (ℕ_discrete l k))
    (ap (λ (n : ℕ). ltb n 256) p.counter ∙ canonical_counter c ok)
  where
    go : (t l : ℕ) → t < sites_most → l < site_places → Dec (t ≡ s) → Dec (l ≡ k) → place_same d t l ≡ true
    go t l ht hl (yes a) (yes b) = place_again d t l hl ∙ rw (a, b, p.its_set, p.its_fields) (eq-eqb w (repacked k X w) (sym (good ok)))
    go t l ht hl (yes a) (no b) = place_kept c d t l ok ht hl (p.others t l hl (λ e. b))
    go t l ht hl (no a) b = place_kept c d t l ok ht hl (p.others t l hl (λ e. absurd (a e)))

-- Zeros are the empty state, in canonical form.
use mathlib.Core.Path.{◌≡◌, refl, sym, ap, ap₂, ◌∙◌}
use mathlib.Core.List.{List}
use mathlib.Core.Bool.{true}
use Prim.Native.Nat.{ℕ, ◌+◌, ◌%◌}
use borrow.Author.Tests.{eq-eqb}
use lib.Dec.{eqb, ltb}
use lib.ListN.{length, get_or, length-replicate}
use lib.Seq.{ext_get_or}
use native.Mathlib.Omega.{arith}
use Rattle.base.specs.Bools.{and}
use Rattle.base.specs.Lists.{same_at}
use Rattle.base.specs.Over.{over, over_below, length_over}
use Rattle.base.specs.Sizes.{sites_most, input_count, output_count, in_queue_count, queue_room}
use Rattle.types.specs.declared.Site.{Site}
use Rattle.model.specs.Types.{no_input, no_output, no_out_entry, no_in_entry, no_in_queue, no_site, no_state}
use Rattle.layout.specs.Layout.{outputs_from, leaving_from, counts_from, arrived_place, count_place, counter_at, word_count, set_index, fields_index}
use Rattle.layout.specs.Packed.{input_from, output_from, out_entry_from, in_entry_from}
use Rattle.layout.specs.Words.{set_at, fields_at, input_at, output_at, leaving_at, arrived_at, in_queue_at, site_of, sites_of, state_of}
use Rattle.layout.specs.Words.{canonical, is_state, no_words}
use Rattle.layout.proofs.Rows.{rows_same, rows_one}
use Rattle.layout.proofs.Written.{same_queue, same_site}
use Rattle.layout.proofs.Canonical.{zero_same, canonical_by_places}

module _ (c : List ℕ) (zeros : (m : ℕ) → get_or c m 0 ≡ 0) where
  queue_empty : (s q : ℕ) → in_queue_at c s q ≡ no_in_queue
  unfolding in_queue_at arrived_at in_entry_from
  queue_empty s q =
      same_queue _ _ _ _
      (rows_same queue_room (λ m. no_in_entry) (arrived_at c s q)
      (λ m h. ap₂ in_entry_from (zeros (set_index s (arrived_place q m))) (zeros (fields_index s (arrived_place q m)))) ∙ rows_one queue_room no_in_entry)
      (zeros (set_index s (count_place q)))

  site_empty : (s : ℕ) → site_of c s ≡ no_site
  unfolding site_of input_at output_at leaving_at input_from output_from out_entry_from
  site_empty s =
      let at : (k : ℕ) → set_at c s k ≡ 0 = λ k. zeros (set_index s k) in
      let of : (k : ℕ) → fields_at c s k ≡ 0 = λ k. zeros (fields_index s k) in
      same_site _ _ _ _ _ _ _ _ _ _
      (rows_same input_count (λ i. no_input) (input_at c s) (λ i h. ap₂ input_from (at i) (of i)) ∙ rows_one input_count no_input)
      (rows_same output_count (λ j. no_output) (output_at c s) (λ j h. ap₂ output_from (at (outputs_from + j)) (of (outputs_from + j)))
      ∙ rows_one output_count no_output)
      (rows_same queue_room (λ m. no_out_entry) (leaving_at c s) (λ m h. ap₂ out_entry_from (at (leaving_from + m)) (of (leaving_from + m)))
      ∙ rows_one queue_room no_out_entry)
      (at counts_from)
      (rows_same in_queue_count (λ q. no_in_queue) (in_queue_at c s) (λ q h. queue_empty s q) ∙ rows_one in_queue_count no_in_queue)

  sites_empty : sites_of c ≡ no_state.sites
  unfolding sites_of
  sites_empty = rows_same sites_most (λ s. no_site) (site_of c) (λ s h. site_empty s) ∙ rows_one sites_most no_site

  state_empty : state_of c ≡ no_state
  state_empty = ap₂ (λ (xs : List Site) (n : ℕ). record { sites = xs; counter = n }) sites_empty (ap (λ (n : ℕ). n % 256) (zeros counter_at))

  zeros_canonical : canonical c ≡ true
  zeros_canonical =
      canonical_by_places c
      (λ s k hs hk. sym (zero_same c s k (fields_at c s k) hk refl (zeros (fields_index s k))))
      (ap (λ (n : ℕ). ltb n 256) (zeros counter_at))

zero_at : (m : ℕ) → get_or no_words m 0 ≡ 0
unfolding no_words
zero_at m = same_at word_count m 0

pub length_none : length no_words ≡ word_count
unfolding no_words
length_none = length-replicate {A = ℕ} word_count 0

pub empty_words : state_of no_words ≡ no_state
empty_words = state_empty no_words zero_at

pub empty_canonical : canonical no_words ≡ true
empty_canonical = zeros_canonical no_words zero_at

pub empty_is_state : is_state no_words ≡ true
empty_is_state = and (eqb (length no_words) word_count) (canonical no_words) (eq-eqb (length no_words) word_count length_none) empty_canonical

-- zeros stored from the front to the end
pub all_zeros : (c d : List ℕ) (m : ℕ) → length c ≡ word_count → m ≡ word_count → d ≡ over (λ i. 0) m c → d ≡ no_words
all_zeros c d m hl hm e =
    let z = length_over (λ i. 0) word_count c in
    e ∙ ap (λ (k : ℕ). over (λ i. 0) k c) hm
    ∙ ext_get_or 0 (over (λ i. 0) word_count c) no_words (z ∙ hl ∙ sym length_none)
    (λ i h. over_below (λ i. 0) word_count c i 0 (omega arith) (omega arith) ∙ sym (zero_at i))

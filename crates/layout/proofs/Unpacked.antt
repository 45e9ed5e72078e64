-- The words of a state stand for that state: for the lengths and the bytes that the types give.
use mathlib.Core.Path.{◌≡◌, sym, ap, ap₂, ◌∙◌}
use mathlib.Core.List.{List}
use Prim.Native.Nat.{ℕ, ◌+◌, ◌%◌, ◌<◌}
use native.Mathlib.Omega.{arith}
use Rattle.base.specs.Rows.{spelled}
use Rattle.base.specs.Sizes.{sites_most, input_count, output_count, in_queue_count, queue_room}
use Rattle.types.specs.declared.Site.{Site}
use Rattle.types.specs.declared.State.{State}
use Rattle.model.specs.Types.{site_d, input_d, no_output, no_out_entry, no_in_entry, in_queue_d, site_at, in_at, out_at, out_entry, queue_at, in_entry}
use Rattle.model.specs.Shapes.{Shaped, SiteShaped}
use Rattle.layout.specs.Layout.{outputs_from, leaving_from, counts_from, site_places, arrived_place, count_place}
use Rattle.layout.specs.Packed.{input_from, output_from, out_entry_from, in_entry_from}
use Rattle.layout.specs.Words.{set_at, fields_at, input_at, output_at, leaving_at, arrived_at, in_queue_at, site_of, sites_of, state_of, set_of, fields_of, words_of}
use Rattle.layout.specs.Bytes.{Bytes, SiteBytes}
use Rattle.layout.proofs.Packing.{input_back_lem, output_back, out_entry_back, in_entry_back}
use Rattle.layout.proofs.Rows.{rows_same}
use Rattle.layout.proofs.Written.{same_queue, same_site}
use Rattle.layout.proofs.PlaceKinds.{set_input, set_output, set_leaving, set_arrived, set_out_count, set_in_count}
use Rattle.layout.proofs.PlaceKinds.{fields_input, fields_output, fields_leaving, fields_arrived}
use Rattle.layout.proofs.Settled.{set_word, fields_word, counter_word}

-- ---- words c whose places of site s are those of the site x

module _ (c : List ℕ) (s : ℕ) (x : Site) (sets : (k : ℕ) → k < site_places → set_at c s k ≡ set_of x k)
    (fields : (k : ℕ) → k < site_places → fields_at c s k ≡ fields_of x k) (h : SiteShaped x) (b : SiteBytes x) where
  input_found : (i : ℕ) → i < input_count → input_at c s i ≡ in_at x i
  unfolding input_at
  input_found i l =
      ap₂ input_from (sets i (omega arith) ∙ set_input x i l) (fields i (omega arith) ∙ fields_input x i l)
      ∙ input_back_lem (in_at x i) (b.packet i l) (b.tries i l) (h.marks i l)

  output_found : (j : ℕ) → j < output_count → output_at c s j ≡ out_at x j
  unfolding output_at
  output_found j l =
      ap₂ output_from (sets (outputs_from + j) (omega arith) ∙ set_output x j l) (fields (outputs_from + j) (omega arith) ∙ fields_output x j l)
      ∙ output_back (out_at x j) (b.passed j l) (b.feeder j l)

  leaving_found : (m : ℕ) → m < queue_room → leaving_at c s m ≡ out_entry x.outgoing m
  unfolding leaving_at
  leaving_found m l =
      ap₂ out_entry_from (sets (leaving_from + m) (omega arith) ∙ set_leaving x m l) (fields (leaving_from + m) (omega arith) ∙ fields_leaving x m l)
      ∙ out_entry_back (out_entry x.outgoing m) (b.leaving m l)

  arrived_found : (q m : ℕ) → q < in_queue_count → m < queue_room → arrived_at c s q m ≡ in_entry (queue_at x q) m
  unfolding arrived_at
  arrived_found q m g l =
      ap₂ in_entry_from (sets (arrived_place q m) (omega arith) ∙ set_arrived x q m g l)
      (fields (arrived_place q m) (omega arith) ∙ fields_arrived x q m g l)
      ∙ in_entry_back (in_entry (queue_at x q) m) (b.arrived q m g l)

  queue_found : (q : ℕ) → q < in_queue_count → in_queue_at c s q ≡ queue_at x q
  unfolding in_queue_at
  queue_found q g =
      let iq = queue_at x q in
      same_queue _ iq.entries _ iq.count
      (rows_same queue_room (in_entry iq) (arrived_at c s q) (λ m l. arrived_found q m g l)
      ∙ sym (spelled queue_room no_in_entry iq.entries (h.arrived q g)))
      (sets (count_place q) (omega arith) ∙ set_in_count x q)

  site_found : site_of c s ≡ x
  unfolding site_of
  site_found =
      same_site _ x.inputs _ x.outputs _ x.outgoing.entries _ x.outgoing.count _ x.incoming
      (rows_same input_count (in_at x) (input_at c s) input_found ∙ sym (spelled input_count input_d x.inputs h.inputs))
      (rows_same output_count (out_at x) (output_at c s) output_found ∙ sym (spelled output_count no_output x.outputs h.outputs))
      (rows_same queue_room (out_entry x.outgoing) (leaving_at c s) leaving_found ∙ sym (spelled queue_room no_out_entry x.outgoing.entries h.outgoing))
      (sets counts_from (omega arith) ∙ set_out_count x)
      (rows_same in_queue_count (queue_at x) (in_queue_at c s) queue_found ∙ sym (spelled in_queue_count in_queue_d x.incoming h.incoming))

-- ---- the words of a state

sites_back : (st : State) → Shaped st → Bytes st → sites_of (words_of st) ≡ st.sites
unfolding sites_of
sites_back st h b =
    let c = words_of st in
    rows_same sites_most (site_at st.sites) (site_of c)
    (λ s l. site_found c s (site_at st.sites s) (λ k hk. set_word st s k l hk) (λ k hk. fields_word st s k l hk) (h.site s l) (b.site s l))
    ∙ sym (spelled sites_most site_d st.sites h.all_sites)

pub unpacked : (st : State) → Shaped st → Bytes st → state_of (words_of st) ≡ st
unpacked st h b =
    let l = b.counter in
    let e : st.counter % 256 ≡ st.counter = omega arith in
    ap₂ (λ (xs : List Site) (n : ℕ). record { sites = xs; counter = n }) (sites_back st h b) (ap (λ (n : ℕ). n % 256) (counter_word st) ∙ e)

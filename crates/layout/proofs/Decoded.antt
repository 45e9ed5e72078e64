-- The places of the sites that words stand for, each read from its own two words.
use mathlib.Core.Path.{◌≡◌, refl, sym, ap, ap₂, ◌∙◌}
use mathlib.Core.List.{List}
use Prim.Native.Nat.{ℕ, ◌+◌, ◌<◌}
use lib.ListN.{length, get_or}
use Rattle.base.specs.Rows.{rows, spelled}
use Rattle.base.specs.Sizes.{sites_most, input_count, output_count, in_queue_count, queue_room}
use Rattle.types.specs.declared.Input.{Input}
use Rattle.types.specs.declared.Output.{Output}
use Rattle.types.specs.declared.OutEntry.{OutEntry}
use Rattle.types.specs.declared.InEntry.{InEntry}
use Rattle.types.specs.declared.InQueue.{InQueue}
use Rattle.types.specs.declared.Site.{Site}
use Rattle.model.specs.Types.{site_d, input_d, no_output, no_out_entry, no_in_entry, in_queue_d, site_at, in_at, out_at, out_entry, queue_at, in_entry}
use Rattle.layout.specs.Layout.{outputs_from, counts_from, count_place}
use Rattle.layout.specs.Packed.{input_from, output_from}
use Rattle.layout.specs.Words.{set_at, fields_at, input_at, output_at, leaving_at, arrived_at, in_queue_at, site_of, sites_of}
use Rattle.layout.proofs.Rows.{get_d_rows, length_rows}

pub all_sites : (c : List ℕ) → length (sites_of c) ≡ sites_most
unfolding sites_of
all_sites c = length_rows sites_most (site_of c)

pub site_at_lem : (c : List ℕ) (s : ℕ) → s < sites_most → site_at (sites_of c) s ≡ site_of c s
unfolding sites_of
site_at_lem c s h = get_d_rows sites_most (site_of c) s site_d h

-- ---- the places of a site

module _ (c : List ℕ) (s : ℕ) where
  pub in_at_lem : (i : ℕ) → i < input_count → in_at (site_of c s) i ≡ input_at c s i
  unfolding site_of
  in_at_lem i h = get_d_rows input_count (input_at c s) i input_d h

  pub out_at_lem : (j : ℕ) → j < output_count → out_at (site_of c s) j ≡ output_at c s j
  unfolding site_of
  out_at_lem j h = get_d_rows output_count (output_at c s) j no_output h

  pub leaving_at_lem : (m : ℕ) → m < queue_room → out_entry (site_of c s).outgoing m ≡ leaving_at c s m
  unfolding site_of
  leaving_at_lem m h = get_d_rows queue_room (leaving_at c s) m no_out_entry h

  pub queue_at_lem : (q : ℕ) → q < in_queue_count → queue_at (site_of c s) q ≡ in_queue_at c s q
  unfolding site_of
  queue_at_lem q g = get_d_rows in_queue_count (in_queue_at c s) q in_queue_d g

  pub arrived_of_lem : (q : ℕ) → q < in_queue_count → (queue_at (site_of c s) q).entries ≡ rows queue_room (arrived_at c s q)
  unfolding in_queue_at
  arrived_of_lem q g = ap (λ (iq : InQueue). iq.entries) (queue_at_lem q g)

  pub arrived_at_lem : (q m : ℕ) → q < in_queue_count → m < queue_room → in_entry (queue_at (site_of c s) q) m ≡ arrived_at c s q m
  arrived_at_lem q m g h = ap (λ (l : List InEntry). get_or l m no_in_entry) (arrived_of_lem q g) ∙ get_d_rows queue_room (arrived_at c s q) m no_in_entry h

  pub out_count : (site_of c s).outgoing.count ≡ set_at c s counts_from
  unfolding site_of
  out_count = refl

  pub in_count : (q : ℕ) → q < in_queue_count → (queue_at (site_of c s) q).count ≡ set_at c s (count_place q)
  unfolding in_queue_at
  in_count q g = ap (λ (iq : InQueue). iq.count) (queue_at_lem q g)

  pub five_inputs : length (site_of c s).inputs ≡ input_count
  unfolding site_of
  five_inputs = length_rows input_count (input_at c s)

  pub six_outputs : length (site_of c s).outputs ≡ output_count
  unfolding site_of
  six_outputs = length_rows output_count (output_at c s)

  pub eight_leaving : length (site_of c s).outgoing.entries ≡ queue_room
  unfolding site_of
  eight_leaving = length_rows queue_room (leaving_at c s)

  pub two_queues : length (site_of c s).incoming ≡ in_queue_count
  unfolding site_of
  two_queues = length_rows in_queue_count (in_queue_at c s)

  pub eight_arrived : (q : ℕ) → q < in_queue_count → length (queue_at (site_of c s) q).entries ≡ queue_room
  eight_arrived q g = ap (λ (l : List InEntry). length l) (arrived_of_lem q g) ∙ length_rows queue_room (arrived_at c s q)

  leaving_of : (site_of c s).outgoing.entries ≡ rows queue_room (leaving_at c s)
  unfolding site_of
  leaving_of = refl

-- ---- what a load answers

module _ (c : List ℕ) (s : ℕ) (hs : s < sites_most) where
  pub input_at_lem : (i : ℕ) → i < input_count → in_at (site_at (sites_of c) s) i ≡ input_at c s i
  input_at_lem i h = ap (λ (x : Site). in_at x i) (site_at_lem c s hs) ∙ in_at_lem c s i h

  pub output_at_lem : (j : ℕ) → j < output_count → out_at (site_at (sites_of c) s) j ≡ output_at c s j
  output_at_lem j h = ap (λ (x : Site). out_at x j) (site_at_lem c s hs) ∙ out_at_lem c s j h

  -- a place read of its two words, unpacked
  pub input_loaded : (i X w : ℕ) (r : Input) → i < input_count → X ≡ set_at c s i → w ≡ fields_at c s i
      → r ≡ input_from X w → r ≡ in_at (site_at (sites_of c) s) i
  unfolding input_at
  input_loaded i X w r h a b e = e ∙ ap₂ input_from a b ∙ sym (input_at_lem i h)

  pub output_loaded : (j X w : ℕ) (r : Output) → j < output_count → X ≡ set_at c s (outputs_from + j)
      → w ≡ fields_at c s (outputs_from + j) → r ≡ output_from X w
      → r ≡ out_at (site_at (sites_of c) s) j
  unfolding output_at
  output_loaded j X w r h a b e = e ∙ ap₂ output_from a b ∙ sym (output_at_lem j h)

  -- all of a kind
  pub inputs_loaded : (ys : List Input) → ys ≡ rows input_count (in_at (site_at (sites_of c) s)) → ys ≡ (site_at (sites_of c) s).inputs
  inputs_loaded ys e = e ∙ sym (spelled input_count input_d _ (ap (λ (x : Site). length x.inputs) (site_at_lem c s hs) ∙ five_inputs c s))

  pub outputs_loaded : (os : List Output) → os ≡ rows output_count (out_at (site_at (sites_of c) s)) → os ≡ (site_at (sites_of c) s).outputs
  outputs_loaded os e = e ∙ sym (spelled output_count no_output _ (ap (λ (x : Site). length x.outputs) (site_at_lem c s hs) ∙ six_outputs c s))

  pub out_count_loaded : (n : ℕ) → n ≡ set_at c s counts_from → n ≡ (site_at (sites_of c) s).outgoing.count
  out_count_loaded n e = e ∙ sym (ap (λ (x : Site). x.outgoing.count) (site_at_lem c s hs) ∙ out_count c s)

  pub in_count_loaded : (q n : ℕ) → q < in_queue_count → n ≡ set_at c s (count_place q) → n ≡ (queue_at (site_at (sites_of c) s) q).count
  in_count_loaded q n g e = e ∙ sym (ap (λ (x : Site). (queue_at x q).count) (site_at_lem c s hs) ∙ in_count c s q g)

  pub out_queue_loaded : (us : List OutEntry) (n : ℕ) → us ≡ rows queue_room (leaving_at c s) → n ≡ (site_at (sites_of c) s).outgoing.count
      → record { entries = us; count = n } ≡ (site_at (sites_of c) s).outgoing
  out_queue_loaded us n e f =
      ap₂ (λ (l : List OutEntry) (k : ℕ). record { entries = l; count = k })
      (e ∙ sym (leaving_of c s) ∙ sym (ap (λ (x : Site). x.outgoing.entries) (site_at_lem c s hs))) f

  pub in_queue_loaded : (q : ℕ) (es : List InEntry) (n : ℕ) → q < in_queue_count → es ≡ rows queue_room (arrived_at c s q)
      → n ≡ (queue_at (site_at (sites_of c) s) q).count → record { entries = es; count = n } ≡ queue_at (site_at (sites_of c) s) q
  in_queue_loaded q es n g e f =
      ap₂ (λ (l : List InEntry) (k : ℕ). record { entries = l; count = k })
      (e ∙ sym (arrived_of_lem c s q g) ∙ sym (ap (λ (x : Site). (queue_at x q).entries) (site_at_lem c s hs))) f

  -- all of them
  pub in_queues_loaded : (iqs : List InQueue) → iqs ≡ rows in_queue_count (queue_at (site_at (sites_of c) s)) → iqs ≡ (site_at (sites_of c) s).incoming
  in_queues_loaded iqs e = e ∙ sym (spelled in_queue_count in_queue_d _ (ap (λ (x : Site). length x.incoming) (site_at_lem c s hs) ∙ two_queues c s))

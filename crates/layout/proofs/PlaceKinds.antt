-- The five kinds of places of a site: what holds at each kind holds at each place; a site's words by the kind of the place.
use mathlib.Core.Path.{◌≡◌, refl, ap, ap₂, ◌∙◌}
use Prim.Native.Nat.{ℕ, suc, ◌+◌, ◌-◌, ◌/◌, ◌%◌, ◌<◌, ◌≤◌}
use native.Mathlib.Decide.{dec_lt}
use native.Mathlib.Omega.{arith}
use borrow.Author.Tests.{lt-ltb, le-ltb}
use Rattle.base.specs.Sizes.{input_count, output_count, in_queue_count, queue_room}
use Rattle.types.specs.declared.InEntry.{InEntry}
use Rattle.types.specs.declared.Site.{Site}
use Rattle.model.specs.Types.{in_at, out_at, out_entry, queue_at, in_entry}
use Rattle.layout.specs.Layout.{outputs_from, leaving_from, arrived_from, counts_from, site_places, arrived_place, count_place}
use Rattle.layout.specs.Packed.{input_from, input_word, output_from, output_word, out_entry_from, out_entry_word, in_entry_from, in_entry_word}
use Rattle.layout.specs.Words.{count_of, arrived_of, set_of, fields_of, kinds, repacked}

pub by_kind : (P : ℕ → Type 0) → ((i : ℕ) → i < input_count → P i) → ((j : ℕ) → j < output_count → P (outputs_from + j))
    → ((m : ℕ) → m < queue_room → P (leaving_from + m)) → ((q m : ℕ) → q < in_queue_count → m < queue_room → P (arrived_place q m)) → P counts_from
    → ((q : ℕ) → q < in_queue_count → P (count_place q)) → (k : ℕ) → k < site_places → P k
by_kind P ins outs left came out_count in-counts k h =
    go (dec_lt k outputs_from) (dec_lt k leaving_from) (dec_lt k arrived_from) (dec_lt k counts_from) (dec_lt k (counts_from + 1))
  where
    shifted : (b : ℕ) → b ≤ k → P (b + (k - b)) → P k
    shifted b l p = let e : b + (k - b) ≡ k = omega arith in rw e at p

    go : Dec (k < outputs_from) → Dec (k < leaving_from) → Dec (k < arrived_from) → Dec (k < counts_from) → Dec (k < counts_from + 1) → P k
    go (yes a) b d e f = ins k a
    go (no a) (yes b) d e f = shifted outputs_from (omega arith) (outs (k - outputs_from) (omega arith))
    go (no a) (no b) (yes d) e f = shifted leaving_from (omega arith) (left (k - leaving_from) (omega arith))
    go (no a) (no b) (no d) (yes e) f =
        let m = k - arrived_from in
        let z : arrived_place (m / queue_room) (m % queue_room) ≡ k = omega arith in
        rw z at (came (m / queue_room) (m % queue_room) (omega arith) (omega arith))
    go (no a) (no b) (no d) (no e) (yes f) = let z : counts_from ≡ k = omega arith in rw z at out_count
    go (no a) (no b) (no d) (no e) (no f) = shifted (counts_from + 1) (omega arith) (in-counts (k - (counts_from + 1)) (omega arith))

-- ---- a choice by the kind of the place

module _ {A : Type 0} (a b c d e : A) where
  pub kind_input : (i : ℕ) → i < input_count → kinds i a b c d e ≡ a
  kind_input i h = rw (lt-ltb i outputs_from h) refl

  pub kind_output : (j : ℕ) → j < output_count → kinds (outputs_from + j) a b c d e ≡ b
  kind_output j h = let k = outputs_from + j in rw (le-ltb k outputs_from (omega arith), lt-ltb k leaving_from (omega arith)) refl

  pub kind_leaving : (m : ℕ) → m < queue_room → kinds (leaving_from + m) a b c d e ≡ c
  kind_leaving m h =
      let k = leaving_from + m in
      rw (le-ltb k outputs_from (omega arith), le-ltb k leaving_from (omega arith), lt-ltb k arrived_from (omega arith)) refl

  pub kind_arrived : (q m : ℕ) → q < in_queue_count → m < queue_room → kinds (arrived_place q m) a b c d e ≡ d
  kind_arrived q m g h =
      let k = arrived_place q m in
      rw (le-ltb k outputs_from (omega arith), le-ltb k leaving_from (omega arith), le-ltb k arrived_from (omega arith), lt-ltb k counts_from (omega arith)) refl

  pub kind_count : (q : ℕ) → kinds (count_place q) a b c d e ≡ e
  kind_count q =
      let k = count_place q in
      rw (le-ltb k outputs_from (omega arith), le-ltb k leaving_from (omega arith), le-ltb k arrived_from (omega arith), le-ltb k counts_from (omega arith)) refl

from : (b m : ℕ) → b + m - b ≡ m
from b m = omega arith

-- entry m of in-queue q among those of all in-queues
from_queue : (x : Site) (q m : ℕ) → m < queue_room → arrived_of x (arrived_place q m - arrived_from) ≡ in_entry (queue_at x q) m
from_queue x q m h =
    let a : (arrived_place q m - arrived_from) / queue_room ≡ q = omega arith in
    let b : (arrived_place q m - arrived_from) % queue_room ≡ m = omega arith in
    ap₂ (λ (p l : ℕ). in_entry (queue_at x p) l) a b

-- ---- a site's words

module _ (x : Site) where
  pub set_input : (i : ℕ) → i < input_count → set_of x i ≡ (in_at x i).set
  unfolding set_of
  set_input i h = kind_input _ _ _ _ _ i h

  pub fields_input : (i : ℕ) → i < input_count → fields_of x i ≡ input_word (in_at x i)
  unfolding fields_of
  fields_input i h = kind_input _ _ _ _ _ i h

  pub set_output : (j : ℕ) → j < output_count → set_of x (outputs_from + j) ≡ (out_at x j).set
  unfolding set_of
  set_output j h = kind_output _ _ _ _ _ j h ∙ ap (λ (m : ℕ). (out_at x m).set) (from outputs_from j)

  pub fields_output : (j : ℕ) → j < output_count → fields_of x (outputs_from + j) ≡ output_word (out_at x j)
  unfolding fields_of
  fields_output j h = kind_output _ _ _ _ _ j h ∙ ap (λ (m : ℕ). output_word (out_at x m)) (from outputs_from j)

  pub set_leaving : (m : ℕ) → m < queue_room → set_of x (leaving_from + m) ≡ (out_entry x.outgoing m).set
  unfolding set_of
  set_leaving m h = kind_leaving _ _ _ _ _ m h ∙ ap (λ (j : ℕ). (out_entry x.outgoing j).set) (from leaving_from m)

  pub fields_leaving : (m : ℕ) → m < queue_room → fields_of x (leaving_from + m) ≡ out_entry_word (out_entry x.outgoing m)
  unfolding fields_of
  fields_leaving m h = kind_leaving _ _ _ _ _ m h ∙ ap (λ (j : ℕ). out_entry_word (out_entry x.outgoing j)) (from leaving_from m)

  pub set_arrived : (q m : ℕ) → q < in_queue_count → m < queue_room → set_of x (arrived_place q m) ≡ (in_entry (queue_at x q) m).set
  unfolding set_of
  set_arrived q m g h = kind_arrived _ _ _ _ _ q m g h ∙ ap (λ (a : InEntry). a.set) (from_queue x q m h)

  pub fields_arrived : (q m : ℕ) → q < in_queue_count → m < queue_room → fields_of x (arrived_place q m) ≡ in_entry_word (in_entry (queue_at x q) m)
  unfolding fields_of
  fields_arrived q m g h = kind_arrived _ _ _ _ _ q m g h ∙ ap in_entry_word (from_queue x q m h)

  pub set_out_count : set_of x counts_from ≡ x.outgoing.count
  unfolding set_of
  set_out_count = refl

  pub fields_out_count : fields_of x counts_from ≡ 0
  unfolding fields_of
  fields_out_count = refl

  pub set_in_count : (q : ℕ) → set_of x (count_place q) ≡ (queue_at x q).count
  unfolding set_of
  set_in_count q =
      let e : count_place q - counts_from ≡ suc q = omega arith in
      kind_count _ _ _ _ _ q ∙ ap (count_of x) e

  pub fields_in_count : (q : ℕ) → fields_of x (count_place q) ≡ 0
  unfolding fields_of
  fields_in_count q = kind_count _ _ _ _ _ q

-- ---- packed again

module _ (X w : ℕ) where
  pub repacked_input : (i : ℕ) → i < input_count → repacked i X w ≡ input_word (input_from X w)
  unfolding repacked
  repacked_input i h = kind_input _ _ _ _ _ i h

  pub repacked_output : (j : ℕ) → j < output_count → repacked (outputs_from + j) X w ≡ output_word (output_from X w)
  unfolding repacked
  repacked_output j h = kind_output _ _ _ _ _ j h

  pub repacked_leaving : (m : ℕ) → m < queue_room → repacked (leaving_from + m) X w ≡ out_entry_word (out_entry_from X w)
  unfolding repacked
  repacked_leaving m h = kind_leaving _ _ _ _ _ m h

  pub repacked_arrived : (q m : ℕ) → q < in_queue_count → m < queue_room → repacked (arrived_place q m) X w ≡ in_entry_word (in_entry_from X w)
  unfolding repacked
  repacked_arrived q m g h = kind_arrived _ _ _ _ _ q m g h

  pub repacked_out_count : repacked counts_from X w ≡ 0
  unfolding repacked
  repacked_out_count = refl

  pub repacked_in_count : (q : ℕ) → repacked (count_place q) X w ≡ 0
  unfolding repacked
  repacked_in_count q = kind_count _ _ _ _ _ q

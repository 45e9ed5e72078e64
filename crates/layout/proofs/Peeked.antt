-- What is seen of a place by a few bits of its packed word.
use mathlib.Core.Path.{◌≡◌, refl, sym, ap, ap₂, ◌∙◌}
use mathlib.Core.List.{List}
use mathlib.Core.Bool.{Bool, true, false, cond, not, ◌&&◌, and-true, and-false}
use Prim.Native.Nat.{ℕ, zero, suc, ◌+◌, ◌*◌, ◌/◌, ◌%◌, ◌<◌}
use native.Mathlib.Omega.{arith}
use borrow.Author.Tests.{ne_eqb}
use lib.Dec.{eqb}
use Rattle.base.specs.Sizes.{sites_most, input_count, output_count, in_queue_count, queue_room}
use Rattle.types.specs.Numbers.{state_number}
use Rattle.types.specs.Phases.{is_none}
use Rattle.types.specs.declared.Connection.TheVariants.{the_data as Connection}
use Rattle.types.specs.declared.Received.TheVariants.{the_data as Received}
use Rattle.types.specs.declared.Terminator.TheVariants.{None as t_none, End as t_end, Abort as t_abort, KeepLocal as t_keep}
use Rattle.types.specs.declared.Input.{Input}
use Rattle.types.specs.declared.Output.{Output}
use Rattle.types.specs.declared.InEntry.{InEntry}
use Rattle.types.specs.declared.Site.{Site}
use Rattle.model.specs.Types.{site_at, in_at, out_at, queue_at, in_entry, carries}
use Rattle.model.specs.Places.{stalled}
use Rattle.layout.specs.Layout.{outputs_from, arrived_place}
use Rattle.layout.specs.Packed.{phase_at, terminator_at, flag, input_from, output_from, in_entry_from}
use Rattle.layout.specs.Words.{fields_at, input_at, output_at, arrived_at, sites_of}
use Rattle.layout.proofs.Decoded.{site_at_lem, arrived_at_lem, input_at_lem, output_at_lem}

-- ---- of the word alone

state_number_lem : (m : ℕ) (c : Connection) (r : Received) → m < 8 → state_number (phase_at m c r) ≡ m
state_number_lem zero c r h = refl
state_number_lem (suc zero) c r h = refl
state_number_lem (suc (suc zero)) c r h = refl
state_number_lem (suc (suc (suc zero))) c r h = refl
state_number_lem (suc (suc (suc (suc zero)))) c r h = refl
state_number_lem (suc (suc (suc (suc (suc zero))))) c r h = refl
state_number_lem (suc (suc (suc (suc (suc (suc zero)))))) c r h = refl
state_number_lem (suc (suc (suc (suc (suc (suc (suc zero))))))) c r h = refl
state_number_lem (suc (suc (suc (suc (suc (suc (suc (suc m)))))))) c r h = absurd (omega arith)

none_if : (a b c : Bool) → is_none (cond a t_none (cond b t_end (cond c t_abort t_keep))) ≡ a
none_if true b c = refl
none_if false true c = refl
none_if false false true = refl
none_if false false false = refl

none_at : (m : ℕ) → is_none (terminator_at m) ≡ eqb m 0
none_at m = none_if (eqb m 0) (eqb m 1) (eqb m 2)

two_bits : (m : ℕ) → m < 4 → eqb m 3 ≡ eqb (m % 2) 1 && eqb (m / 2) 1
two_bits zero h = refl
two_bits (suc zero) h = refl
two_bits (suc (suc zero)) h = refl
two_bits (suc (suc (suc zero))) h = refl
two_bits (suc (suc (suc (suc m)))) h = absurd (omega arith)

-- used, head taken and closing, in the order of the bits and in that of the definition
held_last : (u h c : Bool) → u && h && not c ≡ u && not c && h
held_last true true c = sym (and-true (not c))
held_last true false c = sym (and-false (not c))
held_last false h c = refl

headed_bits : (w : ℕ) → eqb (w % 4) 3 ≡ flag w 1 && flag w 2
headed_bits w =
    let a : w % 4 % 2 ≡ w / 1 % 2 = omega arith in
    let b : w % 4 / 2 ≡ w / 2 % 2 = omega arith in
    two_bits (w % 4) (omega arith) ∙ ap₂ (λ (m n : ℕ). eqb m 1 && eqb n 1) a b

taken_bits : (w : ℕ) → eqb (w % 4) 3 && not (eqb (w / 16 % 2) 1) ≡ flag w 1 && not (flag w 16) && flag w 2
taken_bits w =
    ap (λ (b : Bool). b && not (flag w 16)) (headed_bits w) ∙ held_last (flag w 1) (flag w 2) (flag w 16)

three_low : (a b : ℕ) → a < 4 → eqb (a + 4 * b) 3 ≡ eqb a 3 && eqb b 0
three_low a zero h = let e : a + 4 * 0 ≡ a = omega arith in ap (λ (m : ℕ). eqb m 3) e ∙ low (eqb a 3)
  where
    low : (x : Bool) → x ≡ x && true
    low true = refl
    low false = refl
three_low a (suc b) h =
    ne_eqb (a + 4 * suc b) 3 (λ e. omega arith) ∙ sym (ap (λ (x : Bool). eqb a 3 && x) (ne_eqb (suc b) 0 (λ e. omega arith)) ∙ and-false (eqb a 3))

-- a terminator's number a below 4 and the mark's bit b: both are zero exactly if the two together are
zero_low : (a b : ℕ) → b < 2 → eqb (a + 4 * b) 0 ≡ eqb a 0 && not (eqb b 1)
zero_low a zero h = let e : a + 4 * 0 ≡ a = omega arith in ap (λ (m : ℕ). eqb m 0) e ∙ sym (and-true (eqb a 0))
zero_low a (suc zero) h = ne_eqb (a + 4 * 1) 0 (λ e. omega arith) ∙ sym (and-false (eqb a 0))
zero_low a (suc (suc b)) h = absurd (omega arith)

three_bits : (m : ℕ) → m % 8 ≡ m % 4 + 4 * (m / 4 % 2)
three_bits m = omega arith

-- the same in the order of the definition
bare_last : (u h t c : Bool) → u && h && (t && not c) ≡ u && not c && t && h
bare_last true true true c = sym (and-true (not c && true) ∙ and-true (not c))
bare_last true true false c = sym (and-true (not c && false) ∙ and-false (not c))
bare_last true false t c = sym (and-false (not c && t))
bare_last false h t c = refl

stalled_bits : (w : ℕ) → eqb (w % 32) 3 ≡ flag w 1 && not (flag w 16) && is_none (terminator_at (w / 4 % 4)) && flag w 2
stalled_bits w =
    let e : w % 32 ≡ w % 4 + 4 * (w / 4 % 8) = omega arith in
    let g : w / 4 / 4 ≡ w / 16 = omega arith in
    let f : w / 4 % 8 ≡ w / 4 % 4 + 4 * (w / 16 % 2) =
    three_bits (w / 4) ∙ ap (λ (k : ℕ). w / 4 % 4 + 4 * (k % 2)) g in
    let low = ap (λ (m : ℕ). eqb m 0) f ∙ zero_low (w / 4 % 4) (w / 16 % 2) (omega arith) in
    let none = ap (λ (b : Bool). b && not (flag w 16)) (sym (none_at (w / 4 % 4))) in
    ap (λ (m : ℕ). eqb m 3) e ∙ three_low (w % 4) (w / 4 % 8) (omega arith)
    ∙ ap₂ ◌&&◌ (headed_bits w) (low ∙ none)
    ∙ bare_last (flag w 1) (flag w 2) (is_none (terminator_at (w / 4 % 4))) (flag w 16)

-- ---- of a place of the sites that words stand for

module _ (c : List ℕ) (s : ℕ) (hs : s < sites_most) where
  pub state_peeked : (i w : ℕ) → i < input_count → w ≡ fields_at c s i → w % 8 ≡ state_number (in_at (site_at (sites_of c) s) i).phase
  unfolding input_at input_from
  state_peeked i w h e =
      ap (λ (m : ℕ). m % 8) e
      ∙ sym (ap (λ (y : Input). state_number y.phase) (input_at_lem c s hs i h) ∙ state_number_lem (fields_at c s i % 8) _ _ (omega arith))

  module _ (j w : ℕ) (h : j < output_count) (e : w ≡ fields_at c s (outputs_from + j)) where
    pub used_peeked : eqb (w % 2) 1 ≡ (out_at (site_at (sites_of c) s) j).used
    unfolding output_at output_from
    used_peeked =
        let f : w % 2 ≡ w / 1 % 2 = omega arith in
        ap (λ (m : ℕ). eqb m 1) f ∙ ap (λ (m : ℕ). flag m 1) e ∙ sym (ap (λ (o : Output). o.used) (output_at_lem c s hs j h))

    pub taken_peeked : eqb (w % 4) 3 && not (eqb (w / 16 % 2) 1)
        ≡ (carries (out_at (site_at (sites_of c) s) j) && (out_at (site_at (sites_of c) s) j).head)
    unfolding output_at output_from
    taken_peeked =
        taken_bits w ∙ ap (λ (m : ℕ). flag m 1 && not (flag m 16) && flag m 2) e
        ∙ sym (ap (λ (o : Output). carries o && o.head) (output_at_lem c s hs j h))

    pub stalled_peeked : eqb (w % 32) 3 ≡ stalled (out_at (site_at (sites_of c) s) j)
    unfolding output_at output_from
    stalled_peeked =
        stalled_bits w
        ∙ ap (λ (m : ℕ). flag m 1 && not (flag m 16) && is_none (terminator_at (m / 4 % 4)) && flag m 2) e
        ∙ sym (ap stalled (output_at_lem c s hs j h))

    pub feeder_peeked : w / 256 % 256 ≡ (out_at (site_at (sites_of c) s) j).input
    unfolding output_at output_from
    feeder_peeked = ap (λ (m : ℕ). m / 256 % 256) e ∙ sym (ap (λ (o : Output). o.input) (output_at_lem c s hs j h))

  pub lacks_peeked : (q m w : ℕ) → q < in_queue_count → m < queue_room → w ≡ fields_at c s (arrived_place q m)
      → eqb (w % 4) 0 ≡ is_none (in_entry (queue_at (site_at (sites_of c) s) q) m).terminator
  unfolding arrived_at in_entry_from
  lacks_peeked q m w g h e =
      ap (λ (k : ℕ). eqb (k % 4) 0) e ∙ sym (none_at (fields_at c s (arrived_place q m) % 4))
      ∙ sym (ap (λ (x : Site). is_none (in_entry (queue_at x q) m).terminator) (site_at_lem c s hs)
      ∙ ap (λ (a : InEntry). is_none a.terminator) (arrived_at_lem c s q m g h))

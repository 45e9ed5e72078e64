-- The state that any words stand for has the arrays' lengths and the bytes of its types.
use mathlib.Core.Path.{◌≡◌, sym, ap, subst}
use mathlib.Core.List.{List}
use Prim.Native.Nat.{ℕ, ◌%◌, ◌<◌}
use native.Mathlib.Omega.{arith}
use lib.ListN.{length}
use Rattle.types.specs.declared.Input.{Input}
use Rattle.types.specs.declared.Output.{Output}
use Rattle.types.specs.declared.OutEntry.{OutEntry}
use Rattle.types.specs.declared.InEntry.{InEntry}
use Rattle.model.specs.Shapes.{Shaped, SiteShaped}
use Rattle.layout.specs.Bytes.{Bytes, SiteBytes}
use Rattle.layout.specs.Packed.{input_from, output_from, out_entry_from, in_entry_from}
use Rattle.layout.specs.Words.{input_at, output_at, leaving_at, arrived_at, site_of, state_of, words_of}
use Rattle.layout.proofs.Decoded.{all_sites, site_at_lem, in_at_lem, out_at_lem, leaving_at_lem, arrived_at_lem}
use Rattle.layout.proofs.Decoded.{five_inputs, six_outputs, eight_leaving, two_queues, eight_arrived}
use Rattle.layout.proofs.Unpacked.{unpacked}

-- a number that is another's rest by 256
byte : (a b : ℕ) → a ≡ b % 256 → a < 256
byte a b e = omega arith

module _ (c : List ℕ) (s : ℕ) where
  site_shaped : SiteShaped (site_of c s)
  unfolding input_at input_from
  site_shaped =
      record {
        inputs = five_inputs c s;
        marks = λ i h. ap (λ (y : Input). length y.outputs) (in_at_lem c s i h);
        outputs = six_outputs c s;
        outgoing = eight_leaving c s;
        incoming = two_queues c s;
        arrived = eight_arrived c s;
      }

  site_bytes : SiteBytes (site_of c s)
  unfolding input_at output_at leaving_at arrived_at input_from output_from out_entry_from in_entry_from
  site_bytes =
      record {
        packet = λ i h. byte _ _ (ap (λ (y : Input). y.packet) (in_at_lem c s i h));
        tries = λ i h. byte _ _ (ap (λ (y : Input). y.tries) (in_at_lem c s i h));
        passed = λ j h. byte _ _ (ap (λ (o : Output). o.packet) (out_at_lem c s j h));
        feeder = λ j h. byte _ _ (ap (λ (o : Output). o.input) (out_at_lem c s j h));
        leaving = λ m h. byte _ _ (ap (λ (u : OutEntry). u.packet) (leaving_at_lem c s m h));
        arrived = λ q m g h. byte _ _ (ap (λ (a : InEntry). a.packet) (arrived_at_lem c s q m g h));
      }

pub shaped : (c : List ℕ) → Shaped (state_of c)
shaped c = record { all_sites = all_sites c; site = λ s h. subst SiteShaped (sym (site_at_lem c s h)) (site_shaped c s) }

pub bytes : (c : List ℕ) → Bytes (state_of c)
bytes c = record { site = λ s h. subst SiteBytes (sym (site_at_lem c s h)) (site_bytes c s); counter = omega arith }

-- any words: those of the state that they stand for stand for the same state
pub same_state : (c : List ℕ) → state_of (words_of (state_of c)) ≡ state_of c
same_state c = unpacked (state_of c) (shaped c) (bytes c)

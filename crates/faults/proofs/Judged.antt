-- What the three searches say of an archive whose head passed: its fault, or that what they went through is good. Assumes
-- what each law names.
use mathlib.Core.Path.{◌≡◌, refl, sym, ◌∙◌, subst}
use mathlib.Core.Bool.{true}
use mathlib.Core.List.{List}
use Prim.Native.Nat.{ℕ, ◌*◌}
use native.Mathlib.Omega.{arith}
use Rattle.base.specs.Sizes.{port_count}
use Rattle.base.specs.All.{all}
use Rattle.model.specs.Network.{channel_ok, channels_ok, routes_ok}
use Rattle.model.specs.Runs.{send_ok, sends_ok, body_refusal}
use Rattle.format.specs.Faults.{Fault}
use Rattle.format.specs.Format.{sites_of, count_of, network_of, run_of}
use Rattle.format.specs.Refusals.{head_then}
use Rattle.format.specs.First.{Fails}
use Rattle.format.specs.Faults.{numbered_ok, fault_of}
use Rattle.faults.proofs.HeadLaws.{read_head, read_body}
use Rattle.faults.proofs.Held.{sites_held, count_held}
use Rattle.faults.proofs.Parts.{Placeless, placeless_low, head_placeless, place_none, told}
use Rattle.faults.proofs.Rows.{routes_numbered}
use Rattle.faults.proofs.Theorems.{body_of, fault_6, fault_7, fault_8}

-- the head's refusal f
pub at_head : (b : List ℕ) (f : ℕ) → f ≡ head_then b 0 → (f ≡ 0 → ⊥)
    → ◌≡◌ {A = Fault} (record { refusal = f; place = 0 }) (fault_of b)
at_head b f e h =
    let none : Placeless f = subst Placeless (sym e) (head_placeless b) in
    sym (told b f 0 (sym (read_head b f e h)) (place_none f (run_of b) none))

-- all three good
nothing_wrong : (b : List ℕ) → channels_ok (network_of b) ≡ true → routes_ok (network_of b) ≡ true → sends_ok (run_of b) ≡ true
    → 0 ≡ body_refusal (run_of b)
nothing_wrong b cs rs s = sym (body_of b ∙ (rw (cs, rs, s) refl))

module _ (b : List ℕ) (h : head_then b 0 ≡ 0) (S : ℕ) (eS : S ≡ sites_of b) where
  sites : S ≡ (network_of b).sites
  sites = sites_held b S eS

  -- ---- the channels

  pub at_channel : (c : ℕ) → Fails (channel_ok (network_of b)) (port_count * S) c
      → ◌≡◌ {A = Fault} (record { refusal = 6; place = c }) (fault_of b)
  at_channel c f = sym ((fault_6 b c).1 (h, subst (λ (k : ℕ). Fails (channel_ok (network_of b)) (port_count * k) c) sites f))

  pub channels_good : all (channel_ok (network_of b)) (port_count * S) ≡ true → channels_ok (network_of b) ≡ true
  channels_good a = subst (λ (k : ℕ). all (channel_ok (network_of b)) (port_count * k) ≡ true) sites a

  -- ---- the routes

  module _ (cs : channels_ok (network_of b) ≡ true) where
    pub at_route : (c : ℕ) → Fails (numbered_ok (network_of b)) (S * S) c
        → ◌≡◌ {A = Fault} (record { refusal = 7; place = c }) (fault_of b)
    at_route c f =
        sym ((fault_7 b c).1 ((h, cs), subst (λ (k : ℕ). Fails (numbered_ok (network_of b)) (k * k) c) sites f))

    pub routes_good : all (numbered_ok (network_of b)) (S * S) ≡ true → routes_ok (network_of b) ≡ true
    routes_good a =
        sym (routes_numbered (network_of b)) ∙ subst (λ (k : ℕ). all (numbered_ok (network_of b)) (k * k) ≡ true) sites a

    -- ---- the sends

    module _ (rs : routes_ok (network_of b) ≡ true) (N : ℕ) (eN : N ≡ count_of b) where
      count : N ≡ (run_of b).count
      count = count_held b N eN

      pub at_send : (c : ℕ) → Fails (send_ok (run_of b)) N c → ◌≡◌ {A = Fault} (record { refusal = 8; place = c }) (fault_of b)
      at_send c f = sym ((fault_8 b c).1 ((h, cs, rs), subst (λ (k : ℕ). Fails (send_ok (run_of b)) k c) count f))

      pub at_nothing : all (send_ok (run_of b)) N ≡ true → ◌≡◌ {A = Fault} (record { refusal = 0; place = 0 }) (fault_of b)
      at_nothing a =
          let s : sends_ok (run_of b) ≡ true = subst (λ (k : ℕ). all (send_ok (run_of b)) k ≡ true) count a in
          let given = read_body b (head_then b 0) 0 refl h (nothing_wrong b cs rs s) in
          sym (told b 0 0 (sym given) (place_none 0 (run_of b) (placeless_low 0 (omega arith))))

-- What the fault that is found says: refusal 6, 7 and 8 with place k are given exactly if what the reader judges before
-- passed and number k is the first channel, route or send that the model's test turns down; else the place is 0.
-- Assumes nothing.
use mathlib.Core.Path.{◌≡◌, refl, sym, ap, ◌∙◌, subst}
use mathlib.Core.Bool.{Bool, true, false, cond}
use mathlib.Core.List.{List}
use Prim.Native.Nat.{ℕ, ◌*◌, ◌<◌}
use native.Mathlib.Omega.{arith}
use Rattle.base.specs.Sizes.{port_count}
use Rattle.base.specs.All.{all}
use Rattle.types.specs.declared.Network.{Network}
use Rattle.model.specs.Network.{channel_ok, channels_ok, routes_ok}
use Rattle.model.specs.Runs.{send_ok, sends_ok, body_refusal}
use Rattle.format.specs.Format.{network_of, run_of}
use Rattle.format.specs.Refusals.{head_then, read_refusal}
use Rattle.format.specs.First.{first, Fails, fails_at, fails_is}
use Rattle.format.specs.Faults.{numbered_ok, item_count, item_ok, place_of, fault_of}
use Rattle.faults.proofs.HeadLaws.{network_of_lem, read_body}
use Rattle.faults.proofs.Rows.{routes_numbered}
use Rattle.faults.proofs.Parts.{Placeless, placeless_low, placeless_high, behind_head, place_none, told, asked}

-- ---- the body's refusals by its three tests

abbrev pub body : Bool → Bool → Bool → ℕ
body c t s = cond c (cond t (cond s 0 8) 7) 6

body_parts : (c t s : Bool)
    → (body c t s ≡ 6 → c ≡ false)
    × (body c t s ≡ 7 → (c ≡ true) × (t ≡ false))
    × (body c t s ≡ 8 → (c ≡ true) × (t ≡ true) × (s ≡ false))
body_parts false t s = (λ e. refl, λ e. absurd (omega arith), λ e. absurd (omega arith))
body_parts true false s = (λ e. absurd (omega arith), λ e. (refl, refl), λ e. absurd (omega arith))
body_parts true true false = (λ e. absurd (omega arith), λ e. absurd (omega arith), λ e. (refl, refl, refl))
body_parts true true true = (λ e. absurd (omega arith), λ e. absurd (omega arith), λ e. absurd (omega arith))

-- the run's network is that of the bytes
pub body_of : (b : List ℕ)
    → body_refusal (run_of b) ≡ body (channels_ok (network_of b)) (routes_ok (network_of b)) (sends_ok (run_of b))
unfolding body_refusal
body_of b = ap (λ (n : Network). body (channels_ok n) (routes_ok n) (sends_ok (run_of b))) (network_of_lem b)

place_6 : (b : List ℕ) → place_of 6 (run_of b) ≡ first (channel_ok (network_of b)) (port_count * (network_of b).sites)
unfolding place_of item_ok item_count
place_6 b = ap (λ (n : Network). first (channel_ok n) (port_count * n.sites)) (network_of_lem b)

place_7 : (b : List ℕ)
    → place_of 7 (run_of b) ≡ first (numbered_ok (network_of b)) ((network_of b).sites * (network_of b).sites)
unfolding place_of item_ok item_count
place_7 b = ap (λ (n : Network). first (numbered_ok n) (n.sites * n.sites)) (network_of_lem b)

-- ---- what the reader judges before 6, 7 and 8

abbrev pub Before6 : List ℕ → Type 0
Before6 b = head_then b 0 ≡ 0

abbrev pub Before7 : List ℕ → Type 0
Before7 b = (head_then b 0 ≡ 0) × (channels_ok (network_of b) ≡ true)

abbrev pub Before8 : List ℕ → Type 0
Before8 b = (head_then b 0 ≡ 0) × (channels_ok (network_of b) ≡ true) × (routes_ok (network_of b) ≡ true)

-- fault f with place k is found exactly if what is judged before it passed, and k is the first of n items at which p fails
abbrev pub Found : List ℕ → ℕ → Type 0 → (ℕ → Bool) → ℕ → Type 0
Found b f Before p n =
    (k : ℕ)
    → (fault_of b ≡ record { refusal = f; place = k } → Before × Fails p n k)
    × (Before × Fails p n k → fault_of b ≡ record { refusal = f; place = k })

module _ (b : List ℕ) where
  -- behind a head that passed the body's refusal is the reader's
  body_read : head_then b 0 ≡ 0 → body_refusal (run_of b) ≡ read_refusal b
  body_read h = read_body b (head_then b 0) (body_refusal (run_of b)) refl h refl

  -- where the search of refusal f is that for p, and all that f needs are `Before` and that p fails somewhere
  found : (f : ℕ) (Before : Type 0) (p : ℕ → Bool) (n : ℕ) → (Placeless f → ⊥) → place_of f (run_of b) ≡ first p n
      → (head_then b 0 ≡ 0 → body_refusal (run_of b) ≡ f → Before × (all p n ≡ false))
      → (Before × (all p n ≡ false) → (head_then b 0 ≡ 0) × (body_refusal (run_of b) ≡ f))
      → Found b f Before p n
  found f Before p n l place to from k = (
    λ e.
        let w = asked b f k e in
        let h = behind_head b (λ none. l (subst Placeless w.0 none)) in
        let z = to h (body_read h ∙ w.0) in
        (z.0, subst (Fails p n) (sym place ∙ w.1) (fails_at p n z.1)),
    λ x.
        let y = fails_is p n k x.1 in
        let z = from (x.0, y.0) in
        told b f k (sym (body_read z.0) ∙ z.1) (place ∙ y.1),
  )

  -- below 6 the place is 0, and so it is at 17
  none_told : Placeless (read_refusal b) → fault_of b ≡ record { refusal = read_refusal b; place = 0 }
  none_told h = told b (read_refusal b) 0 refl (place_none (read_refusal b) (run_of b) h)

  pub fault_none : read_refusal b < 6 → fault_of b ≡ record { refusal = read_refusal b; place = 0 }
  fault_none h = none_told (placeless_low (read_refusal b) h)

  pub fault_17 : 8 < read_refusal b → fault_of b ≡ record { refusal = read_refusal b; place = 0 }
  fault_17 h = none_told (placeless_high (read_refusal b) h)

  -- the channels
  pub fault_6 : Found b 6 (Before6 b) (channel_ok (network_of b)) (port_count * (network_of b).sites)
  fault_6 =
      let n = network_of b in
      found 6 (Before6 b) (channel_ok n) (port_count * n.sites) (λ h. h.0 refl) (place_6 b)
      (λ h e. (h, (body_parts (channels_ok n) (routes_ok n) (sends_ok (run_of b))).0 (sym (body_of b) ∙ e)))
      (λ x. (x.0, body_of b ∙ (rw x.1 refl)))

  -- the routes by number
  pub fault_7 : Found b 7 (Before7 b) (numbered_ok (network_of b)) ((network_of b).sites * (network_of b).sites)
  fault_7 =
      let n = network_of b in
      found 7 (Before7 b) (numbered_ok n) (n.sites * n.sites) (λ h. h.1 refl) (place_7 b)
      (λ h e.
      let w = (body_parts (channels_ok n) (routes_ok n) (sends_ok (run_of b))).1 (sym (body_of b) ∙ e) in
      ((h, w.0), routes_numbered n ∙ w.1))
      (λ x. (x.0.0, body_of b ∙ (rw (x.0.1, sym (routes_numbered n) ∙ x.1) refl)))

  -- the sends
  pub fault_8 : Found b 8 (Before8 b) (send_ok (run_of b)) (run_of b).count
  unfolding place_of item_ok item_count
  fault_8 =
      let n = network_of b in
      found 8 (Before8 b) (send_ok (run_of b)) (run_of b).count (λ h. h.2 refl) refl
      (λ h e.
      let w = (body_parts (channels_ok n) (routes_ok n) (sends_ok (run_of b))).2 (sym (body_of b) ∙ e) in
      ((h, w.0, w.1), w.2))
      (λ x. (x.0.0, body_of b ∙ (rw (x.0.1, x.0.2, x.1) refl)))

-- The fault by its parts: 6, 7 and 8 are given behind a head that passed, and no other refusal has a place. Assumes
-- nothing.
use mathlib.Core.Path.{◌≡◌, refl, sym, ap, ◌∙◌, subst}
use mathlib.Core.Bool.{Bool, true, false, cond}
use mathlib.Core.List.{List}
use Prim.Native.Nat.{ℕ, ◌≤◌, ◌<◌}
use native.Mathlib.Omega.{arith}
use borrow.Author.Tests.{eqb-true, ne_eqb}
use lib.Dec.{eqb}
use Rattle.base.specs.Bools.{either_way}
use Rattle.types.specs.declared.Run.{Run}
use Rattle.types.specs.declared.Network.{Network}
use Rattle.model.specs.Network.{version_ok, edition_ok, sizes_ok}
use Rattle.model.specs.Runs.{body_refusal}
use Rattle.format.specs.Format.{network_of, run_of}
use Rattle.format.specs.Refusals.{length_ok, size_ok, head_then, read_refusal}
use Rattle.format.specs.Faults.{Fault}
use Rattle.format.specs.First.{first}
use Rattle.format.specs.Faults.{item_count, place_of, fault_of}
use Rattle.faults.proofs.HeadLaws.{head_then_lem}

-- ---- refusals with a place

-- neither 6, 7 nor 8
abbrev pub Placeless : ℕ → Type 0
Placeless f = (f ≡ 6 → ⊥) × (f ≡ 7 → ⊥) × (f ≡ 8 → ⊥)

placeless_by : (f : ℕ) → (6 ≤ f → f ≤ 8 → ⊥) → Placeless f
placeless_by f h = (
  λ e. h (omega arith) (omega arith),
  λ e. h (omega arith) (omega arith),
  λ e. h (omega arith) (omega arith),
)

pub placeless_low : (f : ℕ) → f < 6 → Placeless f
placeless_low f l = placeless_by f (λ a c. omega arith)

pub placeless_high : (f : ℕ) → 8 < f → Placeless f
placeless_high f l = placeless_by f (λ a c. omega arith)

-- the head's tests alone give none of them
pub head_placeless : (b : List ℕ) → Placeless (head_then b 0)
unfolding head_then
head_placeless b = go (length_ok b) (version_ok n) (edition_ok n) (sizes_ok n) (eqb (run_of b).seed 0) (size_ok b)
  where
    n : Network
    n = network_of b

    go : (a v k s x z : Bool) → Placeless (cond a (cond v (cond k (cond s (cond x 4 (cond z 0 5)) 3) 17) 2) 1)
    go false v k s x z = placeless_low 1 (omega arith)
    go true false k s x z = placeless_low 2 (omega arith)
    go true true false s x z = placeless_high 17 (omega arith)
    go true true true false x z = placeless_low 3 (omega arith)
    go true true true true true z = placeless_low 4 (omega arith)
    go true true true true false false = placeless_low 5 (omega arith)
    go true true true true false true = placeless_low 0 (omega arith)

-- they are given behind a head that passed
pub behind_head : (b : List ℕ) → (Placeless (read_refusal b) → ⊥) → head_then b 0 ≡ 0
unfolding read_refusal
behind_head b h =
    either_way (eqb (head_then b 0) 0) (λ e. eqb-true (head_then b 0) 0 e)
    (λ e.
    let q : head_then b (body_refusal (run_of b)) ≡ head_then b 0 = head_then_lem b (body_refusal (run_of b)) ∙ (rw e refl) in
    absurd (h (subst Placeless (sym q) (head_placeless b))))

-- ---- the fault by its parts

pub place_none : (f : ℕ) (R : Run) → Placeless f → place_of f R ≡ 0
unfolding place_of item_count first
place_none f R h = rw (ne_eqb f 6 h.0, ne_eqb f 7 h.1, ne_eqb f 8 h.2) refl

pub told : (b : List ℕ) (f k : ℕ) → read_refusal b ≡ f → place_of f (run_of b) ≡ k
    → fault_of b ≡ record { refusal = f; place = k }
unfolding fault_of
told b f k e q = rw (e, q) refl

pub asked : (b : List ℕ) (f k : ℕ) → fault_of b ≡ record { refusal = f; place = k }
    → (read_refusal b ≡ f) × (place_of f (run_of b) ≡ k)
unfolding fault_of
asked b f k e =
    let r : read_refusal b ≡ f = ap (λ (x : Fault). x.refusal) e in
    (r, sym (ap (λ (g : ℕ). place_of g (run_of b)) r) ∙ ap (λ (x : Fault). x.place) e)

-- How the theorems of this crate are shown: by `settled`, which asks of a contract that says one fact that two outcomes
-- of which the fact holds are equal, and by `same`. Nothing here has to be believed. Assumes nothing.
use Prim.Native.Nat.{ℕ}
use mathlib.Core.Path.{◌≡◌, refl, sym, ap, ◌∙◌}
use mathlib.Core.Logic.{∥∥₁_elim}
use mathlib.Core.HLevel.{Σ_set}
use mathlib.Core.List.{List, [], ◌∷◌}
use base.Logic.{emp, id⊢}
use base.Stored.{Coded, Coded-set, coded_via}
use contract.Monad.{fact}
use contract.Lifetimes.{Lfts}
use denote.MutBor.{MutBor}
use denote.Signature.{Slot, type_at}
use denote.Triple.Clauses.{Ended, Lasts, AtExit, at_exit, closing}
use borrow.Fn.World.{w₀}
use Rattle.settled.specs.Outcomes.{Lifetimes, Input, Answer, ClausesIn, SpecIn, Outcome, Allowed, Settled}

-- clauses that ask nothing and say one fact, of an input, an answer and what was passed, at exit
abbrev pub FactOf : Ended → Type 1
FactOf T = (κs : Lifetimes T) → Input T κs → Answer T κs → AtExit T κs → Type 0

abbrev pub saying : (T : Ended) → FactOf T → ClausesIn T
saying T φ w κs a =
    record { ghost = Unit {0}; requires = λ g. emp w.𝓤; ensures = λ g r e. fact w.𝓤 (φ κs a r e) }

-- what the fact says of an outcome
abbrev pub Said : (T : Ended) → FactOf T → (κs : Lifetimes T) (a : Input T κs) → Outcome T κs a → Type 0
Said T φ κs a x = φ κs a x.0 (at_exit T κs a x.1)

-- Such clauses settle the outcome where two outcomes of which the fact holds are equal. `plain`: last values are numbers
-- and lists and structs of them, of whose equality there is one proof; of answers the types say so.
pub settled : {T : Ended} {φ : FactOf T}
    (plain : (κs : Lifetimes T) (a : Input T κs) → IsSet (Lasts T κs a))
    → ((κs : Lifetimes T) (a : Input T κs) (x y : Outcome T κs a) → Said T φ κs a x → Said T φ κs a y → x ≡ y)
    → Settled T (saying T φ) (λ w. closing w.𝓛 T (saying T φ w))
settled {T} {φ} plain equal = record {
  stated = λ w. refl;
  enterable = λ w κs a. tt;
  any_input = λ w κs a g. id⊢ w.𝓤 (emp w.𝓤);
  one_outcome = λ κs a x y p q.
      let only : IsProp (x ≡ y) = Σ_set (Coded-set (type_at T.signature.result κs).coded) (λ _. plain κs a) x y in
      ∥∥₁_elim p.says only (λ h. ∥∥₁_elim q.says only (λ k. equal κs a x y h.0 k.0));
}

-- And only there: a fact that holds of two outcomes that differ settles nothing.
pub only_where : {T : Ended} {φ : FactOf T} {s : SpecIn T} → Settled T (saying T φ) s
    → (κs : Lifetimes T) (a : Input T κs) (x y : Outcome T κs a) → Said T φ κs a x → Said T φ κs a y → x ≡ y
only_where {T} {φ} z κs a x y p q = z.one_outcome κs a x y (allow x p) (allow y q)
  where
    allow : (x : Outcome T κs a) → Said T φ κs a x → Allowed T (saying T φ) κs a x
    allow x p = record { world = w₀; ghost = tt; resource = w₀.𝓤.one; says = ∣ (p, tt) ∣₁ }

-- The parts of `plain`, one for each parameter: `value` for one that is not lent to be written; for one that is, `behind`
-- of its place among the `inputs`, since what stands behind a reference is as plain as the reference; joined by `beside`.
pub value : IsSet (Unit {0})
value x y p q = refl

pub beside : {A B : Type 0} → IsSet A → IsSet B → IsSet (A × B)
beside s t = Σ_set s (λ _. t)

pub behind : {X : Type 0} → Coded (MutBor X) → IsSet X
behind c = Coded-set (coded_via c (λ x. record { ref_ptr = (0, 0); ghost_name = 0; now = x }) (λ x y p. ap (λ z. z.now) p))

abbrev Codes : {n : ℕ} (ss : List (Slot n)) → Lfts n → Type 0
Codes [] κs = Unit {0}
Codes (s ∷ ss) κs = Coded (type_at s κs).Denot × Codes ss κs

abbrev codes : {n : ℕ} (ss : List (Slot n)) (κs : Lfts n) → Codes ss κs
codes [] κs = tt
codes (s ∷ ss) κs = ((type_at s κs).coded, codes ss κs)

abbrev pub inputs : (T : Ended) (κs : Lifetimes T) → Codes T.signature.params κs
inputs T κs = codes T.signature.params κs

-- the one lemma: two that equal the same are equal
pub same : {A : Type 0} {x y d : A} → x ≡ d → y ≡ d → x ≡ y
same p q = p ∙ sym q

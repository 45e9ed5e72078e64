-- Document 01, "How tight the contracts are": "for every input, refused ones too, that contract settles the answer, the
-- state and each lent byte; a proof shows any two allowed outcomes equal." It is said of the contract that the checker
-- makes of a function's clauses and that the function is proved to meet; no clause is typed again. Assumes nothing.
use Rattle.std.specs.Prelude.{◌≡◌}
use seplogic.Ra.Ura.{Ura}
use base.Logic.{SProp, ent, emp}
use prog.Memory.{Memory}
use prog.Routine.{Routine}
use types.Logic.{Logic}
use contract.Monad.{Fun}
use contract.Lifetimes.{Lfts}
use denote.Triple.Entry.{Args, Res}
use denote.Triple.Spec.{Spec}
use denote.Triple.Clauses.{Ended, Clauses, Lasts, at_exit, closing}
use borrow.Fn.World.{World}

-- The checker's module of a function has three parts: `ended`, its signature; `clauses`, what it asks, and what it says of
-- the answer and, at exit, of what was passed; `spec`, the contract that its theorem states. A World is a model of the
-- logic: the theorem holds in every one.
abbrev pub Lifetimes : Ended → Type 0
Lifetimes T = Lfts T.signature.lifetimes

abbrev pub Input : (T : Ended) → Lifetimes T → Type 0
Input T κs = Args T.signature κs

abbrev pub Answer : (T : Ended) → Lifetimes T → Type 0
Answer T κs = Res T.signature κs

abbrev pub ClausesIn : Ended → Type 2
ClausesIn T = (w : World) → Clauses w.𝓤 T

abbrev pub SpecIn : Ended → Type 2
SpecIn T = (w : World) → Spec w.𝓤 T.signature

-- An outcome on the input a: the answer, and the last value of each thing lent to be written (a slice's bytes, a struct's
-- fields). What is passed otherwise has no last value: it is seen at exit as it was passed.
abbrev pub Outcome : (T : Ended) (κs : Lifetimes T) → Input T κs → Type 0
Outcome T κs a = Answer T κs × Lasts T κs a

-- An outcome is allowed where in some model what the clauses say of it holds.
pub record Allowed (T : Ended) (c : ClausesIn T) (κs : Lifetimes T) (a : Input T κs) (x : Outcome T κs a) : Type 2 where
  pub world : World
  pub ghost : (c world κs a).ghost
  pub resource : world.M
  pub says : ((c world κs a).ensures ghost x.0 (at_exit T κs a x.1)).holds resource

-- `stated`: the clauses are those of the contract that the function's theorem states.
-- `enterable`: on every input there are ghost values to choose. A contract holds for each choice of them: with none there
-- it would say nothing.
-- `any_input`: they ask nothing, so that the theorem speaks of every input.
-- `one_outcome`: any two outcomes that they allow are equal.
pub record Settled (T : Ended) (c : ClausesIn T) (s : SpecIn T) : Type 2 where
  pub stated : (w : World) → s w ≡ closing w.𝓛 T (c w)
  pub enterable : (w : World) (κs : Lifetimes T) (a : Input T κs) → (c w κs a).ghost
  pub any_input : (w : World) (κs : Lifetimes T) (a : Input T κs) (g : (c w κs a).ghost)
      → ent w.𝓤 (emp w.𝓤) ((c w κs a).requires g)
  pub one_outcome : (κs : Lifetimes T) (a : Input T κs) (x y : Outcome T κs a)
      → Allowed T c κs a x → Allowed T c κs a y → x ≡ y

-- the same of `ended`, `clauses` and `spec` as a function's module has them
abbrev pub Settles : (T : Ended)
    → ((M : Type 1) (𝓤 : Ura M) (𝓛 : Logic 𝓤) → (Memory → SProp 𝓤) → (Routine → Fun 𝓤) → Clauses 𝓤 T)
    → ((M : Type 1) (𝓤 : Ura M) (𝓛 : Logic 𝓤) → (Memory → SProp 𝓤) → (Routine → Fun 𝓤) → Spec 𝓤 T.signature)
    → Type 2
Settles T c s =
    Settled T (λ w. c w.M w.𝓤 w.𝓛 w.𝓜.mem w.𝓡.run)
    (λ w. s w.M w.𝓤 w.𝓛 w.𝓜.mem w.𝓡.run)

-- ANSWERS: RUN answers 0 exactly where it leaves the state as it was. What it services is a packet below the counter. Assumes the
-- arrays' lengths, which the types give.
use Prim.Native.Nat.{ℕ, ◌<◌}
use mathlib.Core.Path.{◌≡◌, refl, ap, subst}
use mathlib.Core.List.{List}
use mathlib.Core.Bool.{true}
use native.Mathlib.Omega.{arith}
use borrow.Author.Tests.{eqb-true}
use lib.Dec.{eqb}
use Rattle.base.specs.Bools.{cond_ok}
use Rattle.theorems.specs.Names.{Site, State, Network, Ran, Nothing, Changed, Serviced, RunRefused, AfterRun}
use Rattle.types.specs.Numbers.{answer_of}
use Rattle.model.specs.Range.{in_range}
use Rattle.model.specs.Steps.{run}
use Rattle.model.specs.Events.{run_refusal, runs, ran}
use Rattle.theorems.proofs.Networks.{Valid}
use Rattle.theorems.proofs.RangeRun.{Told, run_in}
use Rattle.theorems.proofs.RangeKept.{range_at, run_step}
use Rattle.model.specs.Shapes.{Shaped}

abbrev Quiet : State → AfterRun → Type 0
Quiet st a = (answer_of a.answer ≡ 0 → a.state ≡ st) × (a.state ≡ st → answer_of a.answer ≡ 0)

quiet : (st : State) (s k B : ℕ) (l : List Site) (a : Ran) → Told s k st.sites l a
    → Quiet st (record { answer = a; blocking = B; state = record { sites = l; counter = st.counter } })
quiet st s k B l Nothing g = (λ e. ap (λ (w : List Site). record { sites = w; counter = st.counter }) g, λ e. refl)
quiet st s k B l Changed g = (λ e. absurd (omega arith), λ e. absurd (g (ap (λ (w : State). w.sites) e)))
quiet st s k B l (Serviced q u) g = (λ e. absurd (omega arith), λ e. absurd (g.0 (ap (λ (w : State). w.sites) e)))
quiet st s k B l (RunRefused r) g = absurd g

-- RUN, refused or not, answers 0 exactly if the state is the same
pub answers : (n : Network) (st : State) (s code : ℕ) → Shaped st
    → (answer_of (ran n st s code).answer ≡ 0 → (ran n st s code).state ≡ st) ×
    ((ran n st s code).state ≡ st → answer_of (ran n st s code).answer ≡ 0)
unfolding ran
answers n st s code sh =
    cond_ok (Quiet st) (eqb (run_refusal n st s code) 0) _ _
    (λ h.
    quiet st s st.counter (runs n st s code).blocking (run n st.sites s code).sites (run n st.sites s code).answer
    (run_step n st s code sh (eqb-true (run_refusal n st s code) 0 h)).told)
    (λ h. (λ e. refl, λ e. refl))

-- a service is of a packet below the counter, at the site itself
pub served_below : (n : Network) → Valid n → (st : State) → Shaped st → in_range n st ≡ true → (s code q u : ℕ)
    → s < n.sites → (run n st.sites s code).answer ≡ Serviced q u → (q < st.counter) × (u ≡ s)
served_below n val st sh h s code q u hs e =
    let g = run_in n val st.counter st.sites (range_at n val st sh h) s hs code in
    let t = subst (λ (a : Ran). Told s st.counter st.sites (run n st.sites s code).sites a) e g.told in
    (t.1, t.2)

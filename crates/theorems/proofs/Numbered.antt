-- Packets by the number that SEND answered: no number is answered twice, and the accepted sets in the order of their sends are the
-- sets by their numbers. Assumes nothing.
use Prim.Native.Nat.{ℕ, zero, suc, ◌+◌, ◌≤◌, ◌<◌}
use mathlib.Core.Path.{◌≡◌, refl, sym, ap, ◌∙◌}
use mathlib.Core.List.{List, [], ◌∷◌}
use mathlib.Core.Bool.{cond}
use native.Mathlib.Omega.{arith}
use native.Mathlib.Nat.{zero-add}
use native.Mathlib.Decide.{ℕ_discrete}
use borrow.Author.Tests.{eq-eqb, ne_eqb}
use lib.Dec.{eqb}
use lib.ListN.{get_or}
use Rattle.base.specs.Bools.{count}
use Rattle.theorems.specs.Names.{State, Network}
use Rattle.model.specs.Types.{no_state}
use Rattle.model.specs.Events.{Event, Send, Run, sends, ran, answered, accepted_set, times_answered}
use Rattle.model.specs.Events.{accepted, if_accepted}
use Rattle.theorems.proofs.Refusals.{sent_ways, ran_counter}

-- ---- numbers below the counter are not answered any more

-- the set under number p, and how often it is answered
abbrev Unasked : Network → State → List Event → ℕ → Type 0
Unasked n st es p = (accepted_set n st es p ≡ 0) × (times_answered n st es p ≡ 0)

pub below : (n : Network) (es : List Event) (st : State) (p : ℕ) → p < st.counter → Unasked n st es p
unfolding accepted_set times_answered
below n [] st p h = (refl, refl)
below n (Send s X ∷ es) st p h =
    sent_ways
    (λ w.
    (cond (answered p w.answer) X (accepted_set n w.state es p) ≡ 0)
    × (count (answered p w.answer) + times_answered n w.state es p ≡ 0))
    n st s X
    (λ e.
    let b = below n es (sends st s X).state p (omega arith) in
    rw (ne_eqb st.counter p (λ a. omega arith)) (b.0, omega (arith, b.1)))
    (λ f e. let b = below n es st p h in rw e (b.0, omega (arith, b.1)))
below n (Run s code ∷ es) st p h =
    let b = below n es (ran n st s code).state p (omega (arith, ran_counter n st s code, h)) in
    (b.0, omega (arith, b.1))

-- ---- a number is answered at most once

once_more : (k p later : ℕ) → later ≤ 1 → (k ≡ p → later ≡ 0) → count (eqb k p) + later ≤ 1
once_more k p later h z = go (ℕ_discrete k p)
  where
    go : Dec (k ≡ p) → count (eqb k p) + later ≤ 1
    go (yes a) = rw (eq-eqb k p a) (omega (arith, z a))
    go (no a) = rw (ne_eqb k p a) (omega (arith, h))

pub answered_once : (n : Network) (es : List Event) (st : State) (p : ℕ) → times_answered n st es p ≤ 1
unfolding times_answered
answered_once n [] st p = omega arith
answered_once n (Send s X ∷ es) st p =
    let st₁ = (sends st s X).state in
    sent_ways (λ w. count (answered p w.answer) + times_answered n w.state es p ≤ 1) n st s X
    (λ e.
    once_more st.counter p (times_answered n st₁ es p) (answered_once n es st₁ p)
    (λ a. (below n es st₁ p (omega (arith, a))).1))
    (λ f e. rw e (omega (arith, answered_once n es st p)))
answered_once n (Run s code ∷ es) st p = omega (arith, answered_once n es (ran n st s code).state p)

-- ---- the sets in the order of their sends, from the counter on

next_place : (k m X later : ℕ) (l : List ℕ) → ((m' : ℕ) → m ≡ suc m' → later ≡ get_or l m' 0)
    → cond (eqb k (k + m)) X later ≡ get_or (X ∷ l) m 0
next_place k zero X later l h = rw (eq-eqb k (k + 0) (omega arith)) refl
next_place k (suc m) X later l h = rw (ne_eqb k (k + suc m) (λ a. omega arith)) (h m refl)

pub placed : (n : Network) (es : List Event) (st : State) (m : ℕ) → accepted_set n st es (st.counter + m) ≡ get_or (accepted n st es) m 0
unfolding accepted_set accepted
placed n [] st m = refl
placed n (Send s X ∷ es) st m =
    let st₁ = (sends st s X).state in
    let k = st.counter in
    sent_ways
    (λ w.
    cond (answered (k + m) w.answer) X (accepted_set n w.state es (k + m))
    ≡ get_or (if_accepted w.answer X (accepted n w.state es)) m 0)
    n st s X
    (λ e.
    next_place k m X (accepted_set n st₁ es (k + m)) (accepted n st₁ es)
    (λ m' a. ap (λ (p : ℕ). accepted_set n st₁ es p) (omega (arith, a)) ∙ placed n es st₁ m'))
    (λ f e. rw e (placed n es st m))
placed n (Run s code ∷ es) st m =
    ap (λ (k : ℕ). accepted_set n (ran n st s code).state es (k + m)) (sym (ran_counter n st s code))
    ∙ placed n es (ran n st s code).state m

-- from the empty state
pub placed_once : (n : Network) (es : List Event) (p : ℕ) → accepted_set n no_state es p ≡ get_or (accepted n no_state es) p 0
placed_once n es p = rw (zero-add p) at (placed n es no_state p)

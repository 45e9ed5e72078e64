-- A net-input's rule by its state, as the code decides. Assumes nothing.
use mathlib.Core.Path.{◌≡◌, refl, ap}
use mathlib.Core.List.{List}
use mathlib.Core.Bool.{Bool, true, false, cond, not}
use lib.Dec.{eqb}
use Prim.Native.Nat.{ℕ, zero, suc, ◌<◌}
use native.Mathlib.Omega.{arith}
use Rattle.base.specs.Sizes.{output_count}
use Rattle.base.specs.Over.{over_same}
use Rattle.types.specs.declared.Connection.{Connection}
use Rattle.types.specs.declared.Received.{Received}
use Rattle.types.specs.declared.Phase.TheVariants.{the_data as Phase, Free, Seek, Open, Wait, Done, Last, Abort as Aborted, FinAbort}
use Rattle.types.specs.declared.Input.{Input}
use Rattle.types.specs.declared.Output.{Output}
use Rattle.types.specs.declared.Network.{Network}
use Rattle.types.specs.Numbers.{state_number}
use Rattle.model.specs.Router.{Choice, Chosen, Unserved, route}
use Rattle.model.specs.NetInput.{Stay, table, give, seek, in_state, net_input}
use Rattle.rules.specs.Turns.{table_row, given_at, ended_at, to_choice, other_turn, no_network}
use Rattle.rules.specs.Router.{of_choice}

-- the table's row gives what the table gives
row_at : (r : Received) (c : Connection) (j : ℕ) → j < output_count → given_at (table_row r c) j ≡ table r c j
row_at r c zero h = refl
row_at r c (suc zero) h = refl
row_at r c (suc (suc zero)) h = refl
row_at r c (suc (suc (suc zero))) h = refl
row_at r c (suc (suc (suc (suc zero)))) h = refl
row_at r c (suc (suc (suc (suc (suc zero))))) h = refl
row_at r c (suc (suc (suc (suc (suc (suc j)))))) h = absurd (omega arith)

pub give_row : (r : Received) (c : Connection) (bs : List Bool) (os : List Output)
    → give (given_at (table_row r c)) bs os ≡ give (table r c) bs os
unfolding give
give_row r c bs os = over_same _ _ output_count os (λ j h. ap (λ k. ended_at (λ i. k) bs os j) (row_at r c j h))

pub cond_not : {A : Type 0} (b : Bool) (x z : A) → cond (not b) x z ≡ cond b z x
cond_not true x z = refl
cond_not false x z = refl

-- the state of number 1
pub only_seek : (ph : Phase) → state_number ph ≡ 1 → ph ≡ Seek
only_seek Free e = absurd (omega arith)
only_seek Seek e = refl
only_seek (Open c) e = absurd (omega arith)
only_seek (Wait c) e = absurd (omega arith)
only_seek (Done c r) e = absurd (omega arith)
only_seek (Last c r) e = absurd (omega arith)
only_seek (Aborted c) e = absurd (omega arith)
only_seek (FinAbort c r) e = absurd (omega arith)

-- ---- the rule of every state but seek, and that of seek, as the model's rule of a net-input

module _ (y : Input) (os : List Output) (isReady : ℕ → Bool) (n : Network) (s i : ℕ) where
  other_state : (ph : Phase) → (state_number ph ≡ 1 → ⊥)
      → cond (eqb (state_number ph) 1) Stay (in_state no_network 0 0 y os isReady ph) ≡ in_state n s i y os isReady ph
  unfolding in_state
  other_state Free h = refl
  other_state Seek h = absurd (h refl)
  other_state (Open c) h = refl
  other_state (Wait c) h = refl
  other_state (Done c r) h = refl
  other_state (Last c r) h = refl
  other_state (Aborted c) h = refl
  other_state (FinAbort c r) h = refl

  pub other_is : (state_number y.phase ≡ 1 → ⊥) → other_turn y os isReady ≡ net_input n s i y os isReady
  unfolding other_turn
  other_is h = other_state y.phase h

  pub seek_is : state_number y.phase ≡ 1 → net_input n s i y os isReady ≡ seek n.tries i y os (route n s os y.set)
  unfolding in_state
  seek_is e = rw (only_seek y.phase e) refl

-- the router's choice, as the code's answer and back
pub choice_back : (c : Choice) → to_choice (of_choice c) ≡ c
choice_back (Chosen c sets) = refl
choice_back Unserved = refl

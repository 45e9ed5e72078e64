-- A rule of a net-input over the outputs with a mark alone leaves what it leaves over all of them. Assumes what each law names.
use mathlib.Core.Path.{◌≡◌, refl, sym, ap, ap₂, ◌∙◌}
use mathlib.Core.List.{List}
use mathlib.Core.Logic.{◌≢◌}
use mathlib.Core.Bool.{Bool, true, false, cond, ◌&&◌}
use Prim.Native.Nat.{ℕ, zero, suc, ◌<◌}
use native.Mathlib.Omega.{arith}
use lib.Dec.{eqb, ltb}
use lib.ListN.{length, get_or, set, length-set}
use lib.Seq.{ext_get_or, get_or-set_same, get_or-set_other}
use Rattle.base.specs.Bools.{clash}
use Rattle.base.specs.Lists.{same_at}
use Rattle.base.specs.Over.{over, over_below, length_over}
use Rattle.base.specs.Sizes.{output_count}
use Rattle.types.specs.Numbers.{state_number}
use Rattle.draws.specs.Draws.{restricted}
use Rattle.types.specs.Phases.{as_terminator, splits}
use Rattle.types.specs.declared.Connection.TheVariants.{the_data as Connection, Handed}
use Rattle.types.specs.declared.Terminator.TheVariants.{the_data as Terminator, Abort as t_abort}
use Rattle.types.specs.declared.Phase.TheVariants.{the_data as Phase, Free, Seek, Open, Wait, Done, Last, Abort as Aborted, FinAbort}
use Rattle.types.specs.declared.Input.{Input}
use Rattle.types.specs.declared.Output.{Output}
use Rattle.types.specs.declared.InQueue.{InQueue}
use Rattle.types.specs.declared.Network.{Network}
use Rattle.model.specs.Types.{no_marks, no_input, no_output, out_of, mark, in_phase, out_term}
use Rattle.model.specs.Router.{Choice, Chosen, Unserved, unchosen, is_empty, is_chosen}
use Rattle.model.specs.NetInput.{Turn, Stay, To, table, give, taken, occupy, marks_of, opened, tried_again, seek, all_ready, in_state}
use Rattle.model.specs.Places.{last_lacks, stalled, remote, cut_off, cut_at, timeout}
use Rattle.layout.proofs.Rows.{get_d_rows, length_rows}
use Rattle.rules.specs.Turns.{of_input_turn}
use Rattle.words.specs.Events.{input_back}
use Rattle.words.specs.Marked.{masked, merged, merged_turn, zeroth, touched, opens, opening, cutting}

-- ---- the outputs one by one

module _ (bs : List Bool) (os : List Output) where
  pub masked_at : (j : ℕ) → j < output_count → out_of (masked bs os) j ≡ cond (mark bs j) (out_of os j) no_output
  unfolding masked
  masked_at j h = get_d_rows output_count (λ j. cond (mark bs j) (out_of os j) no_output) j no_output h

  pub length_masked : length (masked bs os) ≡ output_count
  unfolding masked
  length_masked = length_rows output_count (λ j. cond (mark bs j) (out_of os j) no_output)

-- a list that has the marked outputs of l and the others of os
pub merged_is : (bs : List Bool) (l os k : List Output) → length os ≡ output_count → length k ≡ output_count
    → ((j : ℕ) → j < output_count → cond (mark bs j) (out_of l j) (out_of os j) ≡ out_of k j) → merged bs l os ≡ k
unfolding merged
merged_is bs l os k ho hk e =
    let f : ℕ → Output = λ j. cond (mark bs j) (out_of l j) (out_of os j) in
    let z = length_over f output_count os in
    ext_get_or no_output (over f output_count os) k (z ∙ ho ∙ sym hk)
    (λ j h. over_below f output_count os j no_output (omega arith) (omega arith) ∙ e j (omega arith))

-- no marks
pub merged_none : (l os : List Output) → length os ≡ output_count → merged no_marks l os ≡ os
merged_none l os h =
    merged_is no_marks l os os h h (λ j k. ap (λ (b : Bool). cond b (out_of l j) (out_of os j)) (same_at output_count j false))

-- the terminators given to outputs that are marked in rs, each of them marked in bs
module _ (given : ℕ → Terminator) (rs : List Bool) where
  pub give_at : (os : List Output) → length os ≡ output_count → (j : ℕ) → j < output_count
      → out_of (give given rs os) j ≡ cond (mark rs j) (out_term (out_of os j) (given j)) (out_of os j)
  unfolding give
  give_at os ho j h =
      over_below (λ j. cond (mark rs j) (out_term (out_of os j) (given j)) (out_of os j)) output_count os j no_output h (omega arith)

  length_give : (os : List Output) → length (give given rs os) ≡ length os
  unfolding give
  length_give os = length_over (λ j. cond (mark rs j) (out_term (out_of os j) (given j)) (out_of os j)) output_count os

  one_given : (b r : Bool) (o : Output) (h : Terminator) → (r ≡ true → b ≡ true)
      → cond b (cond r (out_term (cond b o no_output) h) (cond b o no_output)) o ≡ cond r (out_term o h) o
  one_given true r o h e = refl
  one_given false true o h e = absurd (clash (sym (e refl)))
  one_given false false o h e = refl

  pub merged_give : (bs : List Bool) (os : List Output) → length os ≡ output_count
      → ((j : ℕ) → j < output_count → mark rs j ≡ true → mark bs j ≡ true)
      → merged bs (give given rs (masked bs os)) os ≡ give given rs os
  merged_give bs os ho within =
      merged_is bs _ os _ ho (length_give os ∙ ho)
      (λ j h.
      ap (λ (o : Output). cond (mark bs j) o (out_of os j))
      (give_at (masked bs os) (length_masked bs os) j h
      ∙ ap (λ (o : Output). cond (mark rs j) (out_term o (given j)) o) (masked_at bs os j h))
      ∙ one_given (mark bs j) (mark rs j) (out_of os j) (given j) (within j h) ∙ sym (give_at os ho j h))

-- output 0 changed
pub merged_zeroth : (v : Output → Output) (os : List Output) → length os ≡ output_count
    → merged zeroth (set (masked zeroth os) 0 (v (out_of (masked zeroth os) 0))) os ≡ set os 0 (v (out_of os 0))
merged_zeroth v os ho =
    let ms = masked zeroth os in
    let hm = length_masked zeroth os in
    merged_is zeroth _ os _ ho (length-set os 0 _ ∙ ho) (λ j h. go j h ms hm (masked_at zeroth os 0 (omega arith)))
  where
    go : (j : ℕ) → j < output_count → (ms : List Output) → length ms ≡ output_count → out_of ms 0 ≡ out_of os 0
        → cond (mark zeroth j) (out_of (set ms 0 (v (out_of ms 0))) j) (out_of os j) ≡ out_of (set os 0 (v (out_of os 0))) j
    go zero h ms hm e =
        get_or-set_same ms 0 _ no_output (omega arith) ∙ ap v e ∙ sym (get_or-set_same os 0 _ no_output (omega arith))
    go (suc j) h ms hm e =
        ap (λ (b : Bool). cond b (out_of (set ms 0 (v (out_of ms 0))) (suc j)) (out_of os (suc j)))
        (get_or-set_other no_marks 0 (suc j) true false (λ z. omega arith) ∙ same_at output_count (suc j) false)
        ∙ sym (get_or-set_other os 0 (suc j) _ no_output (λ z. omega arith))

-- outputs taken
pub marks_at : (sets : List ℕ) (j : ℕ) → j < output_count → mark (marks_of sets) j ≡ is_chosen sets j
unfolding marks_of
marks_at sets j h = over_below (is_chosen sets) output_count no_marks j false h (omega arith)

module _ (q i : ℕ) (sets : List ℕ) where
  occupied_at : (os : List Output) → length os ≡ output_count → (j : ℕ) → j < output_count
      → out_of (occupy q i sets os) j ≡ cond (is_chosen sets j) (taken q i (get_or sets j 0)) (out_of os j)
  unfolding occupy
  occupied_at os ho j h =
      over_below (λ j. cond (is_chosen sets j) (taken q i (get_or sets j 0)) (out_of os j)) output_count os j no_output h (omega arith)

  length_occupy : (os : List Output) → length (occupy q i sets os) ≡ length os
  unfolding occupy
  length_occupy os = length_over (λ j. cond (is_chosen sets j) (taken q i (get_or sets j 0)) (out_of os j)) output_count os

  one_taken : (b : Bool) (t w o : Output) → cond b (cond b t w) o ≡ cond b t o
  one_taken true t w o = refl
  one_taken false t w o = refl

  merged_occupy : (ws os : List Output) → length ws ≡ output_count → length os ≡ output_count
      → merged (marks_of sets) (occupy q i sets ws) os ≡ occupy q i sets os
  merged_occupy ws os hw ho =
      merged_is (marks_of sets) _ os _ ho (length_occupy os ∙ ho)
      (λ j h.
      ap₂ (λ (b : Bool) (o : Output). cond b o (out_of os j)) (marks_at sets j h) (occupied_at ws hw j h)
      ∙ one_taken (is_chosen sets j) (taken q i (get_or sets j 0)) (out_of ws j) (out_of os j) ∙ sym (occupied_at os ho j h))

-- nothing changed
one_kept : (b : Bool) (o : Output) → cond b (cond b o no_output) o ≡ o
one_kept true o = refl
one_kept false o = refl

merged_same : (bs : List Bool) (os : List Output) → length os ≡ output_count → merged bs (masked bs os) os ≡ os
merged_same bs os ho =
    merged_is bs _ os os ho ho
    (λ j h. ap (λ (o : Output). cond (mark bs j) o (out_of os j)) (masked_at bs os j h) ∙ one_kept (mark bs j) (out_of os j))

-- ---- the rules

abbrev Turned : Type 0
Turned = Turn Input (List Output)

to : (z : Input) (l k : List Output) → l ≡ k → ◌≡◌ {A = Turned} (To z l) (To z k)
to z l k e = ap (To z) e

merged_if : (bs : List Bool) (os : List Output) (b : Bool) (z : Input) (l k : List Output) → merged bs l os ≡ k
    → merged_turn bs os (cond b (To z l) Stay) ≡ cond b (To z k) Stay
merged_if bs os true z l k e = ap (To z) e
merged_if bs os false z l k e = refl

merged_unless : (bs : List Bool) (os : List Output) (b : Bool) (z : Input) (l k : List Output) → merged bs l os ≡ k
    → merged_turn bs os (cond b Stay (To z l)) ≡ cond b Stay (To z k)
merged_unless bs os true z l k e = refl
merged_unless bs os false z l k e = ap (To z) e

merged_either : (bs : List Bool) (os : List Output) (b : Bool) (z z' : Input) (l k l' k' : List Output) → merged bs l os ≡ k → merged bs l' os ≡ k'
    → merged_turn bs os (cond b (To z l) (To z' l')) ≡ cond b (To z k) (To z' k')
merged_either bs os true z z' l k l' k' e f = ap (To z) e
merged_either bs os false z z' l k l' k' e f = ap (To z') f

-- a net-input in another state than seek
module _ (n : Network) (s i : ℕ) (y : Input) (os : List Output) (isReady : ℕ → Bool) (ho : length os ≡ output_count) where
  abbrev every : Bool
  every = all_ready isReady y.outputs

  pub other_merged : (ph : Phase) → state_number ph ≢ 1
      → let bs = touched ph y.outputs in merged_turn bs os (in_state n s i y (masked bs os) isReady ph) ≡ in_state n s i y os isReady ph
  unfolding in_state
  other_merged Free h = refl
  other_merged Seek h = absurd (h refl)
  other_merged (Open c) h = merged_unless no_marks os every (in_phase y (Wait c)) (masked no_marks os) os (merged_none _ os ho)
  other_merged (Wait c) h = merged_if no_marks os every (in_phase y (Open c)) (masked no_marks os) os (merged_none _ os ho)
  other_merged (Done c r) h =
      let bs = y.outputs in
      merged_either bs os every no_input (in_phase y (Last c r)) (give (table r c) bs (masked bs os)) (give (table r c) bs os) (masked bs os) os
      (merged_give (table r c) bs bs os ho (λ j k e. e)) (merged_same bs os ho)
  other_merged (Last c r) h = merged_if no_marks os every (in_phase y (Done c r)) (masked no_marks os) os (merged_none _ os ho)
  other_merged (Aborted c) h = refl
  other_merged (FinAbort c r) h =
      let v : Output → Output = λ o. out_term o (as_terminator r) in
      let ms = masked zeroth os in
      merged_if zeroth os (isReady 0) no_input (set ms 0 (v (out_of ms 0))) (set os 0 (v (out_of os 0))) (merged_zeroth v os ho)

-- the router's answer to a net-input in seek, from outputs ws of which output 0 is empty if it is so in os
abbrev pub merged_opening : List Output → Turned → Turned
merged_opening os Stay = Stay
merged_opening os (To z l) = To z (merged (opens z) l os)

-- as the code says it
pub opening_turn : (os : List Output) (t : Turned) → merged_turn (opening (of_input_turn t)) os (input_back (of_input_turn t)) ≡ merged_opening os t
opening_turn os Stay = refl
opening_turn os (To z l) = refl

module _ (T i : ℕ) (y : Input) (ws os : List Output) (hw : length ws ≡ output_count) (ho : length os ≡ output_count)
    (own : is_empty ws 0 ≡ is_empty os 0) (seeks : state_number y.phase ≡ 1) where
  opened_merged : (c : Connection) (sets : List ℕ) → merged_opening os (opened i y ws c sets) ≡ opened i y os c sets
  opened_merged c sets = to _ _ _ (merged_occupy y.packet i sets ws os hw ho)

  handed_merged : (b : Bool) (sets : List ℕ) → merged_opening os (cond b (opened i y ws Handed sets) Stay) ≡ cond b (opened i y os Handed sets) Stay
  handed_merged true sets = opened_merged Handed sets
  handed_merged false sets = refl

  unserved_merged : (b : Bool) (t u : Turned) → merged_opening os t ≡ u
      → merged_opening os (cond b (To (tried_again y) ws) t) ≡ cond b (To (tried_again y) os) u
  unserved_merged true t u e =
      ap (λ (m : ℕ). To (tried_again y) (merged (cond (eqb m 2) y.outputs no_marks) ws os)) seeks ∙ ap (To (tried_again y)) (merged_none ws os ho)
  unserved_merged false t u e = e

  pub sought_merged : (ch : Choice) → merged_opening os (seek T i y ws ch) ≡ seek T i y os ch
  unfolding seek
  sought_merged (Chosen c sets) = opened_merged c sets
  sought_merged Unserved =
      let sets = set unchosen 0 y.set in
      unserved_merged (ltb y.tries T) _ _
      (handed_merged (is_empty ws 0) sets ∙ ap (λ (b : Bool). cond b (opened i y os Handed sets) Stay) own)

-- the timeout
module _ (edition : ℕ) (iq : InQueue) (os : List Output) (y : Input) (ho : length os ≡ output_count) (hy : length y.outputs ≡ output_count) where
  abbrev bs : List Bool
  bs = cutting y.outputs

  remote_within : (j : ℕ) → j < output_count → mark (remote y.outputs) j ≡ true → mark bs j ≡ true
  remote_within zero h e = absurd (clash (sym (sym (get_or-set_same y.outputs 0 false false (omega arith)) ∙ e)))
  remote_within (suc j) h e =
      get_or-set_other y.outputs 0 (suc j) true false (λ z. omega arith)
      ∙ sym (get_or-set_other y.outputs 0 (suc j) false false (λ z. omega arith)) ∙ e

  cut_merged : (b : Bool) (ph : Phase) → merged_turn bs os (cond b (cut_off y (masked bs os) ph) Stay) ≡ cond b (cut_off y os ph) Stay
  cut_merged true ph = to _ _ _ (merged_give (λ j. t_abort) (remote y.outputs) bs os ho remote_within)
  cut_merged false ph = refl

  cuts_merged : (ph : Phase) → merged_turn bs os (cut_at y (masked bs os) ph) ≡ cut_at y os ph
  unfolding cut_at
  cuts_merged Free = refl
  cuts_merged Seek = refl
  cuts_merged (Open c) = cut_merged (splits c) (Aborted c)
  cuts_merged (Wait c) = cut_merged (splits c) (Aborted c)
  cuts_merged (Done c r) = cut_merged (splits c) (FinAbort c r)
  cuts_merged (Last c r) = cut_merged (splits c) (FinAbort c r)
  cuts_merged (Aborted c) = refl
  cuts_merged (FinAbort c r) = refl

  own_seen : out_of (masked bs os) 0 ≡ out_of os 0
  own_seen =
      masked_at bs os 0 (omega arith)
      ∙ ap (λ (b : Bool). cond b (out_of os 0) no_output) (get_or-set_same y.outputs 0 true false (omega arith))

  timed : (r b : Bool) (ms : List Output) → merged_turn bs os (cut_at y ms y.phase) ≡ cut_at y os y.phase
      → merged_turn bs os (cond r Stay (cond b (cut_at y ms y.phase) Stay)) ≡ cond r Stay (cond b (cut_at y os y.phase) Stay)
  timed true b ms e = refl
  timed false true ms e = e
  timed false false ms e = refl

  pub timeout_merged : merged_turn bs os (timeout edition iq (masked bs os) y) ≡ timeout edition iq os y
  timeout_merged =
      timed (restricted edition) (last_lacks iq && stalled (out_of (masked bs os) 0)) (masked bs os) (cuts_merged y.phase)
      ∙ ap (λ (o : Output). cond (restricted edition) Stay (cond (last_lacks iq && stalled o) (cut_at y os y.phase) Stay)) own_seen

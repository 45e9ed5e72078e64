-- The rules of a net-input keep in range the input and the outputs that they change, and change the input.
-- Assumes of the network only its number of sites, where the router is asked.
use Prim.Native.Nat.{ℕ, zero, suc, ◌+◌, ◌^◌, ◌≤◌, ◌<◌}
use mathlib.Core.Path.{◌≡◌, refl, sym, ap, ◌∙◌, subst}
use mathlib.Core.List.{List}
use mathlib.Core.Bool.{Bool, true, false, cond, not}
use native.Mathlib.Omega.{arith}
use borrow.Author.Tests.{ltb-true, ne_eqb, not-true}
use lib.Dec.{ltb, eqb-suc-zero}
use lib.ListN.{get_or, set, length, length-set}
use lib.Pow.{pow_pos}
use Rattle.base.specs.Sizes.{sites_most, input_count, output_count, split_port}
use Rattle.base.specs.Bools.{clash, cond_ok, either_way, pick_at}
use Rattle.base.specs.All.{any_by}
use Rattle.base.specs.Lists.{all_set}
use Rattle.theorems.specs.Names.{Connection, Unicast, Passthru, AllRemote, SomeLocal, Handed, Branch, Received, got_end, got_abort}
use Rattle.theorems.specs.Names.{Terminator, t_end, t_abort, t_keep, Phase, Free, Seek, Open, Wait, Done, Last, Aborted}
use Rattle.theorems.specs.Names.{FinAbort, Input, Output, Network}
use Rattle.model.specs.Types.{no_marks, no_input, no_output, out_of, mark, in_phase, out_term}
use Rattle.types.specs.Numbers.{state_number}
use Rattle.types.specs.Phases.{splits, branches, is_keep, as_terminator}
use Rattle.draws.specs.Draws.{restricted}
use Rattle.model.specs.Range.{connection_in}
use Rattle.model.specs.Router.{Choice, Chosen, Unserved, unchosen, is_empty, is_chosen, route}
use Rattle.model.specs.NetInput.{Turn, To, all_ready, table, give, taken, marks_of, opened, seek, in_state}
use Rattle.theorems.proofs.RouterGather.{zeros, chosen_at}
use Rattle.theorems.proofs.RouterChoices.{Routed, ChoiceOk, ChoiceWithin, ChoiceIn, only_ok}
use Rattle.theorems.proofs.RouterLaws.{route_ok_lem, route_within, route_in}
use Rattle.theorems.proofs.OutputReads.{length_give, give_ok, length_occupy, occupy_at, occupy_ok, length_marks, mark_at}
use Rattle.theorems.proofs.Invariant.{Fed}
use Rattle.theorems.proofs.RangeTests.{Tagged, InputAt, InputBy, InputIn, OutputIn, no_marks_lem}
use Rattle.theorems.proofs.RangeSites.{no_kind, blank_in, seek_in}
use Rattle.theorems.proofs.RangePlaces.{TurnIn, used_out}

-- outputs changed on behalf of input i: each in range, and those of another input still fed by it
pub record OutputsTo (n : Network) (k i : ℕ) (os os' : List Output) : Type 0 where
  pub full : length os' ≡ output_count
  pub each : (j : ℕ) → OutputIn n k j (out_of os' j)
  pub others : (m : ℕ) → (m ≡ i → ⊥) → (j : ℕ) → Fed m (out_of os j) → Fed m (out_of os' j)

-- input i and the outputs, y and os before, v and os' after
pub record InputOutputsTo (n : Network) (k i : ℕ) (y : Input) (os : List Output) (v : Input)
    (os' : List Output) : Type 0 where
  pub outs : OutputsTo n k i os os'
  pub inn : InputIn n k i (out_of os') v
  pub moved : v ≡ y → ⊥

-- keep-local is given to output 0 alone
table_keep : (r : Received) (c : Connection) (j : ℕ) → is_keep (table r c j) ≡ true → j ≡ 0
table_keep r c zero e = refl
table_keep got_abort c (suc j) e = absurd (clash (sym e))
table_keep got_end Unicast (suc j) e = absurd (clash (sym e))
table_keep got_end Passthru (suc j) e = absurd (clash (sym e))
table_keep got_end Handed (suc j) e = absurd (clash (sym e))
table_keep got_end Branch (suc j) e = absurd (clash (sym e))
table_keep got_end AllRemote (suc j) e = absurd (clash (sym e ∙ ap (λ b. is_keep (cond b t_abort t_end)) (eqb-suc-zero j)))
table_keep got_end SomeLocal (suc j) e = absurd (clash (sym e ∙ ap (λ b. is_keep (cond b t_keep t_end)) (eqb-suc-zero j)))

received_keep : (r : Received) → is_keep (as_terminator r) ≡ true → ⊥
received_keep got_end e = clash (sym e)
received_keep got_abort e = clash (sym e)

module _ (n : Network) (k i : ℕ) (y : Input) (os : List Output) (hi : i < input_count) (full : length os ≡ output_count)
    (ok : InputIn n k i (out_of os) y) (outs : (j : ℕ) → OutputIn n k j (out_of os j)) where
  abbrev pub Kept : Turn Input (List Output) → Type 0
  Kept = TurnIn (InputOutputsTo n k i y os)

  -- the input's facts at its state
  pub at_phase : (ph : Phase) → y.phase ≡ ph
      → InputBy n k i ph y.packet y.set y.tries y.outputs (out_of os)
  at_phase ph e = subst (λ h. InputBy n k i h y.packet y.set y.tries y.outputs (out_of os)) e ok

  pub other_phase : (ph : Phase) (v : Input) → y.phase ≡ ph → (state_number v.phase ≡ state_number ph → ⊥) → v ≡ y → ⊥
  other_phase ph v e h a = h (ap (λ (w : Input). state_number w.phase) a ∙ ap state_number e)

  same_outs : OutputsTo n k i os os
  same_outs = record { full = full; each = outs; others = λ m ne j f. f }

  -- a state changed; the input freed
  move : (ph ph' : Phase) → y.phase ≡ ph → (state_number ph' ≡ state_number ph → ⊥)
      → InputIn n k i (out_of os) (in_phase y ph') → Kept (To (in_phase y ph') os)
  move ph ph' e ne h = record { outs = same_outs; inn = h; moved = other_phase ph (in_phase y ph') e ne }

  free_in : (ph : Phase) (os' : List Output) → y.phase ≡ ph → (0 ≡ state_number ph → ⊥) → OutputsTo n k i os os'
      → Kept (To no_input os')
  free_in ph os' e ne out =
      let inn = blank_in n k i no_marks (out_of os') (λ l. refl) no_marks_lem in
      record { outs = out; inn = inn; moved = other_phase ph no_input e ne }

  -- ---- terminators given

  term_out : (j : ℕ) (t : Terminator) → Fed i (out_of os j) → (is_keep t ≡ true → j ≡ 0)
      → OutputIn n k j (out_term (out_of os j) t)
  term_out j t f kp =
      let u = f.used in
      used_out n k j (out_term (out_of os j) t) u ((outs j).tagged u) ((outs j).from u) kp
      (λ c. absurd (clash (sym c ∙ f.stays))) ((outs j).split u)

  pub give_outs : (f : ℕ → Terminator) (bs : List Bool)
      → ((j : ℕ) → j < output_count → mark bs j ≡ true → Fed i (out_of os j))
      → ((j : ℕ) → is_keep (f j) ≡ true → j ≡ 0) → OutputsTo n k i os (give f bs os)
  give_outs f bs fed kp =
      record {
        full = length_give f bs os full;
        each =
            λ j. give_ok f bs os full (λ o. OutputIn n k j o) j (λ l m. term_out j (f j) (fed j l m) (kp j)) (outs j);
        others = λ m ne j g. give_ok f bs os full (Fed m) j (λ l e. absurd (ne (sym g.from ∙ (fed j l e).from))) g;
      }

  -- output 0 alone
  zeroth_outs : (t : Terminator) → Fed i (out_of os 0) → OutputsTo n k i os (set os 0 (out_term (out_of os 0) t))
  zeroth_outs t f =
      record {
        full = length-set os 0 (out_term (out_of os 0) t) ∙ full;
        each =
            all_set (λ j o. OutputIn n k j o) os 0 (out_term (out_of os 0) t) no_output (term_out 0 t f (λ e. refl)) outs;
        others =
            λ m ne.
            all_set (λ j o. Fed m (out_of os j) → Fed m o) os 0 (out_term (out_of os 0) t) no_output
            (λ g. absurd (ne (sym g.from ∙ f.from))) (λ j g. g);
      }

  -- ---- the router's choice put to work

  opened_in : (s : ℕ) (c : Connection) (sets : List ℕ) → y.phase ≡ Seek → Routed s y.set os c sets
      → ((j : ℕ) → get_or sets j 0 < 2 ^ n.sites) → connection_in n.edition (Open c) ≡ true → Kept (opened i y os c sets)
  opened_in s c sets e r low kind =
      record {
        outs =
            record {
              full = length_occupy q i sets os full;
              each =
                  λ j.
                  occupy_ok q i sets os full (λ o. OutputIn n k j o) j
                  (λ l a.
                  used_out n k j (taken q i (get_or sets j 0)) refl
                  (record { under = tag.under; some = omega (arith, chosen_at sets j a); within = low j }) hi
                  (λ z. absurd (clash (sym z))) (λ z. absurd (clash (sym z))) (λ p. third (rw p at a)))
                  (outs j);
              others =
                  λ m ne j f.
                  occupy_ok q i sets os full (Fed m) j
                  (λ l a.
                  absurd (clash (sym f.used ∙ not-true (out_of os j).used (r.free j (chosen_at sets j a)))))
                  f;
            };
        inn =
            record {
              full = λ l. length_marks sets;
              tries = here.tries;
              blank = λ z. absurd (clash (sym z));
              tagged = λ z. tag;
              marks =
                  let w = r.some in
                  any_by (mark (marks_of sets)) w.0 output_count w.1
                  (mark_at sets w.0 w.1 ∙ chosen w.0 w.2);
              fed =
                  λ j l m.
                  rw (occupy_at q i sets os full j l, sym (mark_at sets j l) ∙ m)
                  (record { used = refl; from = refl; bare = refl; stays = refl });
              zeroth =
                  λ sp. mark_at sets 0 (omega arith) ∙ chosen 0 (λ z. let x = r.zeroth sp in omega (arith, tag.some));
              sole = λ z. absurd (clash (sym z));
              parted = mark_at sets split_port (omega arith) ∙ r.split;
              kind = kind;
            };
        moved = other_phase Seek _ e (λ a. omega arith);
      }
    where
      q : ℕ
      q = y.packet

      here : InputAt n k i false false false false false y.packet y.set y.tries y.outputs (out_of os)
      here = at_phase Seek e

      tag : Tagged n k y.packet y.set
      tag = here.tagged refl

      chosen : (j : ℕ) → (get_or sets j 0 ≡ 0 → ⊥) → is_chosen sets j ≡ true
      chosen j h = ap not (ne_eqb (get_or sets j 0) 0 h)

      -- the split output is chosen by connection 6, which edition 3 alone has
      third : is_chosen sets split_port ≡ true → restricted n.edition ≡ true
      third a =
          either_way (restricted n.edition) (λ h. h)
          (λ h.
          let w = (pick_at (restricted n.edition) (not (splits c)) (not (branches c)) kind).1 h in
          absurd (clash (sym a ∙ r.split ∙ not-true (branches c) w)))

  seek_kept : (s : ℕ) (r : Choice) → y.phase ≡ Seek → ChoiceOk s y.set os r → ChoiceWithin n.sites r
      → ChoiceIn n.edition r → Kept (seek n.tries i y os r)
  unfolding seek
  seek_kept s (Chosen c sets) e h low kind = opened_in s c sets e h low kind
  seek_kept s Unserved e h low kind =
      let here : InputAt n k i false false false false false y.packet y.set y.tries y.outputs (out_of os) =
      at_phase Seek e in
      let tag = here.tagged refl in
      cond_ok Kept (ltb y.tries n.tries) _ _
      (λ a.
      record {
        outs = same_outs;
        inn =
            subst (λ h. InputBy n k i h y.packet y.set (y.tries + 1) y.outputs (out_of os)) (sym e)
            (seek_in n k i y.packet y.set (y.tries + 1) y.outputs (out_of os) here.full here.marks tag
            (omega (arith, ltb-true y.tries n.tries a)));
        moved = λ b. let z = ap (λ (v : Input). v.tries) b in omega arith;
      })
      (λ a.
      cond_ok Kept (is_empty os 0) _ _
      (λ b.
      opened_in s Handed (set unchosen 0 y.set) e
      (only_ok s y.set os Handed 0 (λ j. refl) refl refl (λ z. omega (arith, tag.some)) (omega arith) b)
      (all_set (λ j z. z < 2 ^ n.sites) unchosen 0 y.set 0 tag.within
      (λ j. omega (arith, zeros j, pow_pos n.sites)))
      (no_kind n.edition))
      (λ b. tt))

  -- ---- a net-input by its state

  pub in_state_in : n.sites ≤ sites_most → (s : ℕ) → s < n.sites → (isReady : ℕ → Bool) (ph : Phase) → y.phase ≡ ph
      → Kept (in_state n s i y os isReady ph)
  unfolding in_state
  in_state_in few s hs isReady Free e = tt
  in_state_in few s hs isReady Seek e =
      let tag = (at_phase Seek e).tagged refl in
      seek_kept s (route n s os y.set) e
      (route_ok_lem n s y.set os few hs (λ z. omega (arith, tag.some)) tag.within)
      (route_within n s y.set os few hs (λ z. omega (arith, tag.some)) tag.within) (route_in n s y.set os)
  in_state_in few s hs isReady (Open c) e =
      cond_ok Kept (all_ready isReady y.outputs) _ _ (λ h. tt)
      (λ h. move (Open c) (Wait c) e (λ a. omega arith) (at_phase (Open c) e))
  in_state_in few s hs isReady (Wait c) e =
      cond_ok Kept (all_ready isReady y.outputs) _ _
      (λ h. move (Wait c) (Open c) e (λ a. omega arith) (at_phase (Wait c) e)) (λ h. tt)
  in_state_in few s hs isReady (Done c r) e =
      cond_ok Kept (all_ready isReady y.outputs) _ _
      (λ h.
      free_in (Done c r) _ e (λ a. omega arith)
      (give_outs (table r c) y.outputs (at_phase (Done c r) e).fed (table_keep r c)))
      (λ h. move (Done c r) (Last c r) e (λ a. omega arith) (at_phase (Done c r) e))
  in_state_in few s hs isReady (Last c r) e =
      cond_ok Kept (all_ready isReady y.outputs) _ _
      (λ h. move (Last c r) (Done c r) e (λ a. omega arith) (at_phase (Last c r) e)) (λ h. tt)
  in_state_in few s hs isReady (Aborted c) e = tt
  in_state_in few s hs isReady (FinAbort c r) e =
      let here = at_phase (FinAbort c r) e in
      cond_ok Kept (isReady 0) _ _
      (λ h.
      free_in (FinAbort c r) _ e (λ a. omega arith)
      (zeroth_outs (as_terminator r) (here.fed 0 (omega arith) (here.zeroth (here.sole refl).0))))
      (λ h. tt)

-- The timeout keeps in range the input and the outputs that it changes, and changes the input. Assumes nothing of the network.
use Prim.Native.Nat.{ℕ, zero, suc, ◌<◌}
use mathlib.Core.Path.{◌≡◌, refl, sym, ◌∙◌}
use mathlib.Core.List.{List}
use mathlib.Core.Bool.{Bool, true, false}
use native.Mathlib.Omega.{arith}
use lib.ListN.{set, length}
use Rattle.base.specs.Sizes.{input_count, output_count}
use Rattle.base.specs.Bools.{clash, cond_ok}
use Rattle.base.specs.All.{any}
use Rattle.base.specs.Lists.{same_at}
use Rattle.theorems.specs.Names.{Connection, Unicast, Passthru, AllRemote, SomeLocal, Handed, Branch}
use Rattle.theorems.specs.Names.{t_abort, Phase, Free, Seek, Open, Wait, Done, Last, Aborted}
use Rattle.theorems.specs.Names.{FinAbort, Input, Output, Network}
use Rattle.model.specs.Types.{no_marks, out_of, mark}
use Rattle.types.specs.Numbers.{state_number}
use Rattle.types.specs.Phases.{splits, branches}
use Rattle.model.specs.NetInput.{Turn, give}
use Rattle.model.specs.Places.{remote, cut_off, cut_at}
use Rattle.theorems.proofs.OutputReads.{give_ok, remote_mark, remote_zero}
use Rattle.theorems.proofs.Invariant.{Fed}
use Rattle.theorems.proofs.RangeTests.{InputAt, InputBy, InputIn, OutputIn}
use Rattle.theorems.proofs.RangeInputs.{Kept, at_phase, other_phase, give_outs}

-- connections 3 and 4 are not connection 6
whole : (c : Connection) → splits c ≡ true → branches c ≡ false
whole Unicast h = refl
whole Passthru h = refl
whole AllRemote h = refl
whole SomeLocal h = refl
whole Handed h = refl
whole Branch h = absurd (clash (sym h))

module _ (n : Network) (k i : ℕ) (y : Input) (os : List Output) (hi : i < input_count) (full : length os ≡ output_count)
    (ok : InputIn n k i (out_of os) y) (outs : (j : ℕ) → OutputIn n k j (out_of os j)) where
  abbrev Cut : Turn Input (List Output) → Type 0
  Cut = Kept n k i y os hi full ok outs

  here_at : (ph : Phase) → y.phase ≡ ph
      → InputBy n k i ph y.packet y.set y.tries y.outputs (out_of os)
  here_at = at_phase n k i y os hi full ok outs

  -- only output 0 is left connected; ph' is the state that follows
  cut_in : (c : Connection) (ph ph' : Phase) → y.phase ≡ ph → splits c ≡ true → (state_number ph' ≡ state_number ph → ⊥)
      → InputAt n k i false true (splits c) (branches c) false y.packet y.set y.tries y.outputs (out_of os)
      → ((bs : List Bool) (o : ℕ → Output)
      → InputAt n k i false true (splits c) (branches c) true y.packet y.set y.tries bs o
      → InputBy n k i ph' y.packet y.set y.tries bs o)
      → Cut (cut_off y os ph')
  unfolding any
  cut_in c ph ph' e sp ne here to =
      record {
        outs =
            give_outs n k i y os hi full ok outs (λ j. t_abort) (remote y.outputs) (λ j l m. here.fed j l (remote_mark y.outputs j m))
            (λ j a. absurd (clash (sym a)));
        inn =
            to (set no_marks 0 (mark y.outputs 0)) _
            (record {
              full = λ l. refl;
              tries = here.tries;
              blank = here.blank;
              tagged = here.tagged;
              marks = rw first refl;
              fed = fed;
              zeroth = λ h. first;
              sole = λ h. (sp, refl);
              parted = sym (whole c sp);
              kind = here.kind;
            });
        moved = other_phase n k i y os hi full ok outs ph _ e ne;
      }
    where
      first : mark y.outputs 0 ≡ true
      first = here.zeroth sp

      fed : (j : ℕ) → j < output_count → mark (set no_marks 0 (mark y.outputs 0)) j ≡ true
          → Fed i (out_of (give (λ j. t_abort) (remote y.outputs) os) j)
      fed zero l m =
          give_ok (λ j. t_abort) (remote y.outputs) os full (Fed i) 0
          (λ h a. absurd (clash (sym a ∙ remote_zero y.outputs))) (here.fed 0 l first)
      fed (suc j) l m = absurd (clash (sym m ∙ same_at 5 j false))

  pub cut_at_in : (ph : Phase) → y.phase ≡ ph → Cut (cut_at y os ph)
  unfolding cut_at
  cut_at_in Free e = tt
  cut_at_in Seek e = tt
  cut_at_in (Open c) e =
      cond_ok Cut (splits c) _ _
      (λ h. cut_in c (Open c) (Aborted c) e h (λ a. omega arith) (here_at (Open c) e) (λ bs o a. a)) (λ h. tt)
  cut_at_in (Wait c) e =
      cond_ok Cut (splits c) _ _
      (λ h. cut_in c (Wait c) (Aborted c) e h (λ a. omega arith) (here_at (Wait c) e) (λ bs o a. a)) (λ h. tt)
  cut_at_in (Done c r) e =
      cond_ok Cut (splits c) _ _
      (λ h. cut_in c (Done c r) (FinAbort c r) e h (λ a. omega arith) (here_at (Done c r) e) (λ bs o a. a)) (λ h. tt)
  cut_at_in (Last c r) e =
      cond_ok Cut (splits c) _ _
      (λ h. cut_in c (Last c r) (FinAbort c r) e h (λ a. omega arith) (here_at (Last c r) e) (λ bs o a. a)) (λ h. tt)
  cut_at_in (Aborted c) e = tt
  cut_at_in (FinAbort c r) e = tt

-- The rules of a net-input, and the timeout's, keep the invariant and what is owed. Assumes of a net-input in seek that
-- its set is not empty and lies within the network's sites.
use Prim.Native.Nat.{ℕ, ◌+◌, ◌^◌, ◌≤◌, ◌<◌}
use mathlib.Core.Path.{◌≡◌, refl, sym, ap, ◌∙◌, subst}
use mathlib.Core.List.{List}
use mathlib.Core.Bool.{Bool, true, false, cond, ◌&&◌}
use native.Mathlib.Omega.{arith}
use native.Mathlib.Decide.{dec_lt}
use lib.ListN.{set, length, length-set, get_or-eq_default}
use Rattle.base.specs.Sizes.{sites_most, input_count, output_count}
use Rattle.base.specs.Bools.{cond_ok}
use Rattle.base.specs.Lists.{rel_set}
use Rattle.base.specs.Sums.{sum, sum_set, sum_upto, upto_ext, upto_add, upto_zero}
use Rattle.theorems.specs.Names.{Connection, Received, got_end, got_abort, Terminator, t_abort, Phase, Free, Seek, Open, Wait}
use Rattle.theorems.specs.Names.{Done, Last, Aborted, FinAbort, Input, Output, Site, Network}
use Rattle.model.specs.Types.{no_input, input_d, no_output, in_at, out_of, out_at, queue_at, mark, in_phase, out_term}
use Rattle.draws.specs.Draws.{restricted}
use Rattle.types.specs.Phases.{splits, as_terminator, held}
use Rattle.model.specs.NetInput.{Turn, all_ready, table, give, in_state}
use Rattle.model.specs.Places.{last_lacks, remote, cut_off, cut_at, stalled, timeout}
use Rattle.model.specs.Steps.{own_turn, set_both}
use Rattle.model.specs.Owing.{owes_as, owes_input, owes_output}
use Rattle.theorems.proofs.RouterLaws.{route_ok_lem}
use Rattle.theorems.proofs.OutputReads.{length_give, give_at, give_ok, remote_mark, remote_zero}
use Rattle.theorems.proofs.Invariant.{claim_of, would, Fed, Whole, Joined, ConnAt, Conn, SiteOk, Persist, Good, OwnOk}
use Rattle.theorems.proofs.ConnectionLaws.{tag_owes, Renewed, renewed_refl, not_idle, fed_owes, phase_owes, phase_claim}
use Rattle.theorems.proofs.ConnectionLaws.{phase_conn, no_claim, both_good, in_good}
use Rattle.theorems.proofs.SeekLaws.{seek_ok}

-- ---- outputs that are given terminators

-- an output that input i feeds, given one
ended_renewed : (i : ℕ) (o : Output) (k : Terminator) → Fed i o → Renewed i o (out_term o k)
ended_renewed i o k f =
    record {
      heads = λ h. (h, refl);
      quiet = λ h e. absurd (not_idle f e);
      others = λ i' ne f'. absurd (ne (sym f'.from ∙ f.from));
    }

module _ (i : ℕ) (f : ℕ → Terminator) (bs : List Bool) (os : List Output) (len : length os ≡ output_count)
    (each : (j : ℕ) → j < output_count → mark bs j ≡ true → Fed i (out_of os j)) where
  give_renewed : (j : ℕ) → Renewed i (out_of os j) (out_of (give f bs os) j)
  give_renewed j =
      give_ok f bs os len (Renewed i (out_of os j)) j (λ l m. ended_renewed i (out_of os j) (f j) (each j l m))
      (renewed_refl i (out_of os j))

  give_sum : (s p t : ℕ)
      → sum (owes_output s p t) (give f bs os) ≡ sum (owes_output s p t) os + would f s p t bs (out_of os)
  give_sum s p t =
      let old : ℕ → ℕ = λ j. owes_output s p t (out_of os j) in
      let new : ℕ → ℕ = λ j. cond (mark bs j) (owes_as (f j) s p t (out_of os j).packet (out_of os j).set) 0 in
      omega (
        arith,
        rw (length_give f bs os len) at (sum_upto (owes_output s p t) (give f bs os) no_output),
        upto_ext output_count (λ j. owes_output s p t (out_of (give f bs os) j)) (λ j. old j + new j)
            (λ j l. rw (give_at f bs os len j l) (go j l (mark bs j) refl)),
        upto_add output_count old new,
        rw len at (sum_upto (owes_output s p t) os no_output),
      )
    where
      go : (j : ℕ) → j < output_count → (b : Bool) → mark bs j ≡ b
          → owes_output s p t (cond b (out_term (out_of os j) (f j)) (out_of os j))
          ≡ owes_output s p t (out_of os j) + cond b (owes_as (f j) s p t (out_of os j).packet (out_of os j).set) 0
      go j l true m = omega (arith, fed_owes s p t (each j l m))
      go j l false m = omega arith

would_abort : (s p t : ℕ) (bs : List Bool) (o : ℕ → Output) → would (λ j. t_abort) s p t bs o ≡ 0
would_abort s p t bs o =
    upto_ext output_count _ (λ j. 0) (λ j l. cond_ok (λ (n : ℕ). n ≡ 0) (mark bs j) 0 0 (λ h. refl) (λ h. refl))
    ∙ upto_zero output_count

-- output 0 is not one of the remote ones
give_zero : (f : ℕ → Terminator) (bs : List Bool) (os : List Output) → length os ≡ output_count
    → out_of (give f (remote bs) os) 0 ≡ out_of os 0
give_zero f bs os len =
    give_at f (remote bs) os len 0 (omega arith)
    ∙ ap (λ (b : Bool). cond b (out_term (out_of os 0) (f 0)) (out_of os 0)) (remote_zero bs)

-- ---- the rules

module _ (s : ℕ) (x : Site) (i : ℕ) (ok : SiteOk s x) (hi : i < input_count) where
  abbrev y : Input
  y = in_at x i

  conn_at : (ph : Phase) → y.phase ≡ ph → ConnAt ph s i y.outputs y.packet y.set (out_at x)
  conn_at ph e = phase_conn y ph e s i (out_at x) (ok.conn i)

  -- to a state that waits for, holds and is connected to the same
  move : (ph ph' : Phase) → y.phase ≡ ph → ((q X : ℕ) → claim_of ph q X ≡ claim_of ph' q X)
      → ((bs : List Bool) (q X : ℕ) → ConnAt ph s i bs q X (out_at x) → ConnAt ph' s i bs q X (out_at x))
      → held ph ≡ held ph' → Good s x (set_both x i (in_phase y ph') x.outputs) (λ p t. 0)
  move ph ph' e cl con hd =
      in_good s x i ok hi (in_phase y ph') (λ q X h. sym (phase_claim y ph e ∙ cl _ _) ∙ h) (con _ _ _ (conn_at ph e))
      (λ p t. sym (phase_owes y ph e s p t ∙ ap (λ (k : Terminator). owes_as k s p t y.packet y.set) hd))

  -- the marked outputs are given terminators, and the input becomes y'
  give_good : (f : ℕ → Terminator) (bs : List Bool) (y' : Input)
      → ((j : ℕ) → j < output_count → mark bs j ≡ true → Fed i (out_at x j))
      → Persist y y' → Conn s i y' (out_of (give f bs x.outputs))
      → ((p t : ℕ) → would f s p t bs (out_at x) + owes_input s p t y' ≡ owes_input s p t y)
      → Good s x (set_both x i y' (give f bs x.outputs)) (λ p t. 0)
  give_good f bs y' each per con wt =
      both_good s x i ok hi (give f bs x.outputs) y' (length_give f bs x.outputs ok.outs)
      (give_renewed i f bs x.outputs ok.outs each) per con
      (λ p t. omega (arith, give_sum i f bs x.outputs ok.outs each s p t, wt p t))

  -- by the table the connected outputs owe what the input owes with the terminator that it received
  covered : (c : Connection) (r : Received) (p t : ℕ) → Joined s i c y.outputs y.packet y.set (out_at x)
      → would (table r c) s p t y.outputs (out_at x) ≡ owes_as (as_terminator r) s p t y.packet y.set
  covered c got_end p t h = h.covers p t
  covered c got_abort p t h = would_abort s p t y.outputs (out_at x)

  done_good : (c : Connection) (r : Received) → y.phase ≡ Done c r
      → Good s x (set_both x i no_input (give (table r c) y.outputs x.outputs)) (λ p t. 0)
  done_good c r e =
      let h : Joined s i c y.outputs y.packet y.set (out_at x) = conn_at (Done c r) e in
      give_good (table r c) y.outputs no_input h.each (no_claim y no_input (phase_claim y (Done c r) e)) tt
      (λ p t. omega (arith, covered c r p t h, phase_owes y (Done c r) e s p t))

  fin_abort_good : (c : Connection) (r : Received) → y.phase ≡ FinAbort c r
      → Good s x (set_both x i no_input (set x.outputs 0 (out_term (out_at x 0) (as_terminator r)))) (λ p t. 0)
  fin_abort_good c r e =
      let h : Whole i y.packet y.set (out_at x) = conn_at (FinAbort c r) e in
      let o = out_term (out_at x 0) (as_terminator r) in
      let new = ended_renewed i (out_at x 0) (as_terminator r) h.fed in
      both_good s x i ok hi (set x.outputs 0 o) no_input (length-set x.outputs 0 o ∙ ok.outs)
      (rel_set (Renewed i) x.outputs 0 o no_output (renewed_refl i) new)
      (no_claim y no_input (phase_claim y (FinAbort c r) e)) tt
      (λ p t.
      omega (
        arith,
        sum_set (owes_output s p t) x.outputs 0 o no_output (omega (arith, ok.outs)),
        fed_owes s p t h.fed,
        tag_owes (as_terminator r) s p t h.same,
        phase_owes y (FinAbort c r) e s p t,
      ))

  abbrev TurnOk : Turn Input (List Output) → Type 0
  TurnOk r = OwnOk s x (own_turn (set_both x i) r)

  pub input_ok : (n : Network) (isReady : ℕ → Bool) → n.sites ≤ sites_most → s < n.sites
      → (y.phase ≡ Seek → (0 < y.set) × (y.set < 2 ^ n.sites)) → (ph : Phase) → y.phase ≡ ph
      → TurnOk (in_state n s i y x.outputs isReady ph)
  unfolding in_state
  input_ok n isReady few hs hx Free e = tt
  input_ok n isReady few hs hx Seek e =
      let nz : y.set ≡ 0 → ⊥ = λ z. omega (arith, (hx e).0) in
      seek_ok s x i ok hi e nz n.tries _ (route_ok_lem n s y.set x.outputs few hs nz (hx e).1)
  input_ok n isReady few hs hx (Open c) e =
      cond_ok TurnOk (all_ready isReady y.outputs) _ _ (λ h. tt)
      (λ h. move (Open c) (Wait c) e (λ q X. refl) (λ bs q X k. k) refl)
  input_ok n isReady few hs hx (Wait c) e =
      cond_ok TurnOk (all_ready isReady y.outputs) _ _
      (λ h. move (Wait c) (Open c) e (λ q X. refl) (λ bs q X k. k) refl) (λ h. tt)
  input_ok n isReady few hs hx (Done c r) e =
      cond_ok TurnOk (all_ready isReady y.outputs) _ _ (λ h. done_good c r e)
      (λ h. move (Done c r) (Last c r) e (λ q X. refl) (λ bs q X k. k) refl)
  input_ok n isReady few hs hx (Last c r) e =
      cond_ok TurnOk (all_ready isReady y.outputs) _ _
      (λ h. move (Last c r) (Done c r) e (λ q X. refl) (λ bs q X k. k) refl) (λ h. tt)
  input_ok n isReady few hs hx (Aborted c) e = tt
  input_ok n isReady few hs hx (FinAbort c r) e =
      cond_ok TurnOk (isReady 0) _ _ (λ h. fin_abort_good c r e) (λ h. tt)

  -- the timeout: the remote outputs aborted and disconnected, output 0 with the whole set stays
  cut_good : (c : Connection) (ph ph' : Phase) → y.phase ≡ ph → ((q X : ℕ) → claim_of ph q X ≡ claim_of ph' q X)
      → ((bs : List Bool) (q X : ℕ) → ConnAt ph s i bs q X (out_at x) → Joined s i c bs q X (out_at x))
      → ((bs : List Bool) (q X : ℕ) (o : ℕ → Output) → Whole i q X o → ConnAt ph' s i bs q X o) → held ph ≡ held ph'
      → splits c ≡ true → TurnOk (cut_off y x.outputs ph')
  cut_good c ph ph' e cl con whole hd sp =
      let bs = y.outputs in
      let h : Joined s i c bs y.packet y.set (out_at x) = con _ _ _ (conn_at ph e) in
      let z = give_zero (λ j. t_abort) bs x.outputs ok.outs in
      give_good (λ j. t_abort) (remote bs) _ (λ j l m. h.each j l (remote_mark bs j m))
      (λ q X k. sym (phase_claim y ph e ∙ cl _ _) ∙ k)
      (whole _ _ _ _ (record { fed = rw z (h.zeroth sp).fed; same = rw z (h.zeroth sp).same }))
      (λ p t.
      omega (
        arith,
        would_abort s p t (remote bs) (out_at x),
        phase_owes y ph e s p t,
        ap (λ (k : Terminator). owes_as k s p t y.packet y.set) hd,
      ))

  cut_at_ok : (ph : Phase) → y.phase ≡ ph → TurnOk (cut_at y x.outputs ph)
  unfolding cut_at
  cut_at_ok Free e = tt
  cut_at_ok Seek e = tt
  cut_at_ok (Open c) e =
      cond_ok TurnOk (splits c) _ _
      (cut_good c (Open c) (Aborted c) e (λ q X. refl) (λ bs q X k. k) (λ bs q X o k. k) refl) (λ h. tt)
  cut_at_ok (Wait c) e =
      cond_ok TurnOk (splits c) _ _
      (cut_good c (Wait c) (Aborted c) e (λ q X. refl) (λ bs q X k. k) (λ bs q X o k. k) refl) (λ h. tt)
  cut_at_ok (Done c r) e =
      cond_ok TurnOk (splits c) _ _
      (cut_good c (Done c r) (FinAbort c r) e (λ q X. refl) (λ bs q X k. k) (λ bs q X o k. k) refl) (λ h. tt)
  cut_at_ok (Last c r) e =
      cond_ok TurnOk (splits c) _ _
      (cut_good c (Last c r) (FinAbort c r) e (λ q X. refl) (λ bs q X k. k) (λ bs q X o k. k) refl) (λ h. tt)
  cut_at_ok (Aborted c) e = tt
  cut_at_ok (FinAbort c r) e = tt

-- the input that feeds output 0; a number beyond the inputs reads as a free one
pub timeout_ok : (edition s : ℕ) (x : Site) → SiteOk s x
    → let i = (out_at x 0).input in
    OwnOk s x (own_turn (set_both x i) (timeout edition (queue_at x 0) x.outputs (in_at x i)))
unfolding cut_at
timeout_ok edition s x ok =
    cond_ok TurnOk' (restricted edition) _ _ (λ r. tt)
    (λ r. cond_ok TurnOk' (last_lacks (queue_at x 0) && stalled (out_at x 0)) _ _ (λ a. go (dec_lt i input_count)) (λ a. tt))
  where
    i : ℕ
    i = (out_at x 0).input

    TurnOk' : Turn Input (List Output) → Type 0
    TurnOk' r = OwnOk s x (own_turn (set_both x i) r)

    go : Dec (i < input_count) → TurnOk' (cut_at (in_at x i) x.outputs (in_at x i).phase)
    go (yes h) = cut_at_ok s x i ok h (in_at x i).phase refl
    go (no h) =
        let e : in_at x i ≡ input_d = get_or-eq_default x.inputs input_d (omega (arith, ok.ins)) in
        subst (λ (z : Input). TurnOk' (cut_at z x.outputs z.phase)) (sym e) tt

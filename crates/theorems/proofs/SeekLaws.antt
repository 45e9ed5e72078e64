-- A net-input in seek: what the router chose, put to work, keeps the invariant and what is owed.
-- Assumes that the input's set is not empty.
use Prim.Native.Nat.{ℕ, ◌<◌}
use mathlib.Core.Path.{◌≡◌, refl, sym, ap, ◌∙◌}
use mathlib.Core.List.{List}
use mathlib.Core.Bool.{Bool, true, false, cond, not}
use native.Mathlib.Omega.{arith}
use borrow.Author.Tests.{ne_eqb, eqb-true, not-true, not-false}
use lib.Dec.{eqb, ltb}
use lib.ListN.{get_or, set, length}
use Rattle.base.specs.Sizes.{input_count, output_count}
use Rattle.base.specs.Bools.{clash, cond_ok}
use Rattle.base.specs.Sums.{sum, sum_upto, upto_ext}
use Rattle.theorems.specs.Names.{Connection, Handed, got_end, Terminator, Seek, Input, Output, Site}
use Rattle.model.specs.Types.{no_output, in_at, out_of, out_at}
use Rattle.model.specs.Router.{Choice, Chosen, Unserved, is_empty, is_chosen, unchosen}
use Rattle.model.specs.NetInput.{Turn, table, taken, occupy, marks_of, opened, tried_again, seek}
use Rattle.model.specs.Steps.{own_turn, set_both}
use Rattle.model.specs.Owing.{owes_as, owes_output}
use Rattle.theorems.proofs.RouterGather.{chosen_at}
use Rattle.theorems.proofs.RouterChoices.{Routed, ChoiceOk, owes_none, only_ok}
use Rattle.theorems.proofs.OutputReads.{length_occupy, occupy_at, occupy_ok, mark_at}
use Rattle.theorems.proofs.Invariant.{tag, tag_out, idle, empty_idle, Fed, Joined, SiteOk, OwnOk}
use Rattle.theorems.proofs.ConnectionLaws.{Renewed, renewed_refl, not_idle, phase_owes, phase_claim, both_good, in_good}

-- an output that was empty, taken into use
taken_renewed : (i q X : ℕ) (o : Output) → idle o ≡ true → Renewed i o (taken q i X)
taken_renewed i q X o h =
    record { heads = λ e. absurd (clash (sym e)); quiet = λ e k. refl; others = λ k ne f. absurd (not_idle f h) }

module _ (s : ℕ) (x : Site) (i : ℕ) (ok : SiteOk s x) (hi : i < input_count) (e : (in_at x i).phase ≡ Seek)
    (nz : (in_at x i).set ≡ 0 → ⊥) where
  abbrev y : Input
  y = in_at x i

  abbrev q : ℕ
  q = y.packet

  -- the outputs that are chosen, taken into use
  module _ (c : Connection) (sets : List ℕ) (r : Routed s y.set x.outputs c sets) where
    abbrev os : List Output
    os = occupy q i sets x.outputs

    abbrev new : ℕ → Output
    new j = taken q i (get_or sets j 0)

    unused : (j : ℕ) → is_chosen sets j ≡ false → get_or sets j 0 ≡ 0
    unused j h = eqb-true (get_or sets j 0) 0 (not-false (eqb (get_or sets j 0) 0) h)

    was_idle : (j : ℕ) → is_chosen sets j ≡ true → idle (out_at x j) ≡ true
    was_idle j h = empty_idle (out_at x j) (not-true (out_at x j).used (r.free j (chosen_at sets j h)))

    taken_at : (j : ℕ) → j < output_count → is_chosen sets j ≡ true → out_of os j ≡ new j
    taken_at j l h =
        occupy_at q i sets x.outputs ok.outs j l ∙ ap (λ (b : Bool). cond b (new j) (out_at x j)) h

    renewed : (j : ℕ) → Renewed i (out_at x j) (out_of os j)
    renewed j =
        occupy_ok q i sets x.outputs ok.outs (Renewed i (out_at x j)) j
        (λ l h. taken_renewed i q (get_or sets j 0) (out_at x j) (was_idle j h)) (renewed_refl i (out_at x j))

    fed_at : (j : ℕ) → j < output_count → is_chosen sets j ≡ true → Fed i (out_of os j)
    fed_at j l h = rw (taken_at j l h) (record { used = refl; from = refl; bare = refl; stays = refl })

    -- the router's choice is a connection of the input
    joined : Joined s i c (marks_of sets) q y.set (out_of os)
    joined =
        record {
          each = λ j l m. fed_at j l (sym (mark_at sets j l) ∙ m);
          covers =
              λ p t.
              upto_ext output_count _ _ (λ j l. rw (mark_at sets j l) (go p t j l (is_chosen sets j) refl))
              ∙ r.covers q p t;
          zeroth =
              λ sp.
              let z = r.zeroth sp in
              let h : is_chosen sets 0 ≡ true = ap not (ne_eqb (get_or sets 0 0) 0 (λ a. nz (sym z ∙ a))) in
              let l : 0 < output_count = omega arith in
              record { fed = fed_at 0 l h; same = ap tag_out (taken_at 0 l h) ∙ ap (tag q) z };
        }
      where
        go : (p t j : ℕ) → j < output_count → (b : Bool) → is_chosen sets j ≡ b
            → cond b (owes_as (table got_end c j) s p t (out_of os j).packet (out_of os j).set) 0
            ≡ owes_as (table got_end c j) s p t q (get_or sets j 0)
        go p t j l true h = ap (λ (o : Output). owes_as (table got_end c j) s p t o.packet o.set) (taken_at j l h)
        go p t j l false h =
            sym
            (ap (λ (X : ℕ). owes_as (table got_end c j) s p t q X) (unused j h)
            ∙ owes_none (table got_end c j) s p t q)

    len : length os ≡ output_count
    len = length_occupy q i sets x.outputs ok.outs

    -- an output just taken owes nothing, and owed nothing before
    same_sum : (p t : ℕ) → sum (owes_output s p t) os ≡ sum (owes_output s p t) x.outputs
    same_sum p t =
        rw len at (sum_upto (owes_output s p t) os no_output)
        ∙ upto_ext output_count _ (λ j. owes_output s p t (out_at x j))
        (λ j l.
        let o = out_at x j in
        occupy_ok q i sets x.outputs ok.outs (λ v. owes_output s p t v ≡ owes_output s p t o) j
        (λ l h. sym (ap (λ (k : Terminator). owes_as k s p t o.packet o.set) (ok.quiet j (was_idle j h)))) refl)
        ∙ sym (rw ok.outs at (sum_upto (owes_output s p t) x.outputs no_output))

    opened_ok : OwnOk s x (own_turn (set_both x i) (opened i y x.outputs c sets))
    opened_ok =
        both_good s x i ok hi os _ len renewed (λ p X h. sym (phase_claim y Seek e) ∙ h) joined
        (λ p t. omega (arith, same_sum p t, phase_owes y Seek e s p t))

  pub seek_ok : (T : ℕ) (r : Choice) → ChoiceOk s y.set x.outputs r
      → OwnOk s x (own_turn (set_both x i) (seek T i y x.outputs r))
  unfolding seek
  seek_ok T (Chosen c sets) h = opened_ok c sets h
  seek_ok T Unserved h =
      let P : Turn Input (List Output) → Type 0 = λ r. OwnOk s x (own_turn (set_both x i) r) in
      cond_ok P (ltb y.tries T) _ _
      (λ a. in_good s x i ok hi (tried_again y) (λ q X k. k) (ok.conn i) (λ p t. refl))
      (λ a.
      cond_ok P (is_empty x.outputs 0) _ _
      (λ b.
      opened_ok Handed (set unchosen 0 y.set)
      (only_ok s y.set x.outputs Handed 0 (λ k. refl) refl refl nz (omega arith) b))
      (λ b. tt))

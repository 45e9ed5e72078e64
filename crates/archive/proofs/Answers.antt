-- The answers of reader and writer, one law for each way through them. Assumes nothing.
use mathlib.Core.Path.{◌≡◌, refl, sym, ap, ◌∙◌}
use mathlib.Core.Bool.{Bool, true, false, cond}
use mathlib.Core.List.{List}
use Prim.Native.Nat.{ℕ, ◌≤◌, ◌<◌}
use native.Mathlib.Omega.{arith}
use borrow.Author.Tests.{eq-eqb, ne_eqb, le-leb, lt-leb, lt-ltb, le-ltb, leb-true}
use lib.Dec.{eqb, leb}
use lib.ListN.{length}
use Rattle.base.specs.Sizes.{sends_most}
use Rattle.base.specs.Bools.{clash, first_of, second_of}
use Rattle.base.specs.All.{all, all_fails}
use Rattle.base.specs.Answers.{or_next}
use Rattle.types.specs.declared.Network.{Network}
use Rattle.types.specs.declared.Run.{Run}
use Rattle.model.specs.Types.{send_at}
use Rattle.model.specs.Network.{version_ok, edition_ok, sizes_ok, channels_ok, routes_ok, network_refusal}
use Rattle.theorems.proofs.Networks.{kind_known}
use Rattle.model.specs.Runs.{sends_ok, stored_refusal}
use Rattle.format.specs.Refusals.{Decoded}
use Rattle.format.specs.Refusals.{Written}
use Rattle.format.specs.Format.{length_of, encode, run_of, no_run}
use Rattle.base.specs.Put.{put, put_front}
use Rattle.archive.specs.Code.{early, front_refusal}
use Rattle.checks.specs.Sends.{send_in}
use Rattle.format.specs.Faults.{fault_of}
use Rattle.format.specs.Refusals.{read_refusal, decode, write_refusal, write_answer, written}
use Rattle.model.specs.Runs.{body_refusal}
use Rattle.checks.proofs.SendsLaws.{sends_in}
use Rattle.archive.proofs.Passed.{Stored, stored_passes}

-- ---- the network's refusal f: 2, 17 and 3 come before the writer's 4 and 5, 6 and 7 behind them

-- what it is by the tests of version, edition, sizes, channels and routes
abbrev refusal_by : Bool → Bool → Bool → ℕ → ℕ
refusal_by v e s rest = cond v (cond e (cond s rest 3) 17) 2

abbrev joins_by : Bool → Bool → ℕ
joins_by c t = cond c (cond t 0 7) 6

not_early : (c t : Bool) → early (joins_by c t) ≡ false
not_early true true = refl
not_early true false = refl
not_early false t = refl

is_early : (v e s : Bool) (rest : ℕ) → early rest ≡ false → early (refusal_by v e s rest) ≡ false
    → (v ≡ true) × (e ≡ true) × (s ≡ true)
is_early true true true rest k h = (refl, refl, refl)
is_early true true false rest k h = absurd (clash h)
is_early true false s rest k h = absurd (clash h)
is_early false e s rest k h = absurd (clash h)

early_same : (v e s : Bool) (rest other : ℕ) → early rest ≡ false → early (refusal_by v e s rest) ≡ true
    → refusal_by v e s rest ≡ refusal_by v e s other
early_same true true true rest other k h = absurd (clash (sym h ∙ k))
early_same true true false rest other k h = refl
early_same true false s rest other k h = refl
early_same false e s rest other k h = refl

-- ---- the writer's refusals 2, 17, 3 to 7

module _ (n : Network) (seed N f : ℕ) (e : f ≡ network_refusal n) where
  pub front_early : early f ≡ true → f ≡ front_refusal n seed N
  unfolding front_refusal network_refusal
  front_early h =
      e
      ∙ early_same (version_ok n) (edition_ok n) (sizes_ok n) (joins_by (channels_ok n) (routes_ok n)) _
      (not_early (channels_ok n) (routes_ok n)) (sym (ap early e) ∙ h)

  module _ (h : early f ≡ false) where
    passed : (version_ok n ≡ true) × (edition_ok n ≡ true) × (sizes_ok n ≡ true)
    unfolding network_refusal
    passed =
        is_early (version_ok n) (edition_ok n) (sizes_ok n) (joins_by (channels_ok n) (routes_ok n))
        (not_early (channels_ok n) (routes_ok n)) (sym (ap early e) ∙ h)

    pub front_seed : seed ≡ 0 → 4 ≡ front_refusal n seed N
    unfolding front_refusal
    front_seed x = rw (passed.0, passed.1, passed.2, eq-eqb seed 0 x) refl

    module _ (x : seed ≡ 0 → ⊥) where
      pub front_count : sends_most < N → 5 ≡ front_refusal n seed N
      unfolding front_refusal
      front_count m = rw (passed.0, passed.1, passed.2, ne_eqb seed 0 x, lt-leb N sends_most m) refl

      pub front_joins : N ≤ sends_most → f ≡ front_refusal n seed N
      unfolding front_refusal network_refusal
      front_joins m =
          rw (passed.0, passed.1, passed.2, ne_eqb seed 0 x, le-leb N sends_most m)
          (e ∙ rw (passed.0, passed.1, passed.2) refl)

-- ---- and what the sends are turned down for

module _ (r : Run) where
  abbrev n : Network
  n = r.network

  -- the front's refusal is the run's, and behind a front without one stand the sends
  front_then : stored_refusal r ≡ or_next (front_refusal r.network r.seed r.count) (cond (sends_ok r) 0 8)
  unfolding stored_refusal front_refusal body_refusal
  front_then =
      go (version_ok n) (edition_ok n) (sizes_ok n) (eqb r.seed 0) (leb r.count sends_most) (channels_ok n)
      (routes_ok n)
    where
      go : (v e s x m c t : Bool)
          → refusal_by v e s (cond x 4 (cond m (cond c (cond t (cond (sends_ok r) 0 8) 7) 6) 5))
          ≡ or_next (refusal_by v e s (cond x 4 (cond m (joins_by c t) 5))) (cond (sends_ok r) 0 8)
      go false e s x m c t = refl
      go true false s x m c t = refl
      go true true false x m c t = refl
      go true true true true m c t = refl
      go true true true false false c t = refl
      go true true true false true false t = refl
      go true true true false true true false = refl
      go true true true false true true true = refl

  pub few_sends : front_refusal r.network r.seed r.count ≡ 0 → r.count ≤ sends_most
  unfolding front_refusal
  few_sends h =
      let s = first_of (sizes_ok n) _ 3 0 (λ e. omega arith) (kind_known n _ h).2 in
      let x = second_of (eqb r.seed 0) 4 _ 0 (λ e. omega arith) s.1 in
      leb-true r.count sends_most (first_of (leb r.count sends_most) _ 5 0 (λ e. omega arith) x.1).0

  module _ (f : ℕ) (e : f ≡ front_refusal r.network r.seed r.count) where
    pub front_refused : (f ≡ 0 → ⊥) → f ≡ stored_refusal r
    front_refused h = sym (front_then ∙ (rw (← e, ne_eqb f 0 h) refl))

    sends_then : f ≡ 0 → (b : Bool) → sends_ok r ≡ b → cond b 0 8 ≡ stored_refusal r
    sends_then h b s = sym (front_then ∙ (rw (← e, eq-eqb f 0 h, s) refl))

    -- the sends tested one after the other: all of them, or one that fails
    pub sends_tested : f ≡ 0 → (k : ℕ) → k ≡ r.count → all (send_in r.network.sites r.draws (send_at r)) k ≡ true
        → stored_refusal r ≡ 0
    sends_tested h k q s = sym (sends_then h true (sym (sends_in r) ∙ (rw q at s)))

    pub run_tested : f ≡ 0 → (k : ℕ) → k ≡ r.count → all (send_in r.network.sites r.draws (send_at r)) k ≡ true
        → Stored r
    run_tested h k q s = stored_passes r (sends_tested h k q s)

    pub sends_failed : f ≡ 0 → (k : ℕ) → k < r.count → send_in r.network.sites r.draws (send_at r) k ≡ false
        → 8 ≡ stored_refusal r
    sends_failed h k l s = sends_then h false (sym (sends_in r) ∙ all_fails _ k r.count l s)

-- ---- the reader

-- what the bytes are judged, taken apart
pub fault_refusal : (b : List ℕ) → (fault_of b).refusal ≡ read_refusal b
unfolding fault_of
fault_refusal b = refl

pub decode_no : (b : List ℕ) (f : ℕ) → f ≡ read_refusal b → (f ≡ 0 → ⊥)
    → ◌≡◌ {A = Decoded} (record { refusal = f; run = no_run }) (decode b)
unfolding decode
decode_no b f e h = rw (← e, ne_eqb f 0 h) refl

pub decode_yes : (b : List ℕ) (r : Run) (f : ℕ) → f ≡ read_refusal b → f ≡ 0 → r ≡ run_of b
    → ◌≡◌ {A = Decoded} (record { refusal = 0; run = r }) (decode b)
unfolding decode
decode_yes b r f e h er = rw (← e, eq-eqb f 0 h, ← er) refl

-- ---- the writer: its answer, and the room after it

abbrev Answered : Run → List ℕ → Written → List ℕ → Type 0
Answered r out w after = (w ≡ write_answer r (length out)) × (after ≡ written r out)

refused : (r : Run) (out : List ℕ) (f : ℕ) → write_refusal r (length out) ≡ f → (f ≡ 0 → ⊥)
    → Answered r out (record { refusal = f; length = 0 }) out
unfolding write_answer written
refused r out f e h = (rw (e, ne_eqb f 0 h) refl, rw (e, ne_eqb f 0 h) refl)

pub write_no : (r : Run) (out : List ℕ) (f : ℕ) → f ≡ stored_refusal r → (f ≡ 0 → ⊥)
    → Answered r out (record { refusal = f; length = 0 }) out
unfolding write_refusal
write_no r out f e h = refused r out f (rw (← e, ne_eqb f 0 h) refl) h

pub write_short : (r : Run) (out : List ℕ) → stored_refusal r ≡ 0 → length out < length_of r
    → Answered r out (record { refusal = 14; length = 0 }) out
unfolding write_refusal
write_short r out e h = refused r out 14 (rw (e, lt-ltb (length out) (length_of r) h) refl) (λ q. omega arith)

pub write_yes : (r : Run) (out after : List ℕ) (n : ℕ) → stored_refusal r ≡ 0 → length_of r ≤ length out → n ≡ length_of r
    → after ≡ put out 0 (encode r) → Answered r out (record { refusal = 0; length = n }) after
unfolding write_refusal write_answer written
write_yes r out after n e h k p =
    let enough = le-ltb (length out) (length_of r) h in
    (rw (e, enough, k) refl, rw (e, enough) (p ∙ put_front out (encode r)))

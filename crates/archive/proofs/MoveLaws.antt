-- What the functions of the mover cite of refusals and answers: those of a file, each way through them; a run that goes
-- into a version; a move. Assumes nothing.
use mathlib.Core.Path.{◌≡◌, refl, sym, ◌∙◌}
use mathlib.Core.Bool.{Bool, true, false, cond, ◌&&◌}
use mathlib.Core.List.{List}
use Prim.Native.Nat.{ℕ, ◌≤◌, ◌<◌}
use native.Mathlib.Omega.{arith}
use borrow.Author.Tests.{eq-eqb, ne_eqb, eqb-true, eqb-false, leb-true, lt-ltb, le-ltb}
use lib.Dec.{eqb, leb}
use lib.ListN.{length}
use Rattle.base.specs.Sizes.{sites_most, first_sites}
use Rattle.base.specs.Bools.{both, either_way, first_of}
use Rattle.base.specs.Answers.{or_next}
use Rattle.base.specs.Put.{put, put_front}
use Rattle.types.specs.declared.Run.{Run}
use Rattle.model.specs.Network.{version_ok, edition_ok, sites_in, sizes_ok, channels_ok, routes_ok, network_under}
use Rattle.model.specs.Runs.{sends_ok, body_refusal}
use Rattle.std.specs.Prelude.{Result, Ok, Err}
use Rattle.base.specs.declared.refusal.Refusal.{Refusal}
use Rattle.base.specs.Refusals.{refusal_of}
use Rattle.format.specs.Refusals.{Written, told_length}
use Rattle.format.specs.Format.{length_of, version_of, network_of, run_of}
use Rattle.format.specs.Refusals.{least_length, length_ok, size_ok, head_then, read_refusal}
use Rattle.format.specs.Moves.{run_under, file_under, file_refusal, goes_into, go_refusal, move_refusal, move_answer}
use Rattle.format.specs.Moves.{moved}
use Rattle.theorems.proofs.Networks.{sizes_at}
use Rattle.theorems.proofs.Versions.{under_sizes}
use Rattle.faults.proofs.HeadLaws.{head_passes}
use Rattle.archive.specs.Code.{Movable}
use Rattle.archive.proofs.Passed.{body_passes, channels_narrow}

-- ---- the refusals of a file: 1; 2; the reader's

-- of the tests behind the length none is refused with 1
not_1 : (v e s x z c t n : Bool)
    → ◌≡◌ {A = ℕ} (cond v (cond e (cond s (cond x 4 (cond z (cond c (cond t (cond n 0 8) 7) 6) 5)) 3) 17) 2) 1 → ⊥
not_1 false e s x z c t n h = omega arith
not_1 true false s x z c t n h = omega arith
not_1 true true false x z c t n h = omega arith
not_1 true true true true z c t n h = omega arith
not_1 true true true false false c t n h = omega arith
not_1 true true true false true false t n h = omega arith
not_1 true true true false true true false n h = omega arith
not_1 true true true false true true true false h = omega arith
not_1 true true true false true true true true h = omega arith

module _ (b : List ℕ) (from f : ℕ) (e : f ≡ read_refusal b) where
  pub file_short : f ≡ 1 → 1 ≡ file_refusal from b
  unfolding read_refusal head_then body_refusal
  file_short h =
      let n = network_of b in
      either_way (length_ok b)
      (λ l.
      absurd
      (not_1 (version_ok n) (edition_ok n) (sizes_ok n) (eqb (run_of b).seed 0) (size_ok b) (channels_ok (run_of b).network)
      (routes_ok (run_of b).network) (sends_ok (run_of b)) (rw l at (sym e ∙ h))))
      (λ l. rw l refl)

  module _ (h : f ≡ 1 → ⊥) where
    long : length_ok b ≡ true
    unfolding read_refusal head_then
    long = either_way (length_ok b) (λ l. l) (λ l. absurd (h (e ∙ rw l refl)))

    pub file_bytes : least_length ≤ length b
    file_bytes = leb-true least_length (length b) (both (leb least_length (length b)) _ long).0

    pub file_other : (version_of b ≡ from → ⊥) → 2 ≡ file_refusal from b
    file_other v = rw (long, ne_eqb (version_of b) from v) refl

    pub file_read : version_of b ≡ from → f ≡ file_refusal from b
    file_read v = rw (long, eq-eqb (version_of b) from v) e

-- what passes two tests
pub next_passes : (f next : ℕ) → or_next f next ≡ 0 → (f ≡ 0) × (next ≡ 0)
next_passes f next h =
    either_way (eqb f 0) (λ e. (eqb-true f 0 e, rw e at h)) (λ e. absurd (eqb-false f 0 e (rw e at h)))

-- a file that is not refused is an archive of this version
pub file_passes : (b : List ℕ) (from : ℕ) → file_refusal from b ≡ 0 → (read_refusal b ≡ 0) × (from ≡ version_of b)
file_passes b from h =
    let l = first_of (length_ok b) _ 1 0 (λ e. omega arith) h in
    let v = first_of (eqb (version_of b) from) (read_refusal b) 2 0 (λ e. omega arith) l.1 in
    (v.1, sym (eqb-true (version_of b) from v.0))

-- ---- a run that goes into a version

-- has as few sites as it asks for
pub goes_few : (v : ℕ) (r : Run) → sizes_ok r.network ≡ true → goes_into v r ≡ true → r.network.sites ≤ sites_in v
goes_few v r h goes = go (eqb v 1) goes
  where
    S : ℕ
    S = r.network.sites

    go : (t : Bool) → cond t (leb S first_sites && eqb r.network.edition 1) true ≡ true
        → S ≤ cond t first_sites sites_most
    go true g = leb-true S first_sites (both (leb S first_sites) (eqb r.network.edition 1) g).0
    go false g = (sizes_at r.network h).1

-- so that its channels fit there
pub movable : (b : List ℕ) (from to : ℕ) → read_refusal b ≡ 0 → from ≡ version_of b → goes_into to (run_of b) ≡ true
    → Movable b from to
unfolding read_refusal run_of network_of network_under
movable b from to ok ev goes =
    let p = head_passes b (body_refusal (run_of b)) ok in
    let n = (run_of b).network in
    let sizes = under_sizes to n p.0.sizes (goes_few to (run_of b) p.0.sizes goes) in
    record {
      head = p.0;
      version = ev;
      narrow = rw ev (channels_narrow (network_under to n) sizes (body_passes (run_of b) p.1).0);
    }

-- ---- a move: its answer, and the room after it

-- a file that can go, taken apart
pub go_passes : (b : List ℕ) (from to : ℕ) → go_refusal from to b ≡ 0
    → (read_refusal b ≡ 0) × (from ≡ version_of b) × (goes_into to (run_of b) ≡ true)
go_passes b from to h =
    let f = next_passes (file_refusal from b) _ h in
    let v = file_passes b from f.0 in
    (v.0, v.1, (first_of (goes_into to (run_of b)) 0 15 0 (λ e. omega arith) f.1).0)

module _ (from to : ℕ) (b out : List ℕ) where
  abbrev Answered : Written → List ℕ → Type 0
  Answered w after = (w ≡ move_answer from to b (length out)) × (after ≡ moved from to b out)

  refused : (f : ℕ) → move_refusal from to b (length out) ≡ f → (f ≡ 0 → ⊥)
      → Answered (record { refusal = f; length = 0 }) out
  unfolding move_answer moved
  refused f e h = (rw (e, ne_eqb f 0 h) refl, rw (e, ne_eqb f 0 h) refl)

  pub move_no : (f : ℕ) → f ≡ go_refusal from to b → (f ≡ 0 → ⊥) → Answered (record { refusal = f; length = 0 }) out
  unfolding move_refusal
  move_no f e h = refused f (rw (← e, ne_eqb f 0 h) refl) h

  module _ (e : go_refusal from to b ≡ 0) where
    pub move_short : length out < length_of (run_under to b) → Answered (record { refusal = 14; length = 0 }) out
    unfolding move_refusal
    move_short h = refused 14 (rw (e, lt-ltb (length out) (length_of (run_under to b)) h) refl) (λ q. omega arith)

    pub move_yes : (after : List ℕ) (size : ℕ) → size ≤ length out → size ≡ length_of (run_under to b)
        → after ≡ put out 0 (file_under to b) → Answered (record { refusal = 0; length = size }) after
    unfolding move_refusal move_answer moved
    move_yes after size h es ea =
        let enough = le-ltb (length out) (length_of (run_under to b)) (omega (arith, es)) in
        (rw (e, enough, es) refl, rw (e, enough) (ea ∙ put_front out (file_under to b)))

-- the refusal of an answer
pub answer_refusal : (from to : ℕ) (b : List ℕ) (room : ℕ) → (move_answer from to b room).refusal ≡ move_refusal from to b room
unfolding move_answer
answer_refusal from to b room =
    let f = move_refusal from to b room in
    either_way (eqb f 0) (λ e. rw e (sym (eqb-true f 0 e))) (λ e. rw e refl)

-- the same of an answer of the code
pub told_refusal : (r : Result ℕ Refusal) → refusal_of r ≡ (told_length r).refusal
told_refusal (Ok n) = refl
told_refusal (Err e) = refl

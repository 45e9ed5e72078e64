-- Demand 3 of a played archive, over the player's own answer and over the lent bytes of its book: bytes that the player does not
-- refuse. Assumes that the byte of the number of sends is one, which the bytes' type says.
use Prim.Native.Nat.{ℕ, suc, ◌+◌, ◌*◌, ◌≤◌, ◌<◌}
use mathlib.Core.Path.{◌≡◌, refl, sym, ap, ap₂, ◌∙◌}
use mathlib.Core.Bool.{cond}
use mathlib.Core.List.{List, [], ◌∷◌, ◌++◌}
use native.Mathlib.Omega.{arith}
use borrow.Author.Tests.{le-ltb, eqb-true}
use lib.Dec.{eqb}
use lib.ListN.{get_or, length, length-replicate}
use Rattle.base.specs.Answers.{at_front}
use Rattle.base.specs.Bools.{either_way}
use Rattle.base.specs.Over.{length_over}
use Rattle.base.specs.Sizes.{sites_most, sends_most}
use Rattle.base.specs.Sums.{sum, upto, upto_ext}
use Rattle.sets.specs.Sets.{bit}
use Rattle.types.specs.declared.Run.{Run}
use Rattle.model.specs.Types.{no_state, send_d}
use Rattle.model.specs.Events.{accepted_set}
use Rattle.model.specs.Owing.{owed}
use Rattle.model.specs.Runs.{Service, book_bytes, book_room, in_book, in_entries, events, no_sends, stored_refusal, script, played_run}
use Rattle.theorems.proofs.Played.{played_once}
use Rattle.theorems.proofs.PlayerCounts.{counts}
use Rattle.format.specs.Format.{send_of, send_width, sends_place, version_of, sites_of, count_of, run_of}
use Rattle.format.specs.Refusals.{read_refusal, decode}
use Rattle.machine.specs.Play.{play_refusal, play_answer, play_book}
use Rattle.machine.proofs.PlayerRoom.{sizes_most, room_is}
use Rattle.machine.proofs.PlayerAnswers.{archive_passes, read_refusal_lem, read_run, read_count, read_stored}

module _ (b : List ℕ) (room : ℕ) (byte : count_of b < 256) (z : play_refusal b room ≡ 0) where
  is_archive : read_refusal b ≡ 0
  is_archive = archive_passes b room z

  is_stored : stored_refusal (run_of b) ≡ 0
  is_stored =
      let d = read_refusal_lem b ∙ is_archive in
      sym (ap (λ (r : Run). stored_refusal r) (read_run b (decode b) refl d))
      ∙ read_stored b (decode b) refl d (read_count b (decode b) refl d byte)

  -- each accepted packet and site of its set: once in the book, or owed at one place of the final state
  pub archive_once : (p t : ℕ)
      → in_book p t (played_run (run_of b)).book + owed (played_run (run_of b)).state.sites p t
      ≡ bit t (accepted_set (run_of b).network no_state (events (script (run_of b))) p)
  archive_once = played_once (run_of b) is_stored

  -- in the answer, services and owed pairs make up the pairs
  pub archive_counts : (play_answer b room).counts.serviced + (play_answer b room).counts.owed ≡ (play_answer b room).counts.pairs
  unfolding play_answer
  archive_counts = rw z (counts (run_of b) is_stored)

-- ---- a room of 4 x 255 x 64 bytes is enough for the book of every archive

book_most : (b : List ℕ) → count_of b < 256 → book_room (run_of b) ≤ 4 * (sends_most * sites_most)
unfolding run_of
book_most b h =
    let v = version_of b in
    let long : length (run_of b).sends ≡ sends_most =
    length_over (λ k. send_of v b (sends_place v (sites_of b) + send_width v * k)) (count_of b) no_sends ∙ length-replicate sends_most send_d in
    let few : (run_of b).count ≤ sends_most = omega (arith, h) in
    omega (arith, few, sizes_most (run_of b).sends (run_of b).count, room_is (run_of b) (omega (arith, few, long)))

-- with so much room, 14 is never answered
pub room_enough : (b : List ℕ) (room : ℕ) → count_of b < 256 → 4 * (sends_most * sites_most) ≤ room
    → play_refusal b room ≡ read_refusal b
unfolding play_refusal
room_enough b room h k =
    rw (le-ltb room (book_room (run_of b)) (omega (arith, k, book_most b h)))
    (either_way (eqb (read_refusal b) 0) (λ e. rw e (sym (eqb-true (read_refusal b) 0 e))) (λ e. rw e refl))

-- ---- the lent bytes

-- an entry's packet byte and site byte
abbrev entry_is : ℕ → ℕ → List ℕ → ℕ → ℕ
entry_is p t bytes m = cond (eqb p (get_or bytes (4 * m + 2) 0)) (cond (eqb t (get_or bytes (4 * m + 3) 0)) 1 0) 0

next_entry : (p t a b c d : ℕ) (bytes : List ℕ) (m : ℕ) → entry_is p t (a ∷ b ∷ c ∷ d ∷ bytes) (suc m) ≡ entry_is p t bytes m
next_entry p t a b c d bytes m =
    let e : 4 * suc m + 2 ≡ suc (suc (suc (suc (4 * m + 2)))) = omega arith in
    let g : 4 * suc m + 3 ≡ suc (suc (suc (suc (4 * m + 3)))) = omega arith in
    ap₂ (λ (x y : ℕ). cond (eqb p x) (cond (eqb t y) 1 0) 0)
    (ap (λ (k : ℕ). get_or (a ∷ b ∷ c ∷ d ∷ bytes) k 0) e) (ap (λ (k : ℕ). get_or (a ∷ b ∷ c ∷ d ∷ bytes) k 0) g)

-- the entries of a book's bytes are its services, whatever stands behind them
entries_book : (p t : ℕ) (l : List Service) (rest : List ℕ) → in_entries p t (book_bytes l ++ rest) (length l) ≡ in_book p t l
unfolding book_bytes upto sum
entries_book p t [] rest = refl
entries_book p t (e ∷ l) rest =
    ap (λ (k : ℕ). cond (eqb p e.packet) (cond (eqb t e.site) 1 0) 0 + k)
    (upto_ext (length l) _ (entry_is p t (book_bytes l ++ rest)) (λ m h. next_entry p t _ _ _ _ (book_bytes l ++ rest) m)
    ∙ entries_book p t l rest)

-- demand 3 over what a caller gets: among the first `serviced` entries of the lent room those with packet byte p and site byte t,
-- and what the final state still owes
pub book_once : (b lent : List ℕ) → count_of b < 256 → play_refusal b (length lent) ≡ 0 → (p t : ℕ)
    → in_entries p t (play_book b lent) (play_answer b (length lent)).counts.serviced + owed (played_run (run_of b)).state.sites p t
    ≡ bit t (accepted_set (run_of b).network no_state (events (script (run_of b))) p)
unfolding play_book play_answer at_front
book_once b lent byte z p t =
    rw z
    (ap (λ (k : ℕ). k + owed (played_run (run_of b)).state.sites p t) (entries_book p t (played_run (run_of b)).book _)
    ∙ archive_once b (length lent) byte z p t)

-- The ways of a player, from the bytes: what the reader hands over, what `start` makes of it, the answer and the book. Assumes what each law names.
use Prim.Native.Nat.{ℕ, ◌+◌, ◌*◌, ◌≤◌, ◌<◌}
use mathlib.Core.Path.{◌≡◌, refl, sym, ap, ap₂, ◌∙◌}
use mathlib.Core.List.{List}
use mathlib.Core.Bool.{Bool, true, false, cond}
use native.Mathlib.Omega.{arith}
use borrow.Author.Tests.{lt-ltb, le-ltb, eqb-true, eqb-false, ne_eqb}
use lib.Dec.{eqb, ltb}
use lib.ListN.{length, length-replicate}
use Rattle.base.specs.Sizes.{sends_most}
use Rattle.base.specs.Over.{length_over}
use Rattle.types.specs.declared.Counts.{Counts}
use Rattle.types.specs.declared.Run.{Run}
use Rattle.model.specs.Types.{send_d}
use Rattle.model.specs.Runs.{stored_refusal, no_sends, book_room, played_run, counts_of}
use Rattle.format.specs.Refusals.{Decoded}
use Rattle.format.specs.Format.{run_of, send_of, send_width, sends_place, version_of, sites_of, count_of, no_run}
use Rattle.format.specs.Refusals.{read_refusal, decode}
use Rattle.archive.proofs.Passed.{stored_read}
use Rattle.machine.specs.Play.{play_refusal, no_counts, play_answer, book_in, play_book, book_space, Playable, start_of}
use Rattle.machine.proofs.PlayerRoom.{space_is, room_is}

abbrev told : ℕ → Run → Decoded
told k r = record { refusal = k; run = r }

module _ (b : List ℕ) where
  pub read_refusal_lem : (decode b).refusal ≡ read_refusal b
  unfolding decode
  read_refusal_lem = go (eqb (read_refusal b) 0) refl
    where
      go : (t : Bool) → eqb (read_refusal b) 0 ≡ t
          → (cond {A = Decoded} t (record { refusal = 0; run = run_of b }) (record { refusal = read_refusal b; run = no_run })).refusal
          ≡ read_refusal b
      go true e = sym (eqb-true (read_refusal b) 0 e)
      go false e = refl

  -- bytes that no player refuses are an archive
  pub archive_passes : (room : ℕ) → play_refusal b room ≡ 0 → read_refusal b ≡ 0
  unfolding play_refusal
  archive_passes room = go (eqb (read_refusal b) 0) refl
    where
      go : (t : Bool) → eqb (read_refusal b) 0 ≡ t → cond t (cond (ltb room (book_room (run_of b))) 14 0) (read_refusal b) ≡ 0
          → read_refusal b ≡ 0
      go true e h = eqb-true (read_refusal b) 0 e
      go false e h = absurd (eqb-false (read_refusal b) 0 e h)

  -- an archive: its run
  module _ (d : Decoded) (e : d ≡ decode b) where
    same_refusal : d.refusal ≡ read_refusal b
    same_refusal = ap (λ (d : Decoded). d.refusal) e ∙ read_refusal_lem

    module _ (z : d.refusal ≡ 0) where
      passes : read_refusal b ≡ 0
      passes = sym same_refusal ∙ z

      pub read_run : d.run ≡ run_of b
      unfolding decode
      read_run = ap (λ (d : Decoded). d.run) e ∙ (rw passes refl)

      pub read_long : length d.run.sends ≡ sends_most
      unfolding run_of
      read_long =
          rw read_run
          (length_over (λ k. send_of (version_of b) b (sends_place (version_of b) (sites_of b) + send_width (version_of b) * k))
          (count_of b) no_sends
          ∙ length-replicate sends_most send_d)

      -- it has so many sends as a byte says
      pub read_count : count_of b < 256 → d.run.count ≤ sends_most
      unfolding run_of
      read_count h = let e : d.run.count ≡ count_of b = ap (λ (r : Run). r.count) read_run in omega (arith, e, h)

      pub read_stored : d.run.count ≤ sends_most → stored_refusal d.run ≡ 0
      unfolding read_refusal run_of
      read_stored h =
          rw read_run (stored_read b passes (rw read_run at h))

      -- the room that is asked for is its book's
      pub read_room : count_of b < 256 → {k : ℕ} → k ≡ book_space d.run.sends d.run.count → k ≡ book_room d.run
      read_room h e =
          let few = read_count h in
          e ∙ space_is d.run.sends d.run.count few ∙ room_is d.run (omega (arith, few, read_long))

    -- ---- what `start` answers, d being what the reader handed over

    module _ (room : ℕ) where
      pub start_refused : (d.refusal ≡ 0 → ⊥) → d ≡ start_of b room
      unfolding start_of play_refusal
      start_refused ne =
          let f = ne_eqb (read_refusal b) 0 (λ z. ne (same_refusal ∙ z)) in
          rw f (ap₂ told same_refusal (ap (λ (d : Decoded). d.run) e))

      module _ (z : d.refusal ≡ 0) where
        pub start_short : room < book_room d.run → record { refusal = 14; run = d.run } ≡ start_of b room
        unfolding start_of play_refusal
        start_short h =
            let f = lt-ltb room (book_room (run_of b)) (rw (read_run z) at h) in
            rw (passes z, f) (ap (told 14) (ap (λ (d : Decoded). d.run) e))

        pub start_done : book_room d.run ≤ room → d ≡ start_of b room
        unfolding start_of play_refusal
        start_done h =
            let f = le-ltb room (book_room (run_of b)) (rw (read_run z) at h) in
            rw (passes z, f) (ap₂ told z (ap (λ (d : Decoded). d.run) e))

        pub start_playable : count_of b < 256 → book_room d.run ≤ room → Playable d.run room
        start_playable h w = record { valid = read_stored z (read_count z h); held = read_long z; wide = w }

-- ---- what a player answers, d being what it started from with so much room

module _ (b room : List ℕ) {d : Decoded} (e : d ≡ start_of b (length room)) where
  play_refusal_lem : d.refusal ≡ play_refusal b (length room)
  unfolding start_of
  play_refusal_lem = ap (λ (d : Decoded). d.refusal) e

  pub play_refused : (d.refusal ≡ 0 → ⊥)
      → (record { refusal = d.refusal; counts = no_counts } ≡ play_answer b (length room)) × (room ≡ play_book b room)
  unfolding play_answer play_book
  play_refused ne =
      let f = ne_eqb (play_refusal b (length room)) 0 (λ z. ne (play_refusal_lem ∙ z)) in
      (rw (play_refusal_lem, f) refl, rw f refl)

  pub play_done : d.refusal ≡ 0 → {counts : Counts} → counts ≡ counts_of (played_run d.run) → {book : List ℕ} → book ≡ book_in d.run room
      → (record { refusal = 0; counts = counts } ≡ play_answer b (length room)) × (book ≡ play_book b room)
  unfolding play_answer play_book start_of
  play_done z hc hb =
      let f = sym play_refusal_lem ∙ z in
      let g = ap (λ (d : Decoded). d.run) e ∙ read_run b (decode b) refl (read_refusal_lem b ∙ archive_passes b (length room) f) in
      (rw (hc, g, f) refl, rw (hb, g, f) refl)

-- Document 02, L5: moving over and back gives the same bytes, and so does moving back and over; a valid file moves back
-- exactly if it has at most 16 sites and edition 1. All of it is said over the run: the moved file is the encoding of the
-- same run under the other version. Assumes nothing but that bytes are below 256.
use mathlib.Core.Path.{◌≡◌, refl, sym, ap, ◌∙◌}
use mathlib.Core.Bool.{Bool, true, false, cond, ◌&&◌, ◌||◌}
use mathlib.Core.List.{List}
use Prim.Native.Nat.{ℕ, ◌≤◌}
use native.Mathlib.Omega.{arith}
use borrow.Author.Tests.{eq-eqb, eqb-true, le-leb, leb-true, le-ltb, ltb-false}
use lib.Dec.{eqb, ltb, leb}
use lib.ListN.{length}
use Rattle.base.specs.Sizes.{first_sites}
use Rattle.base.specs.Bools.{both, clash, first_of, second_of}
use Rattle.types.specs.declared.Run.{Run}
use Rattle.model.specs.Network.{edition_ok, trimmed_network, network_under}
use Rattle.model.specs.Runs.{stored_refusal, trimmed, under}
use Rattle.theorems.proofs.Versions.{under_stored}
use Rattle.format.specs.Format.{Bytes, Fits, encode, length_of, version_of, run_of}
use Rattle.format.specs.Refusals.{length_ok, head_then, read_refusal}
use Rattle.format.specs.Moves.{run_under, file_under, goes_into, go_refusal, move_refusal, over_refusal, back_refusal}
use Rattle.archive.proofs.MoveLaws.{next_passes, go_passes, goes_few}
use Rattle.archive.proofs.Parts.{length_encode}
use Rattle.archive.proofs.Passed.{first_few, stored_passes}
use Rattle.archive.proofs.Room.{run_trimmed}
use Rattle.archive.proofs.RoundTripBytes.{write_read}
use Rattle.archive.proofs.RoundTripRuns.{read_fits, read_stored, written_run, written_passes}

-- ---- refusals, taken apart

-- an archive has the length that it says
pub file_length : (b : List ℕ) → read_refusal b ≡ 0 → length_ok b ≡ true
unfolding read_refusal head_then
file_length b h = (first_of (length_ok b) _ 1 0 (λ e. omega arith) h).0

-- ---- a file that moves

-- valid, of the version that it is to be of, and with a run that the other version can hold
pub record Moves (from to : ℕ) (b : List ℕ) : Type 0 where
  pub valid : read_refusal b ≡ 0
  pub version : version_of b ≡ from
  pub goes : goes_into to (run_of b) ≡ true

module _ (from to : ℕ) (b : List ℕ) where
  -- is refused for the room alone
  pub move_room : Moves from to b → (room : ℕ)
      → move_refusal from to b room ≡ cond (ltb room (length_of (run_under to b))) 14 0
  unfolding move_refusal
  move_room m room =
      rw (file_length b m.valid, eq-eqb (version_of b) from m.version, m.valid, m.goes) refl

  -- and what is not refused is one, with its room
  pub move_passes : (room : ℕ) → move_refusal from to b room ≡ 0 → Moves from to b × (length_of (run_under to b) ≤ room)
  unfolding move_refusal
  move_passes room h =
      let f = next_passes (go_refusal from to b) _ h in
      let g = go_passes b from to f.0 in
      let x = second_of (ltb room (length_of (run_under to b))) 14 0 0 (λ e. omega arith) f.1 in
      (record { valid = g.0; version = sym g.1; goes = g.2 }, ltb-false _ _ x.0)

-- ---- the moved file

second_has : (a b c : Bool) → (a || b && c) ≡ true → (a || b && true) ≡ true
second_has true b c h = refl
second_has false true c h = refl
second_has false false c h = h

-- an edition that is known is known in every version that the run goes into: version 1 takes edition 1 alone, version 2 all
goes_edition : (v : ℕ) (r : Run) → (eqb v 1 || eqb v 2) ≡ true → edition_ok r.network ≡ true → goes_into v r ≡ true
    → edition_ok (network_under v r.network) ≡ true
unfolding network_under
goes_edition v r known h goes = go (eqb v 1) (eqb v 2) known goes
  where
    E : ℕ
    E = r.network.edition

    go : (a b : Bool) → (a || b) ≡ true → cond a (leb r.network.sites first_sites && eqb E 1) true ≡ true
        → (eqb E 1 || (eqb E 2 || eqb E 3) && b) ≡ true
    go true b k g = rw (both (leb r.network.sites first_sites) (eqb E 1) g).1 refl
    go false true k g = second_has (eqb E 1) (eqb E 2 || eqb E 3) (eqb r.network.version 2) h
    go false false k g = absurd (clash (sym k))

module _ (from to : ℕ) (known : (eqb to 1 || eqb to 2) ≡ true) (b : List ℕ) (w : Bytes b) (m : Moves from to b) where
  was_stored : stored_refusal (run_of b) ≡ 0
  was_stored = read_stored b w m.valid

  pub moved_stored : stored_refusal (run_under to b) ≡ 0
  unfolding network_under
  moved_stored =
      let z = stored_passes (run_of b) was_stored in
      under_stored to (run_of b) was_stored known (goes_edition to (run_of b) known z.edition m.goes)
      (goes_few to (run_of b) z.sizes m.goes)

  fits : Fits (run_under to b)
  unfolding under network_under
  fits =
      let f = read_fits b w in
      record {
        tries = f.tries;
        edition = f.edition;
        channels = f.channels;
        routes = f.routes;
        seed = f.seed;
        draws = f.draws;
        marks = f.marks;
        sites = f.sites;
        sets = f.sets;
      }

  -- is a valid file of the same run, under the other version
  pub moved_valid : read_refusal (file_under to b) ≡ 0
  unfolding file_under
  moved_valid = written_passes (run_under to b) moved_stored fits

  pub moved_run : run_of (file_under to b) ≡ run_under to b
  unfolding file_under trimmed trimmed_network under network_under
  moved_run = written_run (run_under to b) moved_stored fits ∙ ap (under to) (run_trimmed b)

  -- and moves back to the same bytes
  run_again : under from (run_under to b) ≡ run_of b
  unfolding under network_under run_of
  run_again = rw (← m.version) refl

  pub moved_again : file_under from (file_under to b) ≡ b
  unfolding file_under
  moved_again =
      ap (λ (r : Run). encode (under from r)) moved_run ∙ ap encode run_again ∙ write_read b w m.valid

  pub moves_again : goes_into from (run_of b) ≡ true → Moves to from (file_under to b)
  unfolding under network_under run_of
  moves_again g =
      record {
        valid = moved_valid;
        version = ap (λ (r : Run). r.network.version) moved_run;
        goes = ap (goes_into from) moved_run ∙ g;
      }

  length_again : length_of (run_under from (file_under to b)) ≡ length b
  unfolding file_under
  length_again = sym (length_encode (run_under from (file_under to b))) ∙ ap length moved_again

  refused_again : goes_into from (run_of b) ≡ true → (room : ℕ)
      → move_refusal to from (file_under to b) room ≡ cond (ltb room (length b)) 14 0
  refused_again g room =
      move_room to from (file_under to b) (moves_again g) room
      ∙ ap (λ (n : ℕ). cond (ltb room n) 14 0) length_again

-- ---- the theorems

-- "Version 1 keeps its 16 sites and its meaning, and is edition 1"
first_goes : (b : List ℕ) → Bytes b → Moves 1 2 b → goes_into 1 (run_of b) ≡ true
unfolding run_of
first_goes b w m =
    let few = first_few (run_of b).network m.version (stored_passes (run_of b) (read_stored b w m.valid)).sizes in
    rw (le-leb _ _ few, m.version) refl

-- "Moving over and back gives the same bytes": the moved file is refused for the room alone, and moves back to the file
pub over_back : (b : List ℕ) → Bytes b → (room : ℕ) → over_refusal b room ≡ 0
    → ((room' : ℕ) → back_refusal (file_under 2 b) room' ≡ cond (ltb room' (length b)) 14 0)
    × (file_under 1 (file_under 2 b) ≡ b)
over_back b w room h =
    let m = (move_passes 1 2 b room h).0 in
    (refused_again 1 2 refl b w m (first_goes b w m), moved_again 1 2 refl b w m)

-- and back and over
pub back_over : (b : List ℕ) → Bytes b → (room : ℕ) → back_refusal b room ≡ 0
    → ((room' : ℕ) → over_refusal (file_under 1 b) room' ≡ cond (ltb room' (length b)) 14 0)
    × (file_under 2 (file_under 1 b) ≡ b)
back_over b w room h =
    let m = (move_passes 2 1 b room h).0 in
    (refused_again 2 1 refl b w m refl, moved_again 2 1 refl b w m)

-- "A valid file, given room, moves back exactly if it has at most 16 sites and edition 1."
pub back_exactly : (b : List ℕ) (room : ℕ) → read_refusal b ≡ 0 → version_of b ≡ 2 → length_of (run_under 1 b) ≤ room
    → (back_refusal b room ≡ 0 → ((run_of b).network.sites ≤ 16) × ((run_of b).network.edition ≡ 1))
    × ((run_of b).network.sites ≤ 16 → (run_of b).network.edition ≡ 1 → back_refusal b room ≡ 0)
back_exactly b room ok second enough =
    let S = (run_of b).network.sites in
    let E = (run_of b).network.edition in (
      λ h.
          let g = both (leb S first_sites) (eqb E 1) (move_passes 2 1 b room h).0.goes in
          (leb-true S first_sites g.0, eqb-true E 1 g.1),
      λ few first.
          let goes : goes_into 1 (run_of b) ≡ true = rw (le-leb S first_sites few, first) refl in
          move_room 2 1 b (record { valid = ok; version = second; goes = goes }) room
          ∙ rw (le-ltb room (length_of (run_under 1 b)) enough) refl,
    )

-- a valid file of version 1, given room, always moves over
pub over_always : (b : List ℕ) (room : ℕ) → read_refusal b ≡ 0 → version_of b ≡ 1 → length_of (run_under 2 b) ≤ room
    → over_refusal b room ≡ 0
over_always b room ok first enough =
    move_room 1 2 b (record { valid = ok; version = first; goes = refl }) room
    ∙ rw (le-ltb room (length_of (run_under 2 b)) enough) refl

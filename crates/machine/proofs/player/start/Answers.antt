use Rattle.std.proofs.Common.{◌<◌, ◌≤◌, refl, sym, arith}
use Rattle.std.proofs.lemmas.Option.{none-some}
use Rattle.base.specs.Refusals.{number, number_nonzero}
use Rattle.model.specs.Runs.{book_room}
use Rattle.format.specs.Format.{version_of, count_place, count_of, no_run}
use Rattle.format.specs.Refusals.{Decoded}
use Rattle.machine.proofs.PlayerAnswers.{read_room, start_refused, start_short, start_done, start_playable}
use Rattle.machine.proofs.player.start.Goals as goal

pub returns-in-Err : goal.returns-in-Err
returns-in-Err c =
    let a = c.args in
    let d : Decoded = record { refusal = number c.in-Err.refusal; run = no_run } in
    (rw c.no_run.ensures (start_refused a.bytes.now d c.in-Err.ensures a.room (number_nonzero c.in-Err.refusal)), λ z. absurd (none-some _ (sym z)))

pub returns-then-room-book_room : goal.returns-then-room-book_room
returns-then-room-book_room c =
    let a = c.args in
    let b = a.bytes.now in
    let d : Decoded = record { refusal = 0; run = c.in-Ok.run' } in
    let byte : count_of b < 256 = omega (arith, c.shared_slice_known-1.given (count_place (version_of b))) in
    let w = read_room b d c.in-Ok.ensures refl byte c.book_room.ensures in
    (start_short b d c.in-Ok.ensures a.room refl (omega (arith, w, c.if-room-book_room.true)), λ z. absurd (none-some _ (sym z)))

pub returns : goal.returns
returns c =
    let a = c.args in
    let b = a.bytes.now in
    let d : Decoded = record { refusal = 0; run = c.in-Ok.run' } in
    let byte : count_of b < 256 = omega (arith, c.shared_slice_known-1.given (count_place (version_of b))) in
    let w = read_room b d c.in-Ok.ensures refl byte c.book_room.ensures in
    let h : book_room c.in-Ok.run' ≤ a.room = omega (arith, w, c.if-room-book_room.false) in (
      start_done b d c.in-Ok.ensures a.room refl h,
      λ e. start_playable b d c.in-Ok.ensures a.room refl byte h,
    )

-- `text::put_all` meets its contract: a byte a turn. Assumes nothing.
use mathlib.Core.Path.{◌≡◌, refl, sym, ap, ◌∙◌}
use mathlib.Core.List.{List}
use Prim.Native.Nat.{ℕ, ◌+◌}
use native.Mathlib.Numerals.{add-one}
use lib.ListN.{length, length-set, set, get_or}
use lib.Seq.{paste, paste-zero, paste-suc, take-length}
use native.Mathlib.Omega.{arith}
use Rattle.base.specs.Put.{put}
use Rattle.report.proofs.text.put_all.Goals as goal

pub loop-i-init : goal.loop-i-init
loop-i-init c = (refl, omega arith, paste-zero c.args.room.now c.args.at c.args.bytes.now)

pub bounds-bytes-i : goal.bounds-bytes-i
bounds-bytes-i c = omega arith

pub overflow_add-room : goal.overflow_add-room
overflow_add-room c = omega arith

pub bounds-room-at : goal.bounds-room-at
bounds-room-at c = omega arith

pub loop-i-preserved : goal.loop-i-preserved
loop-i-preserved c =
    let l = c.loop-i in
    let a = c.args in (
      simp length-set l.invariant.0,
      omega arith,
      ap (λ (d : List ℕ). set d (a.at + l.i) (get_or a.bytes.now l.i 0)) l.invariant.2
          ∙ paste-suc a.room.now a.at a.bytes.now l.i 0 (omega arith) (omega arith)
          ∙ ap (paste a.room.now a.at a.bytes.now) (sym (add-one l.i)),
    )

pub overflow_add-result : goal.overflow_add-result
overflow_add-result c = omega arith

pub shape_of-room : goal.shape_of-room
shape_of-room c = omega arith

pub returns : goal.returns
unfolding put
returns c =
    let l = c.loop-i in
    let bytes = c.args.bytes.now in
    let e : l.i ≡ length bytes = omega arith in
    record { place = refl; bytes = l.invariant.2 ∙ rw (e, take-length bytes) }

-- `mover::moved_file` meets its contract, one law of MoveLaws for each way. Assumes nothing.
use Rattle.std.proofs.Common.{◌≡◌, sym, ◌∙◌, rules, arith}
use Rattle.base.specs.Refusals.{number, number_nonzero}
use Rattle.format.specs.Refusals.{told_length}
use Rattle.faults.proofs.HeadLaws.{read_passes}
use Rattle.archive.proofs.MoveLaws.{go_passes, movable, move_no, move_short, move_yes}
use Rattle.archive.proofs.MoveParts.{fields_within, size_here}
use Rattle.archive.proofs.mover.moved_file.Goals as goal

pub returns-in_err-go_refusal : goal.returns-in_err-go_refusal
returns-in_err-go_refusal c =
    let a = c.args in
    let e = c.in_err-go_refusal.field-0.0 in
    let told : told_length c.from_residual.result ≡ record { refusal = number e; length = 0 } = search rules in
    let no = move_no a.from a.to a.b.now a.out.now (number e) c.in_err-go_refusal.ensures (number_nonzero e) in
    (told ∙ no.0, no.1)

pub bounds-b-p : goal.bounds-b-p
bounds-b-p c =
    let a = c.args in
    let ok = go_passes a.b.now a.from a.to (sym c.in_ok-go_refusal.ensures) in
    omega (arith, (fields_within _ a.from _ (read_passes _ ok.0) ok.1 c.fields_place-p.ensures).1)

pub overflow_add-p : goal.overflow_add-p
overflow_add-p c =
    let a = c.args in
    let ok = go_passes a.b.now a.from a.to (sym c.in_ok-go_refusal.ensures) in
    omega (arith, (fields_within _ a.from _ (read_passes _ ok.0) ok.1 c.fields_place-p.ensures).1)

pub bounds-b-p-2 : goal.bounds-b-p-2
bounds-b-p-2 c =
    let a = c.args in
    let ok = go_passes a.b.now a.from a.to (sym c.in_ok-go_refusal.ensures) in
    omega (arith, (fields_within _ a.from _ (read_passes _ ok.0) ok.1 c.fields_place-p.ensures).1)

pub returns-then-out-size : goal.returns-then-out-size
returns-then-out-size c =
    let a = c.args in
    let b = a.b.now in
    let passed = sym c.in_ok-go_refusal.ensures in
    let ok = go_passes b a.from a.to passed in
    let size = size_here b a.from _ (read_passes _ ok.0) ok.1 c.fields_place-p.ensures a.to _ c.size_of-size.ensures in
    move_short a.from a.to b a.out.now passed (omega (arith, size, c.if-out-size.true))

pub move_parts-requires : goal.move_parts-requires
move_parts-requires c =
    let a = c.args in
    let b = a.b.now in
    let ok = go_passes b a.from a.to (sym c.in_ok-go_refusal.ensures) in
    let size = size_here b a.from _ (read_passes _ ok.0) ok.1 c.fields_place-p.ensures a.to _ c.size_of-size.ensures in
    (movable b a.from a.to ok.0 ok.1 ok.2, size, omega arith)

pub returns : goal.returns
returns c =
    let a = c.args in
    let b = a.b.now in
    let passed = sym c.in_ok-go_refusal.ensures in
    let ok = go_passes b a.from a.to passed in
    let size = size_here b a.from _ (read_passes _ ok.0) ok.1 c.fields_place-p.ensures a.to _ c.size_of-size.ensures in
    move_yes a.from a.to b a.out.now passed _ _ (omega arith) size c.move_parts.ensures

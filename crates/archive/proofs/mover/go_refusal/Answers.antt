-- `mover::go_refusal` meets its contract: what the file itself is refused for, then 15. Assumes nothing.
use Rattle.std.proofs.Common.{◌≡◌, refl, sym, ◌∙◌, rules, arith}
use Rattle.base.specs.Refusals.{number, number_some, refusal_of}
use Rattle.faults.proofs.HeadLaws.{read_passes}
use Rattle.archive.proofs.MoveLaws.{file_passes}
use Rattle.archive.proofs.MoveParts.{fields_within, goes_here, go_yes, go_15}
use Rattle.archive.proofs.mover.go_refusal.Goals as goal

pub returns-in_err-file_refusal : goal.returns-in_err-file_refusal
returns-in_err-file_refusal c =
    let e = c.in_err-file_refusal.field-0.0 in
    let told : refusal_of c.from_residual.result ≡ number e = search rules in
    told ∙ rw (← c.in_err-file_refusal.ensures, number_some e) refl

pub bounds-b-p : goal.bounds-b-p
bounds-b-p c =
    let a = c.args in
    let ok = file_passes a.b.now a.from (sym c.in_ok-file_refusal.ensures) in
    omega (arith, (fields_within _ a.from _ (read_passes _ ok.0) ok.1 c.fields_place-p.ensures).1)

pub bounds-b-3 : goal.bounds-b-3
bounds-b-3 c =
    let a = c.args in
    let ok = file_passes a.b.now a.from (sym c.in_ok-file_refusal.ensures) in
    omega (arith, (fields_within _ a.from _ (read_passes _ ok.0) ok.1 c.fields_place-p.ensures).0)

pub returns-then-not-goes_into : goal.returns-then-not-goes_into
returns-then-not-goes_into c =
    let a = c.args in
    let passed = sym c.in_ok-file_refusal.ensures in
    let ok = file_passes a.b.now a.from passed in
    let place = c.fields_place-p.ensures in
    let head = read_passes _ ok.0 in
    let goes = goes_here _ a.from _ head ok.1 place a.to _ c.edition_of.ensures _ c.goes_into.ensures in
    go_15 _ a.from _ head ok.1 place passed a.to (sym goes ∙ c.if-not-goes_into.true)

pub returns : goal.returns
returns c =
    let a = c.args in
    let passed = sym c.in_ok-file_refusal.ensures in
    let ok = file_passes a.b.now a.from passed in
    let place = c.fields_place-p.ensures in
    let head = read_passes _ ok.0 in
    let goes = goes_here _ a.from _ head ok.1 place a.to _ c.edition_of.ensures _ c.goes_into.ensures in
    go_yes _ a.from _ head ok.1 place passed a.to (sym goes ∙ c.if-not-goes_into.false)

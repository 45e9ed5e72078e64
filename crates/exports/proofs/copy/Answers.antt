-- `copy` meets its contract, one law of CopyWays for each way. Assumes nothing.
use Rattle.std.proofs.Common.{◌≡◌, refl, ◌∙◌, rules}
use Rattle.base.specs.Refusals.{number, number_nonzero, refusal_of}
use Rattle.exports.proofs.CopyWays.{copy_refused, copy_short, copy_done}
use Rattle.exports.proofs.copy.Goals as goal

pub returns-in_err-check : goal.returns-in_err-check
returns-in_err-check c =
    let a = c.args in
    let e = c.in_err-check.field-0.0 in
    let told : refusal_of c.from_residual.result ≡ number e = search rules in
    let no = copy_refused a.bytes.now a.out.now (number e) c.in_err-check.ensures (number_nonzero e) in
    (told ∙ no.0, no.1)

pub returns-then-out-bytes : goal.returns-then-out-bytes
returns-then-out-bytes c =
    let a = c.args in
    copy_short a.bytes.now a.out.now 0 c.in_ok-check.ensures refl c.if-out-bytes.true

pub returns : goal.returns
returns c =
    let a = c.args in
    copy_done a.bytes.now a.out.now 0 c.in_ok-check.ensures refl _ c.if-out-bytes.false c.put_bytes.ensures

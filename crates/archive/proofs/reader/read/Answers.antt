-- `reader::read` meets its contract, one law of Answers for each way. Assumes nothing.
use Rattle.std.proofs.Common.{◌≡◌, refl, sym, ◌∙◌, rules}
use Rattle.base.specs.Refusals.{number, number_nonzero}
use Rattle.format.specs.Format.{no_run}
use Rattle.format.specs.Refusals.{told_run}
use Rattle.faults.proofs.HeadLaws.{read_passes}
use Rattle.archive.proofs.Answers.{decode_no, decode_yes}
use Rattle.archive.proofs.reader.read.Goals as goal

pub returns-in_err-check : goal.returns-in_err-check
returns-in_err-check c =
    let e = c.in_err-check.field-0.0 in
    let told : told_run c.from_residual.result ≡ record { refusal = number e; run = no_run } = search rules in
    told ∙ decode_no _ _ c.in_err-check.ensures (number_nonzero e)

pub read_run-requires : goal.read_run-requires
read_run-requires c = read_passes _ (sym c.in_ok-check.ensures)

pub returns : goal.returns
returns c = decode_yes _ _ _ c.in_ok-check.ensures refl c.read_run.ensures

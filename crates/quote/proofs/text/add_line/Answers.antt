-- `text::add_line` meets its contract: two additions are one. Assumes nothing.
use Rattle.report.proofs.Adds.{added_then}
use Rattle.quote.proofs.text.add_line.Goals as goal

pub returns : goal.returns
returns c = added_then c.add_number-behind.ensures.1 c.add_bytes.ensures.1

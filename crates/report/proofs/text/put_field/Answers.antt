-- `text::put_field` meets its contract: a number, then the word behind it. Assumes nothing.
use Rattle.report.proofs.Puts.{then}
use native.Mathlib.Omega.{arith}
use Rattle.report.proofs.text.put_field.Goals as goal

pub returns : goal.returns
returns c = then (omega arith) c.put_number-end.ensures c.put_all.ensures

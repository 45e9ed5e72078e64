-- `text::put_number` meets its contract: what `io::decimal` puts is the number's text. Assumes nothing.
use mathlib.Core.Path.{◌≡◌, ◌∙◌}
use lib.ListN.{take}
use native.Mathlib.Omega.{arith}
use Rattle.lines.specs.Text.{decimal}
use Rattle.report.proofs.Numbers.{decimal_is}
use Rattle.report.proofs.text.put_number.Goals as goal

pub put_all-requires : goal.put_all-requires
put_all-requires c =
    let k = c.decimal-k in
    let e : take k.result k.new.out ≡ decimal c.args.n
    = k.ensures.digits ∙ decimal_is k.result c.args.n (omega arith) k.ensures.len in
    rw e (omega arith)

pub returns : goal.returns
returns c =
    let k = c.decimal-k in
    let e : take k.result k.new.out ≡ decimal c.args.n
    = k.ensures.digits ∙ decimal_is k.result c.args.n (omega arith) k.ensures.len in
    rw e at c.put_all.ensures

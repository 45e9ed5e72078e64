use mathlib.Core.Path.{◌∙◌}
use mathlib.Core.Bool.{not}
use lib.Dec.{eqb}
use Prim.Native.Nat.{ℕ}
use Rattle.std.proofs.Common.{rules, tests}
use Rattle.std.proofs.lemmas.Iterator.{YieldsList-from_slice}
use Rattle.std.proofs.lemmas.Iterator.Consumers.{YieldsList-from_filter, count_from_yields_List}
use Rattle.std.proofs.lemmas.List.Sums.{length-filter}
use Rattle.rules.proofs.Found.{counted}
use Rattle.rules.proofs.router.count_chosen.Goals as goal

pub returns : goal.returns
returns c =
    let sets = c.args.sets in
    let chosen = λ (x : ℕ). not (eqb x 0) in
    count_from_yields_List c.filter.result _ c.count.ensures.ran (YieldsList-from_filter _ chosen (YieldsList-from_slice sets cc)
    c.filter.ensures.closure (λ x r q k. search (rules, tests)))
    ∙ length-filter chosen sets ∙ counted chosen sets

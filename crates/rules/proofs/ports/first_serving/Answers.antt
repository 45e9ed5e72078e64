use mathlib.Core.Path.{refl, ◌∙◌}
use Rattle.std.proofs.Common.{rules, tests}
use Rattle.std.proofs.lemmas.Iterator.{YieldsList-from_slice}
use Rattle.std.proofs.lemmas.Iterator.Search.{find_from_yields_List}
use Rattle.std.proofs.lemmas.Iterator.Consumers.{YieldsList-from_copied}
use Rattle.model.specs.Router.{serves}
use Rattle.rules.proofs.Found.{found_port, same_found}
use Rattle.rules.proofs.ports.first_serving.Goals as goal

pub returns-clause-first : goal.returns-clause-first
returns-clause-first c =
    let ok = serves c.args.outputs.now c.args.sets.now in
    let list = c.args.list in
    same_found _ (find_from_yields_List ok _ _ c.find.result c.find.ensures.ran (YieldsList-from_copied (YieldsList-from_slice list cc))
    (λ x b q k. search (rules, tests))) ∙ found_port ok list refl

use mathlib.Core.Path.{refl}
use mathlib.Core.List.{[], ◌∷◌}
use native.Mathlib.Omega.{arith}
use Rattle.std.proofs.Common.{rules, tests}
use Rattle.std.proofs.lemmas.Iterator.{YieldsList-from_range}
use Rattle.std.proofs.lemmas.Iterator.Search.{find_from_yields_List}
use Rattle.model.specs.Router.{is_chosen}
use Rattle.rules.proofs.Found.{found_first, same_found}
use Rattle.rules.proofs.router.first_chosen.Goals as goal

pub returns : goal.returns
returns c =
    let ok = is_chosen c.args.sets in
    let e = same_found _ (find_from_yields_List ok _ _ c.find.result c.find.ensures.ran (YieldsList-from_range 1 5 4 refl (omega arith))
    (λ x b q k. search (rules, tests))) in
    rw (c.unwrap_or.ensures, e) (found_first ok (1 ∷ 2 ∷ 3 ∷ 4 ∷ []))

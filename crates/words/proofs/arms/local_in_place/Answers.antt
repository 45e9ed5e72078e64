use mathlib.Core.Path.{sym, ◌∙◌}
use Rattle.words.proofs.Acts.{local_none, local_done}
use borrow.Author.Rules.{rules}
use Rattle.words.proofs.arms.local_in_place.Goals as goal

pub returns-then-is_at_rest : goal.returns-then-is_at_rest
returns-then-is_at_rest c = local_none _ _ (search rules) _ _ (sym c.is_at_rest.ensures ∙ c.if-is_at_rest.true)

pub returns : goal.returns
returns c = local_done _ _ _ _ _ _ _ c.local_turn-turn.ensures c.put_local.ensures

use mathlib.Core.Path.{sym, ap, ◌∙◌}
use mathlib.Core.Bool.{not}
use borrow.Author.Tests.{eq-eqb}
use Rattle.words.proofs.Acts.{pass_rests, pass_never}
use Rattle.words.proofs.arms.channel_in_place.Goals as goal
use Rattle.words.proofs.arms.channel_in_place.Goals.{then-is_at_rest-via-then-is_at_rest, then-is_at_rest-via-else-is_at_rest+then-channel-eq-NO_CHANNEL}

pub returns-then-is_at_rest : goal.returns-then-is_at_rest
returns-then-is_at_rest c =
    elim c.then-is_at_rest.branch [
      | then-is_at_rest-via-then-is_at_rest w ↦ pass_rests _ _ c.told-words _ _ _ (sym c.is_at_rest.ensures ∙ w.if-is_at_rest.true)
      | then-is_at_rest-via-else-is_at_rest+then-channel-eq-NO_CHANNEL w ↦
          pass_never _ _ c.told-words _ _ _ (ap not (eq-eqb _ _ w.if-channel-eq-NO_CHANNEL.true))
    ]

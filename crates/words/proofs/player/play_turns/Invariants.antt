use Rattle.words.proofs.PlayLaws.{Going}
use Rattle.words.proofs.player.play_turns.Given as goal

abbrev pub invariant-loop-turn : goal.invariant-loop-turn
invariant-loop-turn l = Going l.run l.initial.book l.total l._turn l.words l.book l.t

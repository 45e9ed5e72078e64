use Rattle.machine.proofs.ProgressLaws.{stored_sends}
use native.Mathlib.Omega.{arith}
use Rattle.words.proofs.PlayLaws.{going, turnable, goes_on, gone}
use mathlib.Core.Path.{refl}
use borrow.Author.Rules.{rules}
use Rattle.words.proofs.player.play_turns.Goals as goal

pub overflow_add-total : goal.overflow_add-total
overflow_add-total c = omega (arith, (stored_sends _ c.requires.run.valid).0)

pub loop-turn-init : goal.loop-turn-init
loop-turn-init c = going _ _ _ _ c.requires (search rules) (search rules)

pub take_turn-t-requires : goal.take_turn-t-requires
take_turn-t-requires c = turnable c.loop-turn.invariant

pub loop-turn-preserved : goal.loop-turn-preserved
loop-turn-preserved c = goes_on c.loop-turn.invariant c.loop-turn-test.true c.capped.ensures refl c.take_turn-t.ensures

pub returns : goal.returns
returns c = gone c.loop-turn.invariant c.loop-turn-test.false

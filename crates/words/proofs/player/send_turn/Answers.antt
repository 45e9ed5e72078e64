use Rattle.base.specs.Sizes.{set_bits}
use Rattle.sets.proofs.LawsBit.{size_most}
use native.Mathlib.Omega.{arith}
use Rattle.words.proofs.TurnLaws.{refused_on}
use Rattle.words.proofs.player.send_turn.Goals as goal

pub returns-in_default : goal.returns-in_default
returns-in_default c = refused_on _ _ _ _ _ _ _ _ c.from.ensures c.send_in_place-answer.ensures _ c.in_default.is

pub overflow_add-result-2 : goal.overflow_add-result-2
overflow_add-result-2 c = omega (arith, c.requires.4, c.size.ensures, size_most set_bits c.args.order.set)

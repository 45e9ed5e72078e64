use mathlib.Core.Path.{sym, ◌∙◌}
use Rattle.words.proofs.Acts.{timeout_spared, timeout_done}
use borrow.Author.Rules.{rules}
use Rattle.words.proofs.arms.timeout_in_place.Goals as goal

pub returns-then-not-can_cut : goal.returns-then-not-can_cut
returns-then-not-can_cut c =
    timeout_spared _ _ c.told-words c.args.edition _ _ c.feeder_of-i.ensures c.load_input-input.ensures
    (sym c.can_cut.ensures ∙ c.if-not-can_cut.true)

pub returns : goal.returns
returns c =
    timeout_done _ _ _ _ c.args.edition _ _ _ c.requires.0 (search rules) c.feeder_of-i.ensures c.load_input-input.ensures
    c.cutting-marks.ensures _ c.timeout_turn-turn.ensures c.put_input.ensures

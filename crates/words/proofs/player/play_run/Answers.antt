use borrow.Author.Rules.{rules}
use mathlib.Core.Path.{refl}
use Rattle.layout.specs.Words.{no_words}
use Rattle.words.proofs.PlayLaws.{played_words}
use Rattle.words.proofs.player.play_run.Goals as goal

pub play_turns-t-requires : goal.play_turns-t-requires
unfolding no_words
play_turns-t-requires c = record { run = c.requires; words = refl }

pub returns : goal.returns
returns c = played_words _ _ _ _ _ c.requires (search rules) c.play_turns-t.ensures _ c.owed_in_place.ensures

use mathlib.Core.Path.{refl}
use Rattle.words.specs.Owing.{owed_words}
use Rattle.words.proofs.Publics.{whole_state, unsized_state}
use Rattle.words.proofs.owing.owed.Goals as goal

pub returns-in-Some : goal.returns-in-Some
unfolding owed_words
returns-in-Some c =
    let w = c.in-Some.ensures.cases in
    rw (whole_state _ _ w, ← c.is_canonical.ensures, c.if-is_canonical.true, c.owed_in_place.ensures, w.same) refl

pub returns-in_default : goal.returns-in_default
unfolding owed_words
returns-in_default c = rw (whole_state _ _ c.in-Some.ensures.cases, ← c.is_canonical.ensures, c.if-is_canonical.false) refl

pub returns-in_default-2 : goal.returns-in_default-2
unfolding owed_words
returns-in_default-2 c = rw (unsized_state _ (rw c.in_default.is at c.as_array.ensures.cases)) refl

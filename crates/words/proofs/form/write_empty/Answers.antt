use mathlib.Core.Path.{refl}
use borrow.Author.Tests.{eq-eqb, ne_eqb}
use Rattle.layout.specs.Words.{no_words, emptied}
use borrow.Author.Rules.{rules}
use Rattle.words.proofs.form.write_empty.Goals as goal

pub returns-then-sized : goal.returns-then-sized
unfolding emptied no_words
returns-then-sized c =
    let h = c.if-sized.true in
    (refl, rw (eq-eqb _ _ h) (rw h at (c.fill.ensures.after (λ y e. search rules))))

pub returns-else-sized : goal.returns-else-sized
unfolding emptied
returns-else-sized c = (refl, rw (ne_eqb _ _ c.if-sized.false) refl)

use borrow.Author.Tests.{eq-eqb}
use Rattle.layout.proofs.Canonical.{zero_same, packed_same}
use Rattle.words.proofs.form.place_same.Goals as goal

pub returns-then-w-eq0 : goal.returns-then-w-eq0
returns-then-w-eq0 c =
    let a = c.args in
    rw (eq-eqb _ _ c.if-w-eq0.true) (zero_same a.words.now a.s _ _ c.requires.1 c.fields_at-w.ensures c.if-w-eq0.true)

pub returns-else-w-eq0 : goal.returns-else-w-eq0
returns-else-w-eq0 c =
    let a = c.args in
    packed_same a.words.now a.s _ _ _ _ c.requires.1 c.set_at.ensures c.fields_at-w.ensures c.repacked.ensures

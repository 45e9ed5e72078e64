use mathlib.Core.Path.{refl}
use Rattle.base.specs.Ranges.{all_in_range}
use Rattle.layout.specs.Layout.{site_places}
use Rattle.layout.specs.Words.{place_same}
use borrow.Author.Rules.{rules}
use Rattle.words.proofs.form.site_same.Goals as goal

pub returns : goal.returns
returns c =
    let a = c.args in
    rw (all_in_range (place_same a.words.now a.s) site_places _ _ _ c.all.ensures.ran refl (λ x b q k. search rules)) refl

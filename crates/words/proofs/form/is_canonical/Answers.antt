use mathlib.Core.Path.{refl, sym, ◌∙◌}
use Prim.Native.Nat.{ℕ}
use Rattle.base.specs.Sizes.{sites_most}
use Rattle.base.specs.All.{all}
use Rattle.base.specs.Ranges.{all_in_range}
use Rattle.layout.specs.Layout.{site_places}
use Rattle.layout.specs.Words.{place_same, canonical}
use borrow.Author.Rules.{rules}
use Rattle.words.proofs.form.is_canonical.Goals as goal

pub returns-then-all : goal.returns-then-all
unfolding canonical
returns-then-all c =
    let sites = λ (s : ℕ). all (place_same c.args.words.now s) site_places in
    let e = all_in_range sites sites_most _ _ c.all.result c.all.ensures.ran refl (λ x b q k. search rules) in
    rw (sym e ∙ c.if-all.true) refl

pub returns-else-all : goal.returns-else-all
unfolding canonical
returns-else-all c =
    let sites = λ (s : ℕ). all (place_same c.args.words.now s) site_places in
    let e = all_in_range sites sites_most _ _ c.all.result c.all.ensures.ran refl (λ x b q k. search rules) in
    rw (sym e ∙ c.if-all.false) c.if-all.false

use mathlib.Core.Path.{refl}
use Prim.Native.Nat.{ℕ}
use Rattle.base.specs.Sizes.{sites_most}
use Rattle.base.specs.Ranges.{all_in_range}
use Rattle.model.specs.Types.{site_at}
use Rattle.model.specs.Range.{place_ok}
use Rattle.layout.specs.Words.{sites_of}
use Rattle.words.proofs.Publics.{range_found}
use borrow.Author.Rules.{rules}
use Rattle.words.proofs.refusals.is_in_range.Goals as goal

pub returns : goal.returns
returns c =
    let n = c.args.network.now in
    let xs = sites_of c.args.words.now in
    let ok = λ (t : ℕ). place_ok n.edition n.sites n.tries n.depth c.load_counter-counter.result t (site_at xs t) in
    range_found n _ c.args.words.now _ c.load_counter-counter.ensures
    (all_in_range ok sites_most _ _ c.all.result c.all.ensures.ran refl (λ x b q k. search rules))

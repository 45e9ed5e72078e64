use Rattle.std.proofs.Common.{rules, refl}
use Rattle.base.specs.Sizes.{sites_most}
use Rattle.base.specs.Ranges.{all_in_range}
use Rattle.model.specs.Range.{in_range, place_ok}
use Rattle.model.specs.Types.{site_at}
use Rattle.checks.proofs.range.is_in_range.Goals as goal

pub returns : goal.returns
unfolding in_range
returns c =
    let n = c.args.network in
    let st = c.args.state in
    all_in_range (λ s. place_ok n.edition n.sites n.tries n.depth st.counter s (site_at st.sites s)) sites_most _ _ _
    c.all.ensures.ran refl (λ x b q k. search rules)

use mathlib.Core.Path.{◌≡◌, refl, ap, ◌∙◌}
use native.Mathlib.Omega.{arith}
use lib.ListN.{length}
use lib.Seq.{take_all}
use borrow.Author.Rules.{rules}
use Rattle.base.specs.Sizes.{sites_most}
use Rattle.base.specs.Sums.{isum, isum_next}
use Rattle.model.specs.Types.{site_d}
use Rattle.model.specs.Owing.{pairs_site, owed_pairs}
use Rattle.machine.proofs.owing.owed_pairs.Goals as goal

pub loop-s-init : goal.loop-s-init
unfolding isum
loop-s-init c = (omega arith, refl)

pub loop-s-preserved : goal.loop-s-preserved
loop-s-preserved c =
    let sites = c.args.state.sites in
    let l = c.loop-s in
    let e : length sites ≡ sites_most = search rules in (
      omega (arith, c.site_pairs-n.ensures.1),
      omega (arith, l.invariant.1, c.site_pairs-n.ensures.0, isum_next pairs_site sites l.s site_d (omega arith)),
    )

pub returns : goal.returns
unfolding owed_pairs
returns c =
    let sites = c.args.state.sites in
    let l = c.loop-s in
    let e : length sites ≡ sites_most = search rules in
    l.invariant.1 ∙ ap (isum pairs_site 0) (take_all l.s sites (omega arith))

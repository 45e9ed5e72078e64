use mathlib.Core.Path.{refl, ap, ◌∙◌}
use native.Mathlib.Omega.{arith}
use lib.Seq.{take_all}
use Rattle.base.specs.Sums.{isum, isum_next}
use Rattle.model.specs.Types.{site_d}
use Rattle.model.specs.Owing.{pairs_site, owed_pairs}
use Rattle.layout.specs.Words.{sites_of}
use Rattle.layout.proofs.Decoded.{all_sites}
use Rattle.words.proofs.owing.owed_in_place.Goals as goal

pub loop-s-init : goal.loop-s-init
unfolding isum
loop-s-init c = (omega arith, omega arith, refl)

pub loop-s-preserved : goal.loop-s-preserved
loop-s-preserved c =
    let loop = c.loop-s in
    let args = c.args in
    let l = loop in
    let xs = sites_of args.words.now in
    let e = all_sites args.words.now in (
      omega arith,
      omega (arith, c.site_pairs-n.ensures.1),
      omega (
        arith,
        l.invariant.2,
        c.site_pairs-n.ensures.0,
        ap (pairs_site l.s) c.load_site.ensures,
        isum_next pairs_site xs l.s site_d (omega arith),
      ),
    )

pub returns : goal.returns
unfolding owed_pairs
returns c =
    let args = c.args in
    let l = c.loop-s in
    let e = all_sites args.words.now in
    l.invariant.2 ∙ ap (isum pairs_site 0) (take_all l.s (sites_of args.words.now) (omega arith))

use mathlib.Core.Path.{◌≡◌, sym, ap}
use lib.ListN.{length, get_or-eq_default}
use native.Mathlib.Omega.{arith}
use borrow.Author.Rules.{rules}
use Rattle.base.specs.Sizes.{sites_most}
use Rattle.model.specs.Types.{site_d}
use Rattle.types.specs.declared.Site.{Site}
use Rattle.machine.proofs.events.out_entries.Goals as goal

pub returns : goal.returns
returns c =
    let a = c.args in
    let l : length a.sites ≡ sites_most = search rules in
    sym (ap (λ (x : Site). x.outgoing.count) (get_or-eq_default a.sites site_d {n = a.s} (omega arith)))

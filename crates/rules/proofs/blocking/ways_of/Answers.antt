use mathlib.Core.Path.{sym, ap, ◌∙◌}
use mathlib.Core.List.{List}
use mathlib.Core.Bool.{◌&&◌}
use Prim.Native.Nat.{ℕ}
use native.Mathlib.Omega.{arith}
use borrow.Author.Tests.{eq-eqb, ne_eqb}
use Rattle.base.specs.Sizes.{output_count}
use Rattle.sets.specs.Sets.{lowest, those}
use Rattle.model.specs.Network.{list_of}
use Rattle.model.specs.Router.{is_port, listed}
use Rattle.rules.specs.Router.{searched}
use Rattle.rules.proofs.Found.{own_test}
use Rattle.rules.proofs.Blocked.{own_ways, other_ways, other_within}
use Rattle.rules.proofs.blocking.ways_of.Goals as goal

pub returns-then-set-only : goal.returns-then-set-only
returns-then-set-only c =
    let q = c.args.search in
    let e = sym (own_test q.site c.args.set c.only.result (omega (arith, q.routed.site, q.routed.few)) c.only.ensures)
    ∙ eq-eqb _ _ c.if-set-only.true in
    sym (own_ways (searched q) q.site c.args.set e)

pub list_of-requires : goal.list_of-requires
list_of-requires c =
    let q = c.args.search in
    let e = sym (own_test q.site c.args.set c.only.result (omega (arith, q.routed.site, q.routed.few)) c.only.ensures)
    ∙ ne_eqb _ _ c.if-set-only.false in
    rw (c.lowest.ensures, c.without-others.ensures) (other_within (searched q) q.site c.args.set q.routed.few q.routed.site c.requires.0 c.requires.1 e)

pub returns : goal.returns
returns c =
    let q = c.args.search in
    let n = searched q in
    let e = sym (own_test q.site c.args.set c.only.result (omega (arith, q.routed.site, q.routed.few)) c.only.ensures)
    ∙ ne_eqb _ _ c.if-set-only.false in
    let low = c.lowest.ensures ∙ ap lowest c.without-others.ensures in
    let list = c.list_of.ensures ∙ ap (list_of n q.site) low in
    c.ports_of.ensures
    ∙ ap (λ (l : List ℕ). those (λ j. is_port j && listed l j) output_count) list ∙ sym (other_ways n q.site c.args.set e)

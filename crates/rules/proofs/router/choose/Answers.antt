use mathlib.Core.Path.{sym, ap, ◌∙◌}
use native.Mathlib.Omega.{arith}
use borrow.Author.Tests.{eq-eqb, ne_eqb}
use Rattle.rules.specs.Router.{of_choice, searched}
use Rattle.rules.proofs.Found.{own_test, route_own, route_single, route_several, lowest_in, other_in}
use Rattle.rules.proofs.router.choose.Goals as goal

pub returns-then-set-only : goal.returns-then-set-only
returns-then-set-only c =
    let a = c.args in
    let q = a.search in
    let e = sym (own_test q.site a.set c.only.result (omega (arith, q.routed.site, q.routed.few)) c.only.ensures) ∙ eq-eqb _ _ c.if-set-only.true in
    rw c.to_own.ensures (ap of_choice (sym (route_own (searched q) q.site a.set a.outputs e)))

pub to_other-requires : goal.to_other-requires
to_other-requires c =
    let q = c.args.search in
    lowest_in q.sites c.args.set q.routed.few c.requires.0 c.requires.1

pub returns-then-is_single : goal.returns-then-is_single
returns-then-is_single c =
    let a = c.args in
    let q = a.search in
    let e = sym (own_test q.site a.set c.only.result (omega (arith, q.routed.site, q.routed.few)) c.only.ensures) ∙ ne_eqb _ _ c.if-set-only.false in
    let f = sym c.is_single.ensures ∙ c.if-is_single.true in
    rw c.to_other.ensures (ap of_choice (sym (route_single (searched q) q.site a.set a.outputs e f)))

pub choose_several-requires : goal.choose_several-requires
choose_several-requires c =
    let q = c.args.search in
    other_in q.sites q.site c.args.set q.routed.few q.routed.site c.requires.0 c.requires.1 (sym c.is_single.ensures ∙ c.if-is_single.false)

pub returns : goal.returns
returns c =
    let a = c.args in
    let q = a.search in
    let e = sym (own_test q.site a.set c.only.result (omega (arith, q.routed.site, q.routed.few)) c.only.ensures) ∙ ne_eqb _ _ c.if-set-only.false in
    let f = sym c.is_single.ensures ∙ c.if-is_single.false in
    rw c.choose_several.ensures (ap of_choice (sym (route_several (searched q) q.site a.set a.outputs e f)))

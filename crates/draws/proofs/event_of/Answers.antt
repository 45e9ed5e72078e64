-- `draws::event_of` meets its contract. Assumes nothing.
use Rattle.std.proofs.Common.{Ok}
use Rattle.draws.specs.declared.Event.{Event}
use Rattle.draws.specs.Draws.{told}
use mathlib.Core.Path.{◌≡◌, refl, sym, ap, ◌∙◌}
use mathlib.Core.Bool.{true, ◌&&◌}
use Prim.Native.Nat.{ℕ, ◌≤◌}
use native.Mathlib.Omega.{arith}
use borrow.Author.Tests.{leb-true}
use lib.Dec.{leb}
use Rattle.base.specs.Bools.{both}
use Rattle.base.specs.Sizes.{sites_most}
use Rattle.draws.proofs.Laws.{thirteen, fifteen, event_named, event_refused}
use Rattle.draws.proofs.event_of.Goals as goal

limits : (S : ℕ) → leb 1 S && leb S sites_most ≡ true → (1 ≤ S) × (S ≤ sites_most)
limits S h = let w = both (leb 1 S) (leb S sites_most) h in (leb-true 1 S w.0, leb-true S sites_most w.1)

pub named-requires : goal.named-requires
named-requires c = let l = limits c.args.sites c.if-sites.true in (l.0, l.1, omega arith, omega arith, fifteen)

pub returns-then-is_restricted : goal.returns-then-is_restricted
returns-then-is_restricted c =
    let a = c.args in
    let l = limits a.sites c.if-sites.true in
    ap (λ (e : Event). told (Ok e)) c.named.ensures
    ∙ sym (event_named a.edition a.sites a.value l.0 l.1 ∙ rw (← c.is_restricted.ensures, c.if-is_restricted.true) refl)

pub named-requires-then-sites : goal.named-requires-then-sites
named-requires-then-sites c = let l = limits c.args.sites c.if-sites.true in (l.0, l.1, omega arith, omega arith, thirteen)

pub returns-then-sites : goal.returns-then-sites
returns-then-sites c =
    let a = c.args in
    let l = limits a.sites c.if-sites.true in
    ap (λ (e : Event). told (Ok e)) c.named-then-sites.ensures
    ∙ sym (event_named a.edition a.sites a.value l.0 l.1 ∙ rw (← c.is_restricted.ensures, c.if-is_restricted.false) refl)

pub returns : goal.returns
returns c = let a = c.args in sym (event_refused a.edition a.sites a.value c.if-sites.false)

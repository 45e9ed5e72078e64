use mathlib.Core.Path.{◌∙◌}
use borrow.Author.Tests.{lt-ltb, le-ltb}
use Rattle.checks.proofs.RangeLaws.{pick_first, pick_second, room}
use Rattle.checks.proofs.range.place_ok.Goals as goal

pub returns-then-s-sites : goal.returns-then-s-sites
returns-then-s-sites c = pick_first _ _ _ _ (lt-ltb _ _ c.if-s-sites.true) c.site_ok.ensures

pub returns : goal.returns
returns c =
    let a = c.args in
    pick_second _ _ _ _ (le-ltb _ _ c.if-s-sites.false) (c.site_ok-2.ensures ∙ room a.edition a.sites a.site)

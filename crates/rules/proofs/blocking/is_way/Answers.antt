use mathlib.Core.Path.{◌≡◌, refl}
use borrow.Author.Rules.{rules}
use lib.ListN.{length}
use mathlib.Core.Bool.{true}
use Rattle.model.specs.Router.{is_port}
use Rattle.rules.proofs.Blocked.{listed_by}
use Rattle.rules.proofs.blocking.is_way.Goals as goal

pub returns-then-contains : goal.returns-then-contains
returns-then-contains c =
    let a = c.args in
    let e : length a.list ≡ 4 = search rules in
    let h : is_port a.j ≡ true = search rules in
    rw (h, c.contains-then-contains.ensures.value, listed_by a.list a.j e) refl

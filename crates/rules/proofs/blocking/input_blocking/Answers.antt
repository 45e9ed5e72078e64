use Prim.Native.Nat.{◌*◌}
use mathlib.Core.Path.{◌≡◌, ◌∙◌}
use lib.ListN.{length}
use Rattle.base.specs.Sizes.{sites_most}
use Rattle.rules.proofs.Blocked.{passes_whole}
use borrow.Author.Rules.{rules}
use Rattle.rules.proofs.blocking.input_blocking.Goals as goal

pub returns : goal.returns
returns c =
    let a = c.args in
    let e : length a.network.routes ≡ sites_most * sites_most = search rules in
    c.blocking_in.ensures ∙ passes_whole a.network a.s a.input a.outputs e

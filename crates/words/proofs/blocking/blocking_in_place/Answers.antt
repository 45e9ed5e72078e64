use mathlib.Core.Path.{◌≡◌, refl, ◌∙◌}
use Prim.Native.Nat.{◌*◌}
use lib.ListN.{length}
use borrow.Author.Tests.{le-ltb}
use Rattle.base.specs.Sizes.{sites_most}
use Rattle.model.specs.Steps.{blocking_at}
use Rattle.words.proofs.Blocked.{blocking_asked}
use borrow.Author.Rules.{rules}
use Rattle.words.proofs.blocking.blocking_in_place.Goals as goal

pub returns-then-code-lt-INPUTS : goal.returns-then-code-lt-INPUTS
returns-then-code-lt-INPUTS c =
    let a = c.args in
    let full : length a.network.now.routes ≡ sites_most * sites_most = search rules in
    c.blocking_in.ensures
    ∙ rw (c.load_outputs-outputs.ensures, c.load_input-input.ensures)
    (blocking_asked a.network.now a.words.now a.s c.requires full a.code c.if-code-lt-INPUTS.true)

pub returns : goal.returns
unfolding blocking_at
returns c = rw (le-ltb c.args.code 5 c.if-code-lt-INPUTS.false) refl

use Rattle.base.specs.Sizes.{input_count}
use Rattle.model.specs.Types.{site_at, in_at, no_input}
use Rattle.layout.specs.Words.{sites_of}
use Rattle.layout.proofs.Decoded.{inputs_loaded}
use Rattle.words.proofs.Made.{made_rows}
use borrow.Author.Rules.{rules}
use Rattle.words.proofs.load.load_inputs.Goals as goal

pub returns : goal.returns
returns c =
    let a = c.args in
    inputs_loaded _ _ c.requires _ (made_rows (in_at (site_at (sites_of a.words.now) a.s)) _ no_input _ (λ x b q k. search rules) input_count
    c.from_fn.ensures.items)

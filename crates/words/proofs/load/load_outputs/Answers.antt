use Rattle.base.specs.Sizes.{output_count}
use Rattle.model.specs.Types.{site_at, out_at, no_output}
use Rattle.layout.specs.Words.{sites_of}
use Rattle.layout.proofs.Decoded.{outputs_loaded}
use Rattle.words.proofs.Made.{made_rows}
use borrow.Author.Rules.{rules}
use Rattle.words.proofs.load.load_outputs.Goals as goal

pub returns : goal.returns
returns c =
    let a = c.args in
    outputs_loaded _ _ c.requires _ (made_rows (out_at (site_at (sites_of a.words.now) a.s)) _ no_output _ (λ x b q k. search rules) output_count
    c.from_fn.ensures.items)

use Rattle.base.specs.Sizes.{queue_room}
use Rattle.model.specs.Types.{no_out_entry}
use Rattle.layout.specs.Words.{leaving_at}
use Rattle.layout.proofs.Decoded.{out_queue_loaded}
use Rattle.words.proofs.Made.{made_rows}
use borrow.Author.Rules.{rules}
use Rattle.words.proofs.load.load_out_queue.Goals as goal

pub returns : goal.returns
returns c =
    let a = c.args in
    out_queue_loaded _ _ c.requires _ _ (made_rows (leaving_at a.words.now a.s) _ no_out_entry _ (λ x b q k. search rules) queue_room
    c.from_fn.ensures.items) c.out_count.ensures

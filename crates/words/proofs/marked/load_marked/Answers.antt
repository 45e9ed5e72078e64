use mathlib.Core.Bool.{cond}
use Prim.Native.Nat.{ℕ}
use Rattle.base.specs.Sizes.{output_count}
use Rattle.model.specs.Types.{no_output, out_at, mark}
use Rattle.words.specs.Events.{site_in}
use Rattle.words.specs.Marked.{masked}
use Rattle.words.proofs.Made.{made_rows}
use borrow.Author.Rules.{rules}
use Rattle.words.proofs.marked.load_marked.Goals as goal

pub returns : goal.returns
unfolding masked
returns c =
    let a = c.args in
    made_rows (λ (j : ℕ). cond (mark a.marks j) (out_at (site_in a.words.now a.s) j) no_output) _ no_output _ (λ x b q k. search rules) output_count
    c.from_fn.ensures.items

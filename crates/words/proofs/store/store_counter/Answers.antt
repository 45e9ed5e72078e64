use mathlib.Core.Path.{◌≡◌}
use Rattle.layout.proofs.Storing.{stored_counter}
use borrow.Author.Rules.{rules}
use Rattle.words.proofs.store.store_counter.Goals as goal

pub returns : goal.returns
returns c =
    let e : c.from.result ≡ c.args.counter = search rules in
    rw e (stored_counter _ _ (search rules) (search rules))

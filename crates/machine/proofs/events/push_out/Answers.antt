use mathlib.Core.Path.{refl}
use borrow.Author.Tests.{lt-ltb}
use Rattle.machine.proofs.events.push_out.Goals as goal

pub returns : goal.returns
returns c = rw (c.push_out.ensures, lt-ltb c.args.queue.count 8 c.requires) refl

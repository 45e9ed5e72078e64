use Rattle.rules.specs.Router.{searched}
use Rattle.rules.proofs.Gather.{Turning, Seeking}
use Rattle.rules.proofs.ports.gather_outputs.Given as goal

abbrev pub invariant-loop-p : goal.invariant-loop-p
invariant-loop-p l =
    Seeking (searched l.search) l.search.site l.outputs l.others l.sets l.t l.initial.t l.p-items l.p-index

abbrev pub invariant-targets : goal.invariant-targets
invariant-targets l = Turning (searched l.search) l.search.site l.outputs l.others l.sets l.t

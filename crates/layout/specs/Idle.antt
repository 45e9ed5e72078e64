-- Places that have nothing to do, by what is seen of them at a glance: no rule moves them (proofs/Rests.antt).
use Rattle.std.specs.Prelude.{ℕ, Bool, true, false, not, ◌||◌}
use Rattle.types.specs.declared.Phase.TheVariants.{the_data as Phase, Free, Seek, Open, Wait, Done, Last, Abort as Aborted, FinAbort}
use Rattle.types.specs.declared.Input.{Input}
use Rattle.types.specs.declared.Output.{Output}
use Rattle.model.specs.NetInput.{all_ready}
use Rattle.model.specs.Places.{stalled}

-- a net-input in this state, all its connected outputs being ready or not, output 0 being ready or not
abbrev pub stands : Phase → Bool → Bool → Bool
stands Free every own = true
stands Seek every own = false
stands (Open c) every own = every
stands (Wait c) every own = not every
stands (Done c r) every own = false
stands (Last c r) every own = not every
stands (Aborted c) every own = true
stands (FinAbort c r) every own = not own

abbrev pub waits : Input → (ℕ → Bool) → Bool
waits y isReady = stands y.phase (all_ready isReady y.outputs) (isReady 0)

-- a net-output that has nothing to do: empty, or its head taken and its terminator not come; one that is closing has its channel
-- to give up
abbrev pub at_rest : Output → Bool
at_rest o = not o.used || stalled o

-- `why::Times::most` is safe: the place is one of the counts. Assumes nothing.
use Rattle.std.proofs.Common.{◌<◌, IfSome}
use Rattle.trace.proofs.why.Times.most.Given as goal

abbrev pub invariant-loop-place : goal.invariant-loop-place
invariant-loop-place l = IfSome l.best (λ place. place < 384)

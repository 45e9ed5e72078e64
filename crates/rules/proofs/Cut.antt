-- The timeout by its tests, as the code makes them. Assumes nothing.
use mathlib.Core.Path.{◌≡◌, refl, ap}
use mathlib.Core.List.{List}
use mathlib.Core.Bool.{Bool, true, false, cond, ◌&&◌}
use lib.ListN.{replicate, get_or-replicate}
use Rattle.base.specs.Sizes.{output_count}
use Rattle.base.specs.Over.{over_same}
use Rattle.types.specs.declared.Terminator.TheVariants.{None as t_none, Abort as t_abort}
use Rattle.types.specs.declared.Phase.TheVariants.{the_data as Phase, Free, Seek, Open, Wait, Done, Last, Abort as Aborted, FinAbort}
use Rattle.types.specs.declared.InQueue.{InQueue}
use Rattle.types.specs.declared.Input.{Input}
use Rattle.types.specs.declared.Output.{Output}
use Rattle.model.specs.Types.{out_of, out_term, mark}
use Rattle.model.specs.NetInput.{Stay, give}
use Rattle.model.specs.Places.{last_lacks, stalled, cut_off, cut_at}
use Rattle.rules.specs.Turns.{given_at, cuts, cut_phase, cut_if}

pub cut_at_lem : (y : Input) (os : List Output) (ph : Phase) → cut_at y os ph ≡ cond (cuts ph) (cut_off y os (cut_phase ph)) Stay
unfolding cut_at
cut_at_lem y os Free = refl
cut_at_lem y os Seek = refl
cut_at_lem y os (Open c) = refl
cut_at_lem y os (Wait c) = refl
cut_at_lem y os (Done c r) = refl
cut_at_lem y os (Last c r) = refl
cut_at_lem y os (Aborted c) = refl
cut_at_lem y os (FinAbort c r) = refl

-- cut where all three hold
pub cut_by : (iq : InQueue) (os : List Output) (y : Input) (b : Bool)
    → (last_lacks iq && stalled (out_of os 0) && cuts y.phase) ≡ b
    → cut_if iq os y ≡ cond b (cut_off y os (cut_phase y.phase)) Stay
cut_by iq os y b e = rw (cut_at_lem y os y.phase, ← e) (nested (last_lacks iq && stalled (out_of os 0)) (cuts y.phase))
  where
    nested : (a b : Bool) → cond a (cond b (cut_off y os (cut_phase y.phase)) Stay) Stay
        ≡ cond (a && b) (cut_off y os (cut_phase y.phase)) Stay
    nested true b = refl
    nested false b = refl

-- abort for every output
pub give_aborts : (bs : List Bool) (os : List Output) → give (given_at (replicate output_count t_abort)) bs os ≡ give (λ j. t_abort) bs os
unfolding give
give_aborts bs os =
    over_same _ _ output_count os
    (λ j h. ap (λ k. cond (mark bs j) (out_term (out_of os j) k) (out_of os j)) (get_or-replicate output_count j t_abort t_none h))

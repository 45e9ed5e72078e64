-- Readiness as the code computes it, for the net-input's rule, and the two kinds of net-output. Assumes nothing.
use Prim.Native.Nat.{ℕ, zero, suc, ◌-◌, ◌<◌}
use mathlib.Core.Path.{◌≡◌, refl, ap}
use mathlib.Core.List.{List}
use mathlib.Core.Bool.{Bool}
use native.Mathlib.Omega.{arith}
use Rattle.base.specs.Sizes.{output_count}
use Rattle.base.specs.Bools.{implies}
use Rattle.base.specs.All.{all_same}
use Rattle.types.specs.declared.Phase.TheVariants.{the_data as Phase, Free, Seek, Open, Wait, Done, Last, Abort as Aborted, FinAbort}
use Rattle.types.specs.declared.Input.{Input}
use Rattle.types.specs.declared.Output.{Output}
use Rattle.types.specs.declared.Network.{Network}
use Rattle.types.specs.declared.Site.{Site}
use Rattle.model.specs.Types.{mark, out_at}
use Rattle.model.specs.Network.{joined}
use Rattle.model.specs.NetInput.{all_ready, hears, ready, in_state}
use Rattle.model.specs.Places.{channel_output}
use Rattle.model.specs.Steps.{pass_turn, local_at, net_output}
use Rattle.machine.specs.Step.{flags, four_flags, there_at}

pub flag_at : (f : ℕ → Bool) (j : ℕ) → j < output_count → mark (flags f) j ≡ f j
flag_at f zero h = refl
flag_at f (suc zero) h = refl
flag_at f (suc (suc zero)) h = refl
flag_at f (suc (suc (suc zero))) h = refl
flag_at f (suc (suc (suc (suc zero)))) h = refl
flag_at f (suc (suc (suc (suc (suc zero))))) h = refl
flag_at f (suc (suc (suc (suc (suc (suc j)))))) h = absurd (omega arith)

pub all_flags : (f : ℕ → Bool) (bs : List Bool) → all_ready (mark (flags f)) bs ≡ all_ready f bs
all_flags f bs =
    all_same (λ j. implies (mark bs j) (mark (flags f) j)) (λ j. implies (mark bs j) (f j)) output_count
    (λ j h. ap (λ (b : Bool). implies (mark bs j) b) (flag_at f j h))

pub by_flags : (n : Network) (s i : ℕ) (y : Input) (os : List Output) (f : ℕ → Bool) (ph : Phase)
    → in_state n s i y os (mark (flags f)) ph ≡ in_state n s i y os f ph
unfolding in_state
by_flags n s i y os f Free = refl
by_flags n s i y os f Seek = refl
by_flags n s i y os f (Open c) = rw (all_flags f y.outputs) refl
by_flags n s i y os f (Wait c) = rw (all_flags f y.outputs) refl
by_flags n s i y os f (Done c r) = rw (all_flags f y.outputs) refl
by_flags n s i y os f (Last c r) = rw (all_flags f y.outputs) refl
by_flags n s i y os f (Aborted c) = refl
by_flags n s i y os f (FinAbort c r) = refl

-- the channels that there are, by an array of them
pub flags_there : (n : Network) (s : ℕ) (far : ℕ → Input) (os : List Output)
    → flags (ready (there_at (four_flags (λ j. joined n s (suc j)))) far os) ≡ flags (ready (joined n s) far os)
unfolding hears
flags_there n s far os = refl

-- ---- net-output 0, and j for any other

pub output_zero_lem : (n : Network) (s : ℕ) (x : Site) (far : ℕ → Input)
    → net_output n s x far 0 ≡ local_at n.depth x 0
unfolding net_output
output_zero_lem n s x far = refl

pub output_other : (n : Network) (s : ℕ) (x : Site) (far : ℕ → Input) (j : ℕ) → (j ≡ 0 → ⊥)
    → net_output n s x far j ≡ pass_turn x (suc (j - 1)) (channel_output n.edition (joined n s (suc (j - 1))) (out_at x (suc (j - 1))) (far (suc (j - 1))))
unfolding net_output
output_other n s x far zero h = absurd (h refl)
output_other n s x far (suc j) h = let e : suc j - 1 ≡ j = omega arith in rw e refl

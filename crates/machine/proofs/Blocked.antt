-- The outputs in the way at a site that RUN can run at. Assumes nothing beyond each statement.
use Prim.Native.Nat.{ℕ, ◌<◌}
use mathlib.Core.Path.{◌≡◌, ap}
use mathlib.Core.Bool.{cond}
use Rattle.base.specs.Sizes.{input_count}
use Rattle.types.specs.Numbers.{state_number}
use Rattle.types.specs.declared.Network.{Network}
use Rattle.types.specs.declared.Site.{Site}
use Rattle.model.specs.Types.{in_at}
use Rattle.model.specs.NetInput.{passes_on}
use Rattle.model.specs.Steps.{blocking_at}
use Rattle.model.proofs.Blocking.{seeks_at, passes_where}
use Rattle.rules.specs.Router.{proper}
use Rattle.rules.proofs.Asked.{proper_by}
use Rattle.machine.specs.Step.{Runnable}

-- a net-input in seek there has a set of targets, as the router asks; any other passes nothing on
pub blocking_proper : (n : Network) (s : ℕ) (x : Site) → Runnable n s x → (code : ℕ) → code < input_count
    → cond (proper n.sites s (in_at x code).set) (passes_on n s (in_at x code) x.outputs) 0 ≡ blocking_at n s x code
blocking_proper n s x ok code hc =
    let y = in_at x code in
    passes_where n s x code (proper n.sites s y.set) hc
    (λ e.
    let set = ok.sought code hc (ap state_number (seeks_at y.phase e)) in
    proper_by n.sites s y.set ok.site ok.few set.0 set.1)

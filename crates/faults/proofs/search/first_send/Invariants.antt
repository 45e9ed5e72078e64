-- `search::first_send` meets its contract: every send is tested behind the last one's draw number, up to the first
-- that fails. Assumes nothing.
use mathlib.Core.Path.{◌≡◌}
use mathlib.Core.Bool.{true}
use Prim.Native.Nat.{◌≤◌}
use Rattle.base.specs.All.{all}
use Rattle.model.specs.Types.{send_at}
use Rattle.model.specs.Runs.{send_ok}
use Rattle.checks.specs.Sends.{draw_before}
use Rattle.format.specs.Format.{run_of}
use Rattle.faults.proofs.search.first_send.Given as goal

abbrev pub invariant-loop-k : goal.invariant-loop-k
invariant-loop-k l = (l.k ≤ l.sends) × (l.last ≡ draw_before (send_at (run_of l.b)) l.k) × (all (send_ok (run_of l.b)) l.k ≡ true)

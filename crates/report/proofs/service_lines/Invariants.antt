-- `service_lines` meets its contract: a line a turn, each within its greatest length. Assumes nothing.
use Prim.Native.Nat.{◌*◌, ◌≤◌}
use mathlib.Core.Path.{◌≡◌}
use lib.ListN.{length}
use Rattle.lines.specs.Text.{service_most, service_lines}
use Rattle.report.specs.Put.{Put}
use Rattle.report.proofs.service_lines.Given as goal

abbrev pub invariant-loop-k : goal.invariant-loop-k
invariant-loop-k l =
    (length l.text ≡ length l.initial.text) × (l.k ≤ l.n) × (l.at ≤ service_most * l.k)
    × Put l.initial.text 0 (service_lines l.book l.k) l.at l.text

-- `adding::add_name` meets its contract: a byte a turn. Assumes nothing.
use mathlib.Core.Path.{◌≡◌}
use Prim.Native.Nat.{◌≤◌}
use lib.ListN.{length}
use Rattle.lines.specs.Add.{Added, shown_to}
use Rattle.report.proofs.adding.add_name.Given as goal

abbrev pub invariant-loop-byte : goal.invariant-loop-byte
invariant-loop-byte l = (length l.text ≡ length l.initial.text) × (l.byte-index ≤ length l.name) × Added l.initial.text l.at (shown_to l.name l.byte-index) l.to l.text

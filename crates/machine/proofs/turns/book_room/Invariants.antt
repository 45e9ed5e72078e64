use mathlib.Core.Path.{◌≡◌}
use Rattle.machine.proofs.PlayerRoom.{sizes_to}
use Rattle.machine.proofs.turns.book_room.Given as goal

abbrev pub invariant-loop-send : goal.invariant-loop-send
invariant-loop-send l = l.sum ≡ sizes_to l.fn.sends l.send-index

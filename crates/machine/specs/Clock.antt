-- Document 01, the run clock: "one thin function changes a lent run clock (seed value, draw number) after each draw".
-- Assumes nothing.
use Rattle.std.specs.Prelude.{◌+◌, ◌%◌}
use Rattle.draws.specs.Draws.{drawn}
use Rattle.machine.specs.declared.clock.Clock.{Clock}

-- "Each draw advances first.": the value drawn anew, the number one more. It has 2 bytes: after 65535 comes 0, to which
-- no run comes, since it has at most 65535 draws
abbrev pub advanced : Clock → Clock
advanced k = record { value = drawn k.value; draw = (k.draw + 1) % 65536 }

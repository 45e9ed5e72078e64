-- A stored send and the draw number before it: the model's test of a send, one send after the other. Assumes nothing.
use Rattle.std.specs.Prelude.{Bool, cond, ◌&&◌, ℕ, ◌-◌, eqb, ltb, leb}
use Rattle.sets.specs.Sets.{targets}
use Rattle.types.specs.declared.StoredSend.{StoredSend}

-- sends as a function of their place: the draw number of the one before place k, 0 before the first
abbrev pub draw_before : (ℕ → StoredSend) → ℕ → ℕ
draw_before f k = cond (eqb k 0) 0 (f (k - 1)).draw

-- the model's test of a send, after a send with draw number `last`
abbrev pub send_after : ℕ → ℕ → ℕ → StoredSend → Bool
send_after S draws last e = ltb e.site S && targets S e.set && leb e.draw draws && leb last e.draw

abbrev pub send_in : ℕ → ℕ → (ℕ → StoredSend) → ℕ → Bool
send_in S draws f k = send_after S draws (draw_before f k) (f k)

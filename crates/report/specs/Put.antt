-- What the functions that put bytes into a lent room ensure. Assumes nothing.
use Rattle.std.specs.Prelude.{ℕ, ◌+◌, ◌≡◌, List, length}
use Rattle.base.specs.Put.{put}

-- The room with the bytes xs from place p on: `next` is the place behind them, `after` the room then. What stands before
-- and behind them stays.
pub record Put (room : List ℕ) (p : ℕ) (xs : List ℕ) (next : ℕ) (after : List ℕ) : Type 0 where
  pub place : next ≡ p + length xs
  pub bytes : after ≡ put room p xs

-- That no channel before channel m is the same, by the bytes of the channels as they stand: one each in version 1, two in
-- version 2. Assumes nothing.
use Rattle.std.specs.Prelude.{Bool, not, ◌||◌, List, ℕ, ◌+◌, eqb}
use Rattle.base.specs.All.{all}
use Rattle.format.specs.Format.{at, in_version, channel_place}

-- the bytes of channel i are others than these
abbrev pub byte_differs : List ℕ → ℕ → ℕ → Bool
byte_differs b byte i = not (eqb (at b (channel_place 1 i)) byte)

abbrev pub pair_differs : List ℕ → ℕ → ℕ → ℕ → Bool
pair_differs b high low i = not (eqb (at b (channel_place 2 i)) high) || not (eqb (at b (channel_place 2 i + 1)) low)

-- those of each channel before channel m
unfoldable pub is_first : ℕ → List ℕ → ℕ → Bool
is_first v b m =
    in_version v (all (byte_differs b (at b (channel_place 1 m))) m)
    (all (pair_differs b (at b (channel_place 2 m)) (at b (channel_place 2 m + 1))) m)

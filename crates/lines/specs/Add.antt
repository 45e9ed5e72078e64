-- A line that grows in a lent room: bytes added behind those that stand there, as far as the room goes; and a name as it
-- is shown. Assumes nothing.
use Rattle.std.specs.Prelude.{ℕ, zero, suc, ◌+◌, ◌-◌, min, ◌≡◌, Bool, cond, ◌||◌, List, [], ◌∷◌, ◌++◌, eqb, ltb, length, get_or, take}
use Rattle.base.specs.Put.{put}
use Rattle.io.specs.Digits.{last_digits}
use Rattle.lines.specs.Text.{ascii}

-- ---- adding

-- The bytes xs added at place p: `next` is the place behind them, `after` the room then. What does not fit is left out,
-- and a place beyond the room counts as its end.
pub record Added (room : List ℕ) (p : ℕ) (xs : List ℕ) (next : ℕ) (after : List ℕ) : Type 0 where
  pub place : next ≡ min (p + length xs) (length room)
  pub bytes : after ≡ put room (min p (length room)) (take (length room - p) xs)

-- ---- a name, one line whatever its bytes

-- a control character
abbrev pub is_control : ℕ → Bool
is_control b = ltb b 32 || eqb b 127

-- a byte of a name: control characters and the backslash are escaped
unfoldable pub shown_byte : ℕ → List ℕ
shown_byte b =
    cond (eqb b 10) (ascii "\\n")
    (cond (eqb b 13) (ascii "\\r")
    (cond (eqb b 9) (ascii "\\t")
    (cond (eqb b 92) (ascii "\\\\")
    (cond (is_control b) (ascii "\\x" ++ last_digits 16 2 b) (b ∷ [])))))

-- the first k bytes of the name
unfoldable pub shown_to : List ℕ → ℕ → List ℕ
shown_to name zero = []
shown_to name (suc k) = shown_to name k ++ shown_byte (get_or name k 0)

-- all of it
abbrev pub shown : List ℕ → List ℕ
shown name = shown_to name (length name)

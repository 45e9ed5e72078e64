-- What answers share: one refusal before another, bytes put at the front of a lent room. Assumes nothing.
use Rattle.std.specs.Prelude.{ℕ, cond, List, ◌++◌, eqb, length, drop}

-- this refusal, or, where it is none (0), the next
abbrev pub or_next : ℕ → ℕ → ℕ
or_next f next = cond (eqb f 0) next f

-- "Success writes its bytes at the front; the rest stays."
unfoldable pub at_front : List ℕ → List ℕ → List ℕ
at_front bytes room = bytes ++ drop (length bytes) room

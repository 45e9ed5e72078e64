-- Document 01, "Runs with known ends", run R: the lines that the programs print of a played archive, as bytes.
-- Assumes nothing.
use Rattle.std.specs.Prelude.{ℕ, zero, suc, ◌+◌, ◌*◌, ◌/◌, min, cond, List, [], ◌∷◌, ◌++◌, eqb, ltb, length, get_or}
use Prim.Native.Char.{code}
use Prim.Native.String.{String, [] as []ˢ, ◌∷◌ as ◌∷ˢ◌}
use Rattle.base.specs.Answers.{at_front}
use Rattle.io.specs.Digits.{last_digits}
use Rattle.types.specs.declared.Counts.{Counts}
use Rattle.model.specs.Runs.{Service}
use Rattle.lines.specs.declared.Lines.{Lines}

-- ---- letters and numbers

-- a text's letters as bytes
abbrev pub ascii : String → List ℕ
ascii []ˢ = []
ascii (c ∷ˢ s) = code c ∷ ascii s

-- how many decimal digits n has: one, and one more each time that it can be divided by 10; at most f more
unfoldable pub places : ℕ → ℕ → ℕ
places zero n = 1
places (suc f) n = cond (ltb n 10) 1 (suc (places f (n / 10)))

-- "in decimal": the digits of n, which has at most twenty
unfoldable pub decimal : ℕ → List ℕ
decimal n = last_digits 10 (places 19 n) n

-- ---- the line of an answer

-- "a refusal prints only the line `refused 4`, with its own number": refusal number e
unfoldable pub refused_line : ℕ → List ℕ
refused_line e = ascii "refused " ++ decimal e ++ ascii "\n"

-- "prints one line, `accepted 1 pairs 1 serviced 0 owed 1`"
unfoldable pub counts_line : Counts → List ℕ
counts_line c =
    ascii "accepted " ++ decimal c.accepted
    ++ ascii " pairs " ++ decimal c.pairs
    ++ ascii " serviced " ++ decimal c.serviced
    ++ ascii " owed " ++ decimal c.owed
    ++ ascii "\n"

-- the refusal, or where there is none the counts
unfoldable pub answer_line : ℕ → Counts → List ℕ
answer_line e c = cond (eqb e 0) (counts_line c) (refused_line e)

-- the bytes that a line of counts takes at most, with twenty digits for each
abbrev pub answer_most : ℕ
answer_most = 113

-- ---- the lines of services

-- "Each service would come first as `draw packet site` in decimal": draw d, packet q, site s
unfoldable pub service_line : ℕ → ℕ → ℕ → List ℕ
service_line d q s = decimal d ++ ascii " " ++ decimal q ++ ascii " " ++ decimal s ++ ascii "\n"

-- the bytes that it takes at most: `65535 255 255` and its newline
abbrev pub service_most : ℕ
service_most = 14

-- "The book is 4 bytes a service: draw 2, packet 1, site 1.", "All numbers big-endian": service k of the book b
unfoldable pub line_at : List ℕ → ℕ → List ℕ
line_at b k =
    service_line (256 * get_or b (4 * k) 0 + get_or b (4 * k + 1) 0) (get_or b (4 * k + 2) 0) (get_or b (4 * k + 3) 0)

-- the lines of the first k services of the book b
unfoldable pub service_lines : List ℕ → ℕ → List ℕ
service_lines b zero = []
service_lines b (suc k) = service_lines b k ++ line_at b k

-- the lines of services
unfoldable pub lines_of : List Service → List ℕ
lines_of [] = []
lines_of (e ∷ es) = service_line e.draw e.packet e.site ++ lines_of es

-- ---- lines in lent bytes

-- of a book b into a room of so many bytes: all services that b has, or as many as lines of the greatest length fit
abbrev pub fitting : List ℕ → ℕ → ℕ
fitting b room = min (length b / 4) (room / service_most)

-- how many services these are, and how many bytes their lines take
unfoldable pub lines_answer : List ℕ → ℕ → Lines
lines_answer b room = record { services = fitting b room; bytes = length (service_lines b (fitting b room)) }

-- the room with their lines
unfoldable pub lines_after : List ℕ → List ℕ → List ℕ
lines_after b room = at_front (service_lines b (fitting b (length room))) room

-- What is read of an answer, typed from document 01: packet, site and accepted number are not 0 and differ. Each row is what the
-- definitions compute beside what the document says.
use Prim.Native.Nat.{ℕ}
use mathlib.Core.Path.{◌≡◌, refl}
use mathlib.Core.List.{List, [], ◌∷◌, map}
use Rattle.base.specs.Bools.{count}
use Rattle.base.specs.Sums.{sum, upto}
use Rattle.model.specs.Types.{Sent, Accepted, SendRefused, Ran, Nothing, Changed, Serviced, RunRefused}
use Rattle.model.specs.Events.{answered, if_accepted, hits}
use Rattle.model.specs.Runs.{book_bytes, in_book, in_entries, entered}

-- how often packets 1, 2, 3 were serviced at sites 1, 2, 3, by an answer
abbrev served : Ran → List ℕ
served w =
    hits 1 1 w ∷ hits 1 2 w ∷ hits 1 3 w ∷ hits 2 1 w ∷ hits 2 2 w ∷ hits 2 3 w ∷ hits 3 1 w ∷ hits 3 2 w ∷ hits 3 3 w ∷ []

-- whether SEND answered the numbers 0, 1, 2, 9
abbrev numbers : Sent → List ℕ
numbers w = map (λ p. count (answered p w)) (0 ∷ 1 ∷ 2 ∷ 9 ∷ [])

-- the book's bytes after an answer to draw 259, behind a service of packet 4 at site 5 by draw 2
abbrev booked : Ran → List ℕ
booked w = book_bytes (entered 259 w (record { draw = 2; packet = 4; site = 5 } ∷ []))

pub rows : List (List ℕ × List ℕ)
rows =
    -- "The answer is 2 with packet and site where the operator serviced, else 1 if anything in the state changed, else 0."
    (served (Serviced 1 2), 0 ∷ 1 ∷ 0 ∷ 0 ∷ 0 ∷ 0 ∷ 0 ∷ 0 ∷ 0 ∷ [])
    ∷ (served (Serviced 3 1), 0 ∷ 0 ∷ 0 ∷ 0 ∷ 0 ∷ 0 ∷ 1 ∷ 0 ∷ 0 ∷ [])
    ∷ (served Changed, 0 ∷ 0 ∷ 0 ∷ 0 ∷ 0 ∷ 0 ∷ 0 ∷ 0 ∷ 0 ∷ [])
    ∷ (served Nothing, 0 ∷ 0 ∷ 0 ∷ 0 ∷ 0 ∷ 0 ∷ 0 ∷ 0 ∷ 0 ∷ [])
    ∷ (served (RunRefused 2), 0 ∷ 0 ∷ 0 ∷ 0 ∷ 0 ∷ 0 ∷ 0 ∷ 0 ∷ 0 ∷ [])
    -- "The answer is the packet number."; "A refusal's other numbers are zero."
    ∷ (numbers (Accepted 1), 0 ∷ 1 ∷ 0 ∷ 0 ∷ [])
    ∷ (numbers (Accepted 0), 1 ∷ 0 ∷ 0 ∷ 0 ∷ [])
    ∷ (numbers (SendRefused 9), 0 ∷ 0 ∷ 0 ∷ 0 ∷ [])
    ∷ (if_accepted (Accepted 1) 6 (5 ∷ []), 6 ∷ 5 ∷ [])
    ∷ (if_accepted (SendRefused 9) 6 (5 ∷ []), 5 ∷ [])
    -- "The book is 4 bytes a service: draw 2, packet 1, site 1.": a service, and none
    ∷ (booked (Serviced 1 2), 0 ∷ 2 ∷ 4 ∷ 5 ∷ 1 ∷ 3 ∷ 1 ∷ 2 ∷ [])
    ∷ (booked Changed, 0 ∷ 2 ∷ 4 ∷ 5 ∷ [])
    ∷ (booked (RunRefused 2), 0 ∷ 2 ∷ 4 ∷ 5 ∷ [])
    -- in a book, and in the first entries of its bytes
    ∷ (in_book 1 2 (entered 7 (Serviced 1 2) []) ∷ in_book 2 1 (entered 7 (Serviced 1 2) []) ∷ [], 1 ∷ 0 ∷ [])
    ∷ (map (in_entries 1 2 (1 ∷ 3 ∷ 1 ∷ 2 ∷ 0 ∷ 0 ∷ 2 ∷ 1 ∷ 0 ∷ 0 ∷ 1 ∷ 2 ∷ [])) (0 ∷ 1 ∷ 2 ∷ 3 ∷ []), 0 ∷ 1 ∷ 1 ∷ 2 ∷ [])
    ∷ []

pub answers_read : map (λ row. row.0) rows ≡ map (λ row. row.1) rows
unfolding rows book_bytes sum upto
answers_read = refl

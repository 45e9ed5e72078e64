-- A book's lines: what `print_services` writes part by part is the lines of the whole, and these are the lines of the
-- services in the book. Assumes nothing.
use mathlib.Core.Path.{◌≡◌, refl, sym, ap, ◌∙◌}
use mathlib.Core.List.{List, [], ◌∷◌, ◌++◌, map, append_assoc, append-nil}
use Prim.Native.Nat.{ℕ, zero, suc, ◌+◌, ◌-◌, ◌*◌, ◌/◌, ◌%◌, ◌≤◌, ◌<◌}
use native.Mathlib.Nat.{add-zero, add-suc}
use native.Mathlib.Omega.{arith}
use lib.ListN.{length, get_or, take, drop}
use lib.Seq.{get_or-take, get_or-drop}
use Rattle.model.specs.Runs.{Service, book_bytes}
use Rattle.lines.specs.Text.{line_at, service_lines, lines_of}

-- service k behind the first j
line_behind : (b : List ℕ) (j k : ℕ) → line_at (drop (4 * j) b) k ≡ line_at b (j + k)
unfolding line_at
line_behind b j k =
    let e0 : 4 * j + 4 * k ≡ 4 * (j + k) = omega arith in
    let e1 : 4 * j + (4 * k + 1) ≡ 4 * (j + k) + 1 = omega arith in
    let e2 : 4 * j + (4 * k + 2) ≡ 4 * (j + k) + 2 = omega arith in
    let e3 : 4 * j + (4 * k + 3) ≡ 4 * (j + k) + 3 = omega arith in
    let at : (i : ℕ) → get_or (drop (4 * j) b) i 0 ≡ get_or b (4 * j + i) 0 = λ i. get_or-drop (4 * j) b i 0 in
    rw (at (4 * k), at (4 * k + 1), at (4 * k + 2), at (4 * k + 3), e0, e1, e2, e3)

-- the lines of the first j and of the k behind them
pub lines_join : (b : List ℕ) (j k : ℕ) → service_lines b j ++ service_lines (drop (4 * j) b) k ≡ service_lines b (j + k)
unfolding service_lines
lines_join b j zero = append-nil (service_lines b j) ∙ ap (service_lines b) (sym (add-zero j))
lines_join b j (suc k) =
    sym (append_assoc (service_lines b j) (service_lines (drop (4 * j) b) k) (line_at (drop (4 * j) b) k))
    ∙ rw (lines_join b j k, line_behind b j k, add-suc j k)

-- the first m bytes are all that the services within them need
lines_take : (b : List ℕ) (m k : ℕ) → 4 * k ≤ m → service_lines (take m b) k ≡ service_lines b k
unfolding service_lines line_at
lines_take b m zero h = refl
lines_take b m (suc k) h =
    rw (
      lines_take b m k (omega arith),
      get_or-take m b (4 * k) 0 (omega arith),
      get_or-take m b (4 * k + 1) 0 (omega arith),
      get_or-take m b (4 * k + 2) 0 (omega arith),
      get_or-take m b (4 * k + 3) 0 (omega arith),
    )

-- Of n services the first k are written, and then f of the part of the book from 4 k to 4 n.
pub part_more : (b : List ℕ) (n k f : ℕ) → k + f ≤ n
    → service_lines b k ++ service_lines (take (4 * n - 4 * k) (drop (4 * k) b)) f ≡ service_lines b (k + f)
part_more b n k f h = rw (lines_take (drop (4 * k) b) (4 * n - 4 * k) f (omega arith)) (lines_join b k f)

-- ---- the services that a book's bytes hold

draw_back : (d : ℕ) → d < 65536 → 256 * (d / 256 % 256) + d % 256 ≡ d
draw_back d h = omega arith

-- The lines of a book's bytes, whatever room stands behind them, are those of its services.
pub book_lines : (es : List Service) (room : List ℕ) → ((k : ℕ) → get_or (map (λ (e : Service). e.draw) es) k 0 < 65536)
    → service_lines (book_bytes es ++ room) (length es) ≡ lines_of es
unfolding book_bytes service_lines lines_of line_at
book_lines [] room h = refl
book_lines (e ∷ es) room h =
    let n : 1 + length es ≡ suc (length es) = omega arith in
    let b = book_bytes (e ∷ es) ++ room in
    ap (service_lines b) (sym n)
    ∙ sym (lines_join b 1 (length es))
    ∙ rw (draw_back e.draw (h 0), book_lines es room (λ k. h (suc k)))

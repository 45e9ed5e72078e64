-- What is printed of the four latencies, as bytes. They are doubled: each is printed as its half, in cycles, or as it
-- is. Assumes nothing.
use Rattle.std.specs.Prelude.{ℕ, ◌/◌, ◌%◌, Bool, cond, List, [], ◌++◌, eqb, length, get_or}
use Rattle.lines.specs.Text.{ascii, decimal, refused_line}
use Rattle.latency.specs.Latency.{Latencies, latencies}
use Rattle.base.specs.Refusals.{number_of}
use Rattle.quote.specs.declared.text.Quoted.{Quoted as Said}

-- the half of v: `40` for 80, `89.5` for 179
unfoldable pub half_line : ℕ → List ℕ
half_line v = decimal (v / 2) ++ cond (eqb (v % 2) 0) [] (ascii ".5") ++ ascii "\n"

-- v itself
unfoldable pub whole_line : ℕ → List ℕ
whole_line v = decimal v ++ ascii "\n"

unfoldable pub value_line : Bool → ℕ → List ℕ
value_line doubled v = cond doubled (whole_line v) (half_line v)

-- unicast, multi-unicast, resumable, restricted
unfoldable pub value_lines : Bool → Latencies → List ℕ
value_lines doubled x =
    value_line doubled x.unicast ++ value_line doubled x.multi
    ++ value_line doubled x.resumable ++ value_line doubled x.restricted

-- the four lines, or only the refusal
unfoldable pub latencies_text : Bool → Latencies → List ℕ
latencies_text doubled x = cond (eqb x.refusal 0) (value_lines doubled x) (refused_line x.refusal)

-- it takes no more bytes: in each line twenty digits, `.5` and the newline
abbrev pub text_most : ℕ
text_most = 92

-- ---- of five numbers: t, L, D, n and W in this order

abbrev pub latencies_of : List ℕ → Latencies
latencies_of numbers =
    latencies (get_or numbers 0 0) (get_or numbers 1 0) (get_or numbers 2 0) (get_or numbers 3 0) (get_or numbers 4 0)

unfoldable pub quote_text : Bool → List ℕ → List ℕ
quote_text doubled numbers = latencies_text doubled (latencies_of numbers)

-- the refusal, and how many bytes the text has
pub record Quoted : Type 0 where
  pub refusal : ℕ
  pub count : ℕ

-- what the code answers in these words
abbrev pub told_quoted : Said → Quoted
told_quoted q = record { refusal = number_of q.refused; count = q.count }

unfoldable pub quote_of : Bool → List ℕ → Quoted
quote_of doubled numbers =
    record { refusal = (latencies_of numbers).refusal; count = length (quote_text doubled numbers) }

-- Computed examples of the text: what document 01 quotes, the longest lines, and names as they are shown. Assumes nothing.
use mathlib.Core.Path.{◌≡◌, refl}
use mathlib.Core.List.{List, [], ◌∷◌, ◌++◌}
use Prim.Native.Nat.{ℕ}
use Rattle.types.specs.declared.Counts.{Counts}
use lib.ListN.{length}
use Rattle.lines.specs.Text.{ascii, places, decimal, refused_line, counts_line, answer_line, answer_most}
use Rattle.lines.specs.Text.{service_line, service_most, line_at, service_lines}
use Rattle.lines.specs.Add.{shown, shown_to, shown_byte}

abbrev counts : ℕ → ℕ → ℕ → ℕ → Counts
counts a p v o = record { accepted = a; pairs = p; serviced = v; owed = o }

-- ---- "prints one line, `accepted 1 pairs 1 serviced 0 owed 1`"

pub run_r_lem : answer_line 0 (counts 1 1 0 1) ≡ ascii "accepted 1 pairs 1 serviced 0 owed 1\n"
unfolding answer_line counts_line decimal places
run_r_lem = refl

-- four different numbers
pub four_counts_lem : answer_line 0 (counts 12 345 6 339) ≡ ascii "accepted 12 pairs 345 serviced 6 owed 339\n"
unfolding answer_line counts_line decimal places
four_counts_lem = refl

abbrev highest : ℕ
highest = 18446744073709551615

pub longest_counts : answer_line 0 (counts highest highest highest highest) ≡ ascii
    "accepted 18446744073709551615 pairs 18446744073709551615 serviced 18446744073709551615 owed 18446744073709551615\n"
unfolding answer_line counts_line decimal places
longest_counts = refl

pub longest_answer : length (answer_line 0 (counts highest highest highest highest)) ≡ answer_most
unfolding answer_line counts_line decimal places
longest_answer = refl

-- ---- "a refusal prints only the line `refused 4`, with its own number": whatever the counts are

pub refused_4 : answer_line 4 (counts 1 2 3 4) ≡ ascii "refused 4\n"
unfolding answer_line refused_line decimal places
refused_4 = refl

pub refused_14 : answer_line 14 (counts 0 0 0 0) ≡ ascii "refused 14\n"
unfolding answer_line refused_line decimal places
refused_14 = refl

-- ---- "Each service would come first as `draw packet site` in decimal"

pub service : service_line 1000 25 7 ≡ ascii "1000 25 7\n"
unfolding service_line decimal places
service = refl

pub service_0 : service_line 0 0 0 ≡ ascii "0 0 0\n"
unfolding service_line decimal places
service_0 = refl

pub longest_service : service_line 65535 255 255 ≡ ascii "65535 255 255\n"
unfolding service_line decimal places
longest_service = refl

pub longest_line : length (service_line 65535 255 255) ≡ service_most
unfolding service_line decimal places
longest_line = refl

-- where the number of digits changes
pub nine_ten : service_line 9 10 99 ≡ ascii "9 10 99\n"
unfolding service_line decimal places
nine_ten = refl

pub hundreds : service_line 9999 100 199 ≡ ascii "9999 100 199\n"
unfolding service_line decimal places
hundreds = refl

-- ---- "The book is 4 bytes a service: draw 2, packet 1, site 1.": two services, and the room behind them

abbrev book : List ℕ
book = 3 ∷ 232 ∷ 25 ∷ 7 ∷ 255 ∷ 254 ∷ 0 ∷ 15 ∷ 9 ∷ 9 ∷ 9 ∷ 9 ∷ []

pub book_none : service_lines book 0 ≡ []
unfolding service_lines
book_none = refl

pub book_one : service_lines book 1 ≡ ascii "1000 25 7\n"
unfolding service_lines line_at service_line decimal places
book_one = refl

pub book_two : service_lines book 2 ≡ ascii "1000 25 7\n65534 0 15\n"
unfolding service_lines line_at service_line decimal places
book_two = refl

-- ---- a name: what ends a line, what a terminal obeys and the backslash are escaped, all else stays

pub plain_name : shown (ascii "load one-site_2.bin") ≡ ascii "load one-site_2.bin"
unfolding shown_to shown_byte
plain_name = refl

pub strange_name : shown (ascii "a\nb\r\t\\") ≡ ascii "a\\nb\\r\\t\\\\"
unfolding shown_to shown_byte
strange_name = refl

-- bytes 0, 27, 31, 32, 126, 127, 128 and 255
pub edges : shown (0 ∷ 27 ∷ 31 ∷ 32 ∷ 126 ∷ 127 ∷ 128 ∷ 255 ∷ []) ≡ ascii "\\x00\\x1b\\x1f ~\\x7f" ++ (128 ∷ 255 ∷ [])
unfolding shown_to shown_byte
edges = refl

-- Computed examples: the numbers that words say, and what is printed of five of them. Assumes nothing.
use mathlib.Core.Path.{◌≡◌, refl}
use mathlib.Core.Bool.{Bool, true, false}
use mathlib.Core.List.{List, [], ◌∷◌, map}
use Prim.Native.Nat.{ℕ}
use Prim.Native.String.{String}
use Rattle.base.specs.All.{all}
use Rattle.lines.specs.Text.{ascii, places, decimal, refused_line}
use Rattle.latency.specs.Latency.{ceiling, twice_unicast, twice_multi, twice_resumable, twice_restricted, by_cycles, latencies}
use Rattle.quote.specs.Words.{value_to, number_of}
use Rattle.quote.specs.Text.{half_line, whole_line, value_line, value_lines, latencies_text, quote_text}

-- ---- words: the number of each, beside what it is

abbrev number : String → ℕ
number word = number_of (ascii word)

pub words : List (ℕ × ℕ)
words =
    (number "8", 8)
    ∷ (number "008", 8)
    ∷ (number "1", 1)
    ∷ (number "256", 256)
    ∷ (number "65535", 65535)
    ∷ (number "0000000000000000000000000000065535", 65535)
    ∷ (number "65536", 65536)
    ∷ (number "65537", 65536)  -- and so every larger one
    ∷ (number "655350", 65536)
    ∷ (number "18446744073709551624", 65536)  -- 2 ^ 64 + 8
    ∷ (number "0", 0)
    ∷ (number "", 0)
    ∷ (number "abc", 0)
    ∷ (number "1.5", 0)
    ∷ (number "-3", 0)
    ∷ (number "-", 0)
    ∷ (number "+7", 0)
    ∷ (number "0x10", 0)
    ∷ (number "1e3", 0)
    ∷ (number " 8", 0)
    ∷ (number "8 ", 0)
    ∷ (number "8\n", 0)
    ∷ (number "8/", 0)  -- the byte before `0`
    ∷ (number ":8", 0)  -- the byte behind `9`
    ∷ []

pub words_read : map (λ row. row.0) words ≡ map (λ row. row.1) words
unfolding words number_of all value_to
words_read = refl

-- ---- text: what is printed, beside what it is

-- of four different values with refusal e
abbrev text : Bool → ℕ → List ℕ
text doubled e =
    latencies_text doubled (record { refusal = e; unicast = 10; multi = 13; resumable = 24; restricted = 99 })

-- of five words
abbrev quoted : Bool → String → String → String → String → String → List ℕ
quoted doubled t L D n W = quote_text doubled (map number (t ∷ L ∷ D ∷ n ∷ W ∷ []))

pub printed : List (List ℕ × List ℕ)
printed =
    (value_line false 0, ascii "0\n")
    ∷ (value_line false 1, ascii "0.5\n")
    ∷ (value_line false 2, ascii "1\n")
    ∷ (value_line false 281470681743360, ascii "140735340871680\n")
    ∷ (value_line true 0, ascii "0\n")
    ∷ (value_line true 1, ascii "1\n")
    ∷ (value_line true 281470681743360, ascii "281470681743360\n")
    ∷ (text false 0, ascii "5\n6.5\n12\n49.5\n")
    ∷ (text true 0, ascii "10\n13\n24\n99\n")
    ∷ (text false 20, ascii "refused 20\n")
    ∷ (text true 20, ascii "refused 20\n")
    ∷ (quoted false "8" "256" "8" "4" "8", ascii "40\n89.5\n43\n53.5\n")
    ∷ (quoted true "8" "256" "8" "4" "8", ascii "80\n179\n86\n107\n")
    ∷ (quoted false "8" "256" "8" "1" "8", ascii "40\n40\n40\n40\n")
    ∷ (quoted false "17" "100" "5" "3" "8", ascii "28\n44\n34\n46\n")
    ∷ (quoted false "-8" "256" "8" "4" "8", ascii "refused 20\n")
    ∷ (quoted false "8" "65536" "8" "4" "8", ascii "refused 20\n")
    ∷ (quoted false "8" "256" "" "4" "8", ascii "refused 20\n")
    ∷ (quoted true "8" "256" "8" "0" "8", ascii "refused 20\n")
    ∷ (quoted true "8" "256" "8" "4" "8.5", ascii "refused 20\n")
    ∷ []

pub printed_read : map (λ row. row.0) printed ≡ map (λ row. row.1) printed
unfolding printed quote_text latencies_text value_lines value_line half_line whole_line refused_line decimal places latencies by_cycles
    ceiling twice_unicast twice_multi twice_resumable twice_restricted number_of all value_to
printed_read = refl

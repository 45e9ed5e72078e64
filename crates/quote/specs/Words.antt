-- The number that a word says: decimal digits alone, leading zeros among them, at any length. Assumes nothing.
use Rattle.std.specs.Prelude.{ℕ, zero, suc, ◌+◌, ◌-◌, ◌*◌, min, Bool, cond, ◌&&◌, List, leb, length, get_or}
use Rattle.base.specs.All.{all}
use Rattle.latency.specs.Latency.{argument_most}

-- `0` to `9`
abbrev pub is_digit : ℕ → Bool
is_digit byte = leb 48 byte && leb byte 57

-- every byte of the word is one
abbrev pub all_digits : List ℕ → Bool
all_digits word = all (λ i. is_digit (get_or word i 0)) (length word)

-- the value of the first k digits: ten times that of the digits before the last of them, and the last
unfoldable pub value_to : List ℕ → ℕ → ℕ
value_to word zero = 0
value_to word (suc k) = 10 * value_to word k + (get_or word k 0 - 48)

-- the value of all of them
abbrev pub value_of : List ℕ → ℕ
value_of word = value_to word (length word)

-- stands for every number that is larger than an argument may be
abbrev pub beyond : ℕ
beyond = argument_most + 1

-- the value of a word of digits alone, or `beyond` where that is less; 0 for any other word, and for the empty one
unfoldable pub number_of : List ℕ → ℕ
number_of word = cond (all_digits word) (min beyond (value_of word)) 0

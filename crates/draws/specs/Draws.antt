-- Draws, and the event that a draw names. The quoted phrases are document 01's. Assumes nothing.
use Rattle.std.specs.Prelude.{Bool, cond, ◌&&◌, ◌≡◌, ℕ, zero, suc, ◌+◌, ◌*◌, ◌/◌, ◌%◌, ◌^◌, ◌≤◌, ◌<◌, eqb, leb, Result, Ok, Err}
use Rattle.std.specs.Int.Bits.{bit_xor}
use Rattle.base.specs.Sizes.{sites_most, code_count, split_code_count}
use Rattle.base.specs.declared.refusal.Refusal.{Refusal}
use Rattle.base.specs.Refusals.{number}
use Rattle.draws.specs.declared.Event.{Event}

-- "32 bits": a value with itself shifted left by k, cut to 32 bits, xored into it
abbrev pub left_xor : ℕ → ℕ → ℕ
left_xor k x = bit_xor x ((x * 2 ^ k) % 2 ^ 32)

-- a value with itself shifted right by k xored into it
abbrev pub right_xor : ℕ → ℕ → ℕ
right_xor k x = bit_xor x (x / 2 ^ k)

-- "Marsaglia, "Xorshift RNGs" (2003), 32 bits, shifts left 13, right 17, left 5."
unfoldable pub drawn : ℕ → ℕ
drawn x = left_xor 5 (right_xor 17 (left_xor 13 x))

-- "Each draw advances first.": the value after k draws from a seed, so that draw d, counted from 0, is read from the
-- value after d + 1 draws
unfoldable pub value_after : ℕ → ℕ → ℕ
value_after zero seed = seed
value_after (suc k) seed = drawn (value_after k seed)

-- L10: "the scheme of source document 001 as edition 3": whether an edition is the restricted one
abbrev pub restricted : ℕ → Bool
restricted edition = eqb edition 3

-- L10: "with codes 13 (output) and 14 (its operator); draws then use 15 in place of 13": the codes of an edition
abbrev pub codes_in : ℕ → ℕ
codes_in edition = cond (restricted edition) split_code_count code_count

-- "With m the value modulo 13S"
abbrev pub drawn_number : ℕ → ℕ → ℕ → ℕ
drawn_number edition S value = value % (codes_in edition * S)

-- "the event is RUN (m / 13, m mod 13), whole division."
abbrev pub drawn_site : ℕ → ℕ → ℕ → ℕ
drawn_site edition S value = drawn_number edition S value / codes_in edition

abbrev pub drawn_code : ℕ → ℕ → ℕ → ℕ
drawn_code edition S value = drawn_number edition S value % codes_in edition

-- what a number of codes and its share of 65536 have to do with each other: a product in the place of the whole division, of every
-- number that a draw comes to
pub record Shares (codes share : ℕ) : Type 0 where
  pub small : share ≤ 65536
  pub divides : (m : ℕ) → m < split_code_count * sites_most → m * share / 65536 ≡ m / codes
  pub rests : (m : ℕ) → codes * (m / codes) + m % codes ≡ m

-- the event RUN (site, code) that a value names; "A refusal's other numbers are zero."
pub record DrawnEvent : Type 0 where
  pub refusal : ℕ
  pub site : ℕ
  pub code : ℕ

-- an answer in these numbers
abbrev pub told : Result Event Refusal → DrawnEvent
told (Ok e) = record { refusal = 0; site = e.site; code = e.code }
told (Err r) = record { refusal = number r; site = 0; code = 0 }

-- the event in a network of S sites; "3 | S, T or D outside its limits", and "A refusal's other numbers are zero."
unfoldable pub event_of : ℕ → ℕ → ℕ → DrawnEvent
event_of edition S value =
    cond (leb 1 S && leb S sites_most) (record { refusal = 0; site = drawn_site edition S value; code = drawn_code edition S value })
    (record { refusal = 3; site = 0; code = 0 })

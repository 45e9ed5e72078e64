-- The owed pairs of any lent words.
use Rattle.std.specs.Prelude.{ℕ, List, cond, Result, Ok, Err}
use Rattle.model.specs.Owing.{owed_pairs}
use Rattle.base.specs.declared.refusal.Refusal.{Refusal}
use Rattle.base.specs.Refusals.{number}
use Rattle.layout.specs.Words.{sites_of, is_state}

-- the owed pairs of lent words, or the refusal and none
pub record OwedAnswer : Type 0 where
  pub pairs : ℕ
  pub refusal : ℕ

-- an answer of the code in these words
abbrev pub told_owed : Result ℕ Refusal → OwedAnswer
told_owed (Ok n) = record { pairs = n; refusal = 0 }
told_owed (Err e) = record { pairs = 0; refusal = number e }

-- the owed pairs of the words c: 13 for words that are no state's, else 0 and the pairs
unfoldable pub owed_words : List ℕ → OwedAnswer
owed_words c = cond (is_state c) (record { pairs = owed_pairs (sites_of c); refusal = 0 }) (record { pairs = 0; refusal = 13 })

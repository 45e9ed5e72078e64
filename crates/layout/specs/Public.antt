-- The public events on any lent words: the answer and the words after it. A refusal leaves the words as they were.
use Rattle.std.specs.Prelude.{ℕ, List, [], ◌∷◌, cond, ◌&&◌}
use Rattle.base.specs.Answers.{or_next}
use Rattle.types.specs.declared.Network.{Network}
use Rattle.types.specs.declared.AfterRun.{AfterRun}
use Rattle.types.specs.declared.AfterSend.{AfterSend}
use Rattle.types.specs.declared.Sent.TheVariants.{the_data as Sent, Refused as SendRefused}
use Rattle.types.specs.declared.Ran.TheVariants.{the_data as Ran, Refused as RunRefused}
use Rattle.model.specs.Network.{network_refusal}
use Rattle.model.specs.Range.{in_range}
use Rattle.model.specs.Events.{ran, sent, Event, Send, Run}
use Rattle.layout.specs.Words.{state_of, words_of, is_state}

pub record RanWords : Type 0 where
  pub answer : Ran
  pub blocking : ℕ
  pub words : List ℕ

pub record SentWords : Type 0 where
  pub answer : Sent
  pub words : List ℕ

abbrev pub of_ran : AfterRun → RanWords
of_ran w = record { answer = w.answer; blocking = w.blocking; words = words_of w.state }

abbrev pub of_sent : AfterSend → SentWords
of_sent w = record { answer = w.answer; words = words_of w.state }

-- words that are no state's: the network's own 2, 17, 3, 6, 7, then 13
abbrev pub form_refusal : Network → ℕ
form_refusal n = or_next (network_refusal n) 13

-- RUN (s, code) and SEND (s, X) on the words c, with all their refusals: 2, 17, 3, 6, 7, 13, 9, and for SEND 10, 12, 11
unfoldable pub ran_words : Network → List ℕ → ℕ → ℕ → RanWords
ran_words n c s code =
    cond (is_state c) (of_ran (ran n (state_of c) s code)) (record { answer = RunRefused (form_refusal n); blocking = 0; words = c })

unfoldable pub sent_words : Network → List ℕ → ℕ → ℕ → SentWords
sent_words n c s X = cond (is_state c) (of_sent (sent n (state_of c) s X)) (record { answer = SendRefused (form_refusal n); words = c })

-- the refusals that both share: 2, 17, 3, 6, 7 of the network; 13 for words that are no state's, or of a state that is not in range; else 0
unfoldable pub shared_refusal : Network → List ℕ → ℕ
shared_refusal n c = or_next (network_refusal n) (cond (is_state c && in_range n (state_of c)) 0 13)

-- the words after an event, and after a list of events, refused ones among them
abbrev pub words_by : Network → List ℕ → Event → List ℕ
words_by n c (Send s X) = (sent_words n c s X).words
words_by n c (Run s code) = (ran_words n c s code).words

unfoldable pub words_final : Network → List ℕ → List Event → List ℕ
words_final n c [] = c
words_final n c (e ∷ es) = words_final n (words_by n c e) es

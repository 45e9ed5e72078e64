-- SEND and RUN computed on words, behind their refusals: one site without channels; the words after them typed from the tables
-- of specs/Layout.antt and specs/Packed.antt. Then refusals.
use mathlib.Core.Path.{◌≡◌, refl}
use mathlib.Core.List.{List, [], ◌∷◌, ◌++◌}
use Prim.Native.Nat.{ℕ, ◌*◌}
use lib.ListN.{set, replicate}
use Rattle.layout.specs.Layout.{counter_at, site_places}
use Rattle.base.specs.All.{all}
use Rattle.base.specs.Over.{over}
use Rattle.sets.specs.Sets.{has, plus, minus}
use Rattle.types.specs.declared.AfterRun.{AfterRun}
use Rattle.types.specs.declared.AfterSend.{AfterSend}
use Rattle.types.specs.declared.Network.{Network}
use Rattle.types.specs.declared.State.{State}
use Rattle.types.specs.declared.Ran.TheVariants.{Changed, Refused as RunRefused}
use Rattle.types.specs.declared.Sent.TheVariants.{Accepted, Refused as SendRefused}
use Rattle.model.specs.Network.{network_refusal}
use Rattle.model.specs.Places.{out_queue}
use Rattle.model.specs.Steps.{act, run, enqueue}
use Rattle.model.specs.Events.{sends, runs}
use Rattle.layout.specs.Packed.{input_from, input_word, output_from, output_word, out_entry_from, out_entry_word, in_entry_from, in_entry_word}
use Rattle.layout.specs.Words.{input_at, output_at, leaving_at, arrived_at, in_queue_at, site_of, sites_of, set_of, fields_of, word_of, state_of, canonical, no_words}
use Rattle.layout.specs.Public.{ran_words, sent_words}
use Rattle.model.proofs.Made.{net}

abbrev one_site : ℕ → Network
one_site T = net 1 T 1 [] []

-- the words of site 0 in a state, and the counter's
abbrev shown : State → List ℕ
shown st = over (word_of st) (2 * site_places) (replicate (2 * site_places) 0) ++ (word_of st counter_at ∷ [])

abbrev none : List ℕ
none = replicate (2 * site_places) 0

-- the first entry of the out-queue (place 11) has the set {0} and packet 0, not started; its count is 1 (place 35), the counter too
abbrev waiting : List ℕ
waiting = set (set (set no_words 22 1) 70 1) counter_at 1

abbrev sending : AfterSend
sending = sends (state_of no_words) 0 1

sent_answer : sending.answer ≡ Accepted 0
unfolding no_words
sent_answer = refl

sent_words_lem : shown sending.state ≡ set (set none 22 1) 70 1 ++ (1 ∷ [])
unfolding no_words over sites_of site_of input_at output_at leaving_at arrived_at in_queue_at input_from output_from out_entry_from in_entry_from
    input_word output_word out_entry_word in_entry_word set_of fields_of word_of enqueue has plus minus
sent_words_lem = refl

-- the out-queue starts its entry: net-input 0 (place 0) seeks with the set {0}, the entry is marked as started
abbrev running : AfterRun
running = runs (one_site 1) (state_of waiting) 0 10

ran_answer : running.answer ≡ Changed
unfolding no_words over sites_of site_of input_at leaving_at input_from out_entry_from set_of fields_of run act out_queue
ran_answer = refl

ran_words_lem : shown running.state ≡ set (set (set (set (set none 0 1) 1 1) 22 1) 23 1) 70 1 ++ (1 ∷ [])
unfolding no_words over sites_of site_of input_at output_at leaving_at arrived_at in_queue_at input_from output_from out_entry_from in_entry_from
    input_word output_word out_entry_word in_entry_word set_of fields_of word_of run act out_queue
ran_words_lem = refl

-- refusals: the network's own before 13; a word changed that no state has
untried : ran_words (one_site 0) [] 0 0 ≡ record { answer = RunRefused 3; blocking = 0; words = [] }
unfolding ran_words network_refusal
untried = refl

wrong_length : sent_words (one_site 1) (7 ∷ []) 0 1 ≡ record { answer = SendRefused 13; words = 7 ∷ [] }
unfolding sent_words network_refusal all
wrong_length = refl

stray_word : sent_words (one_site 1) (set waiting 1 8) 0 1 ≡ record { answer = SendRefused 13; words = set waiting 1 8 }
unfolding sent_words canonical no_words all sites_of site_of input_at output_at leaving_at arrived_at in_queue_at input_from output_from out_entry_from in_entry_from
    input_word output_word out_entry_word in_entry_word set_of fields_of network_refusal
stray_word = refl

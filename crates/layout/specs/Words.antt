-- The state that a list of words stands for, the words of a state, and which words are a state's. Assumes nothing.
use Rattle.std.specs.Prelude.{ℕ, zero, suc, ◌+◌, ◌-◌, ◌/◌, ◌%◌, List, Bool, cond, ◌&&◌, eqb, ltb, length, get_or, replicate}
use Rattle.base.specs.All.{all}
use Rattle.base.specs.Over.{over}
use Rattle.base.specs.Rows.{rows}
use Rattle.base.specs.Sizes.{sites_most, input_count, output_count, in_queue_count, queue_room}
use Rattle.types.specs.declared.Input.{Input}
use Rattle.types.specs.declared.Output.{Output}
use Rattle.types.specs.declared.OutEntry.{OutEntry}
use Rattle.types.specs.declared.InEntry.{InEntry}
use Rattle.types.specs.declared.InQueue.{InQueue}
use Rattle.types.specs.declared.Site.{Site}
use Rattle.types.specs.declared.State.{State}
use Rattle.model.specs.Types.{site_at, in_at, out_at, out_entry, queue_at, in_entry}
use Rattle.layout.specs.Layout.{outputs_from, leaving_from, arrived_from, counts_from, site_places, arrived_place, count_place}
use Rattle.layout.specs.Layout.{counter_at, word_count, set_index, fields_index}
use Rattle.layout.specs.Packed.{input_from, input_word, output_from, output_word, out_entry_from, out_entry_word, in_entry_from, in_entry_word}

-- ---- read: the words c

abbrev pub set_at : List ℕ → ℕ → ℕ → ℕ
set_at c s k = get_or c (set_index s k) 0

abbrev pub fields_at : List ℕ → ℕ → ℕ → ℕ
fields_at c s k = get_or c (fields_index s k) 0

unfoldable pub input_at : List ℕ → ℕ → ℕ → Input
input_at c s i = input_from (set_at c s i) (fields_at c s i)

unfoldable pub output_at : List ℕ → ℕ → ℕ → Output
output_at c s j = output_from (set_at c s (outputs_from + j)) (fields_at c s (outputs_from + j))

unfoldable pub leaving_at : List ℕ → ℕ → ℕ → OutEntry
leaving_at c s m = out_entry_from (set_at c s (leaving_from + m)) (fields_at c s (leaving_from + m))

-- entry m of in-queue q
unfoldable pub arrived_at : List ℕ → ℕ → ℕ → ℕ → InEntry
arrived_at c s q m = in_entry_from (set_at c s (arrived_place q m)) (fields_at c s (arrived_place q m))

unfoldable pub in_queue_at : List ℕ → ℕ → ℕ → InQueue
in_queue_at c s q = record { entries = rows queue_room (arrived_at c s q); count = set_at c s (count_place q) }

unfoldable pub site_of : List ℕ → ℕ → Site
site_of c s =
    record {
      inputs = rows input_count (input_at c s);
      outputs = rows output_count (output_at c s);
      outgoing = record { entries = rows queue_room (leaving_at c s); count = set_at c s counts_from };
      incoming = rows in_queue_count (in_queue_at c s);
    }

unfoldable pub sites_of : List ℕ → List Site
sites_of c = rows sites_most (site_of c)

abbrev pub state_of : List ℕ → State
state_of c = record { sites = sites_of c; counter = get_or c counter_at 0 % 256 }

-- ---- written: place k of a site x as two words

-- the counts: the out-queue's, then the in-queues'
abbrev pub count_of : Site → ℕ → ℕ
count_of x zero = x.outgoing.count
count_of x (suc q) = (queue_at x q).count

-- entry m of all in-queues' together
abbrev pub arrived_of : Site → ℕ → InEntry
arrived_of x m = in_entry (queue_at x (m / queue_room)) (m % queue_room)

unfoldable pub set_of : Site → ℕ → ℕ
set_of x k =
    cond (ltb k outputs_from) (in_at x k).set
    (cond (ltb k leaving_from) (out_at x (k - outputs_from)).set
    (cond (ltb k arrived_from) (out_entry x.outgoing (k - leaving_from)).set
    (cond (ltb k counts_from) (arrived_of x (k - arrived_from)).set (count_of x (k - counts_from)))))

unfoldable pub fields_of : Site → ℕ → ℕ
fields_of x k =
    cond (ltb k outputs_from) (input_word (in_at x k))
    (cond (ltb k leaving_from) (output_word (out_at x (k - outputs_from)))
    (cond (ltb k arrived_from) (out_entry_word (out_entry x.outgoing (k - leaving_from)))
    (cond (ltb k counts_from) (in_entry_word (arrived_of x (k - arrived_from))) 0)))

-- word m of the state
unfoldable pub word_of : State → ℕ → ℕ
word_of st m =
    let x = site_at st.sites (m / 2 / site_places) in
    let k = m / 2 % site_places in
    cond (ltb m counter_at) (cond (eqb (m % 2) 0) (set_of x k) (fields_of x k)) st.counter

unfoldable pub words_of : State → List ℕ
words_of st = over (word_of st) word_count (replicate word_count 0)

-- ---- canonical: packing what the words stand for gives them again. A set and a count are whole words, so it is the
-- packed words, zero beside a count, and the counter that are asked

-- a choice by the kind of place k: a net-input, a net-output, an entry of the out-queue, of an in-queue, a count
abbrev pub kinds : {A : Type 0} → ℕ → A → A → A → A → A → A
kinds k a b c d e =
    cond (ltb k outputs_from) a (cond (ltb k leaving_from) b (cond (ltb k arrived_from) c (cond (ltb k counts_from) d e)))

-- the packed word of the place k that a set X and a packed word w stand for
unfoldable pub repacked : ℕ → ℕ → ℕ → ℕ
repacked k X w =
    kinds k (input_word (input_from X w)) (output_word (output_from X w)) (out_entry_word (out_entry_from X w))
    (in_entry_word (in_entry_from X w)) 0

abbrev pub place_same : List ℕ → ℕ → ℕ → Bool
place_same c s k = eqb (fields_at c s k) (fields_of (site_of c s) k)

unfoldable pub canonical : List ℕ → Bool
canonical c = all (λ s. all (place_same c s) site_places) sites_most && ltb (get_or c counter_at 0) 256

-- the words of a state: as many as there are, in canonical form
abbrev pub is_state : List ℕ → Bool
is_state c = eqb (length c) word_count && canonical c

-- ---- the empty state's words, and lent words after write_empty

unfoldable pub no_words : List ℕ
no_words = replicate word_count 0

unfoldable pub emptied : List ℕ → List ℕ
emptied c = cond (eqb (length c) word_count) no_words c

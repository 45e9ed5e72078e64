-- Where a state's places lie among its words. A place is two words: its set, and its small fields packed (Packed.antt).
--
--   place k of site s            words 2 * (site_places * s + k) and the next one
--     k  0 to  4                 net-inputs 0 to 4
--     k  5 to 10                 net-outputs 0 to 5, the last one the split output
--     k 11 to 18                 the out-queue's entries, from the front
--     k 19 to 26, 27 to 34       the entries of in-queue 0, of in-queue 1, from the front
--     k 35, 36, 37               the counts of the out-queue, of in-queue 0, of in-queue 1: each the count, then zero
--   the last word                the counter
--
-- src/lib.rt has the same numbers. All words zero are the empty state.
use Rattle.std.specs.Prelude.{ℕ, ◌+◌, ◌*◌, ◌/◌, ◌%◌}
use Rattle.base.specs.Sizes.{sites_most, input_count, output_count, port_count, in_queue_count, queue_room}

-- the first place of a site's outputs, of its out-queue, of its in-queues, of its counts; the places of a site
abbrev pub outputs_from : ℕ
outputs_from = input_count

abbrev pub leaving_from : ℕ
leaving_from = outputs_from + output_count

abbrev pub arrived_from : ℕ
arrived_from = leaving_from + queue_room

abbrev pub counts_from : ℕ
counts_from = arrived_from + in_queue_count * queue_room

abbrev pub site_places : ℕ
site_places = counts_from + 1 + in_queue_count

-- the place of entry m of in-queue q, and of the count of in-queue q; the out-queue's count is at counts_from
abbrev pub arrived_place : ℕ → ℕ → ℕ
arrived_place q m = arrived_from + (queue_room * q + m)

abbrev pub count_place : ℕ → ℕ
count_place q = counts_from + 1 + q

-- the counter's word, and how many words there are
abbrev pub counter_at : ℕ
counter_at = 2 * (site_places * sites_most)

abbrev pub word_count : ℕ
word_count = counter_at + 1

-- the two words of place k of site s
abbrev pub set_index : ℕ → ℕ → ℕ
set_index s k = 2 * (site_places * s + k)

abbrev pub fields_index : ℕ → ℕ → ℕ
fields_index s k = 2 * (site_places * s + k) + 1

-- the net-inputs that a channel may end at: a channel is below this
abbrev pub end_count : ℕ
end_count = port_count * sites_most

-- where the channel b ends: the site, and the net-input there
abbrev pub end_site : ℕ → ℕ
end_site b = b / port_count

abbrev pub end_input : ℕ → ℕ
end_input b = b % port_count + 1

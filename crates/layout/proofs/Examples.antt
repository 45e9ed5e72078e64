-- Words typed from the tables of specs/Layout.antt and specs/Packed.antt, each byte counted out.
use mathlib.Core.Path.{◌≡◌, refl}
use mathlib.Core.List.{[], ◌∷◌}
use mathlib.Core.Bool.{true, false}
use Rattle.types.specs.declared.Connection.TheVariants.{AllRemote, SomeLocal, Branch}
use Rattle.types.specs.declared.Received.TheVariants.{Abort as got_abort}
use Rattle.types.specs.declared.Terminator.TheVariants.{None as t_none, Abort as t_abort, KeepLocal as t_keep}
use Rattle.types.specs.declared.Phase.TheVariants.{Open, Done}
use Rattle.types.specs.declared.Input.{Input}
use Rattle.types.specs.declared.Output.{Output}
use Rattle.types.specs.declared.OutEntry.{OutEntry}
use Rattle.types.specs.declared.InEntry.{InEntry}
use Rattle.layout.specs.Layout.{outputs_from, leaving_from, arrived_from, counts_from, arrived_place, count_place}
use Rattle.layout.specs.Layout.{counter_at, word_count, set_index, fields_index}
use Rattle.layout.specs.Packed.{input_from, input_word, output_from, output_word, out_entry_from, out_entry_word, in_entry_from, in_entry_word}
use Rattle.layout.specs.Words.{repacked}

-- ---- a net-input: open, connection 3, marks 0 and 2, packet 7, tries 2: the bytes 02 07 05 1a
abbrev opened : Input
opened = record { set = 6; phase = Open AllRemote; outputs = true ∷ false ∷ true ∷ false ∷ false ∷ false ∷ []; packet = 7; tries = 2 }

opened_word : input_word opened ≡ 34014490
unfolding input_word
opened_word = refl

opened_back : input_from 6 34014490 ≡ opened
unfolding input_from
opened_back = refl

-- done, connection 4, abort received, mark 4, packet 1, no tries: 00 01 10 a4
abbrev finished : Input
finished = record { set = 1; phase = Done SomeLocal got_abort; outputs = false ∷ false ∷ false ∷ false ∷ true ∷ false ∷ []; packet = 1; tries = 0 }

finished_word : input_word finished ≡ 69796
unfolding input_word
finished_word = refl

finished_back : input_from 1 69796 ≡ finished
unfolding input_from
finished_back = refl

-- open, connection 6, marks 1 and 5, packet 3, tries 1: 01 03 22 32
abbrev parted : Input
parted = record { set = 5; phase = Open Branch; outputs = false ∷ true ∷ false ∷ false ∷ false ∷ true ∷ []; packet = 3; tries = 1 }

parted_word : input_word parted ≡ 16982578
unfolding input_word
parted_word = refl

parted_back : input_from 5 16982578 ≡ parted
unfolding input_from
parted_back = refl

-- ---- a net-output: in use, head taken, keep-local, fed by input 4, packet 9: 09 04 0f
abbrev passed : Output
passed = record { set = 32768; terminator = t_keep; packet = 9; input = 4; used = true; head = true; closing = false }

passed_word : output_word passed ≡ 590863
unfolding output_word
passed_word = refl

passed_back : output_from 32768 590863 ≡ passed
unfolding output_from
passed_back = refl

-- in use, head taken, closing, fed by input 1, packet 7: 07 01 13
abbrev closed : Output
closed = record { set = 6; terminator = t_none; packet = 7; input = 1; used = true; head = true; closing = true }

closed_word : output_word closed ≡ 459027
unfolding output_word
closed_word = refl

closed_back : output_from 6 459027 ≡ closed
unfolding output_from
closed_back = refl

-- in use, head not taken: 03 02 01
waiting_back : output_from 5 197121 ≡ record { set = 5; terminator = t_none; packet = 3; input = 2; used = true; head = false; closing = false }
unfolding output_from
waiting_back = refl

-- ---- entries: started, packet 200: c8 01; abort, packet 5: 05 02
abbrev leaving : OutEntry
leaving = record { set = 9; packet = 200; started = true }

leaving_word : out_entry_word leaving ≡ 51201
unfolding out_entry_word
leaving_word = refl

leaving_back : out_entry_from 9 51201 ≡ leaving
unfolding out_entry_from
leaving_back = refl

abbrev arrived : InEntry
arrived = record { set = 8; terminator = t_abort; packet = 5 }

arrived_word : in_entry_word arrived ≡ 1282
unfolding in_entry_word
arrived_word = refl

arrived_back : in_entry_from 8 1282 ≡ arrived
unfolding in_entry_from
arrived_back = refl

-- ---- words that no place packs to: a connection of a free input, a bit between the marks and the packet, a bit of an output behind
-- the mark closing, a bit of an out-queue's entry beside the started one, a number beside a count
stray_connection : repacked 0 0 24 ≡ 0
unfolding repacked input_word input_from
stray_connection = refl

stray_input : repacked 4 0 16384 ≡ 0
unfolding repacked input_word input_from
stray_input = refl

stray_output : repacked 5 0 63 ≡ 31
unfolding repacked output_word output_from
stray_output = refl

stray_leaving : repacked 11 0 3 ≡ 1
unfolding repacked out_entry_word out_entry_from
stray_leaving = refl

stray_counts : repacked 35 2 1 ∷ repacked 36 2 1 ∷ repacked 37 2 1 ∷ [] ≡ 0 ∷ 0 ∷ 0 ∷ []
unfolding repacked
stray_counts = refl

-- ---- places: 38 of a site, two words each; the counter's word is the last of 4,865
places : outputs_from ∷ leaving_from ∷ arrived_from ∷ counts_from ∷ [] ≡ 5 ∷ 11 ∷ 19 ∷ 35 ∷ []
places = refl

queues : arrived_place 0 7 ∷ arrived_place 1 0 ∷ arrived_place 1 7 ∷ count_place 0 ∷ count_place 1 ∷ [] ≡ 26 ∷ 27 ∷ 34 ∷ 36 ∷ 37 ∷ []
queues = refl

indices : set_index 0 1 ∷ fields_index 0 1 ∷ set_index 1 0 ∷ fields_index 63 37 ∷ counter_at ∷ word_count ∷ []
    ≡ 2 ∷ 3 ∷ 76 ∷ 4863 ∷ 4864 ∷ 4865 ∷ []
indices = refl

-- A place's small fields as one number, and the place that a set X and such a number w stand for. Assumes nothing.
--   net-input     bits 0-2 state number, 3-5 connection, 6-7 terminator received, 8-13 the marks of outputs 0 to 5, byte 2 packet, byte 3 tries
--   net-output    bit 0 in use, 1 head taken, 2-3 terminator, 4 closing, byte 1 the input that feeds it, byte 2 packet
--   out-queue     bit 0 started, byte 1 packet
--   in-queue      bits 0-1 terminator, byte 1 packet
use Rattle.std.specs.Prelude.{ℕ, ◌+◌, ◌*◌, ◌/◌, ◌%◌, List, [], ◌∷◌, Bool, cond, eqb}
use Rattle.base.specs.Bools.{count}
use Rattle.types.specs.Numbers.{state_number, connection_of, received_number, terminator_number}
use Rattle.types.specs.declared.Connection.TheVariants.{the_data as Connection, Unicast, Passthru, AllRemote, SomeLocal, Handed, Branch}
use Rattle.types.specs.declared.Received.TheVariants.{the_data as Received, End as got_end, Abort as got_abort}
use Rattle.types.specs.declared.Terminator.TheVariants.{the_data as Terminator, None as t_none, End as t_end, Abort as t_abort, KeepLocal as t_keep}
use Rattle.types.specs.declared.Phase.TheVariants.{the_data as Phase, Free, Seek, Open, Wait, Done, Last, Abort as Aborted, FinAbort}
use Rattle.types.specs.declared.Input.{Input}
use Rattle.types.specs.declared.Output.{Output}
use Rattle.types.specs.declared.OutEntry.{OutEntry}
use Rattle.types.specs.declared.InEntry.{InEntry}
use Rattle.model.specs.Types.{mark}

-- ---- a case by its number

abbrev pub connection_at : ℕ → Connection
connection_at m =
    cond (eqb m 1) Unicast
    (cond (eqb m 2) Passthru
    (cond (eqb m 3) AllRemote
    (cond (eqb m 4) SomeLocal
    (cond (eqb m 5) Handed Branch))))

abbrev pub received_at : ℕ → Received
received_at m = cond (eqb m 1) got_end got_abort

abbrev pub terminator_at : ℕ → Terminator
terminator_at m = cond (eqb m 0) t_none (cond (eqb m 1) t_end (cond (eqb m 2) t_abort t_keep))

abbrev pub phase_at : ℕ → Connection → Received → Phase
phase_at m c r =
    cond (eqb m 0) Free
    (cond (eqb m 1) Seek
    (cond (eqb m 2) (Open c)
    (cond (eqb m 3) (Wait c)
    (cond (eqb m 4) (Done c r)
    (cond (eqb m 5) (Last c r)
    (cond (eqb m 6) (Aborted c) (FinAbort c r)))))))

-- the number of what a net-input's state received; 0 where it received nothing
abbrev pub received_of : Phase → ℕ
received_of Free = 0
received_of Seek = 0
received_of (Open c) = 0
received_of (Wait c) = 0
received_of (Done c r) = received_number r
received_of (Last c r) = received_number r
received_of (Aborted c) = 0
received_of (FinAbort c r) = received_number r

-- a bit of a word; d is the power of two that it counts for
abbrev pub flag : ℕ → ℕ → Bool
flag w d = eqb (w / d % 2) 1

-- ---- a net-input

unfoldable pub input_from : ℕ → ℕ → Input
input_from X w =
    record {
      set = X;
      phase = phase_at (w % 8) (connection_at (w / 8 % 8)) (received_at (w / 64 % 4));
      outputs = flag w 256 ∷ flag w 512 ∷ flag w 1024 ∷ flag w 2048 ∷ flag w 4096 ∷ flag w 8192 ∷ [];
      packet = w / 65536 % 256;
      tries = w / 16777216 % 256;
    }

abbrev pub marks_word : List Bool → ℕ
marks_word bs =
    256 * count (mark bs 0) + 512 * count (mark bs 1) + 1024 * count (mark bs 2) + 2048 * count (mark bs 3) + 4096 * count (mark bs 4)
    + 8192 * count (mark bs 5)

unfoldable pub input_word : Input → ℕ
input_word y =
    state_number y.phase + 8 * connection_of y.phase + 64 * received_of y.phase + marks_word y.outputs
    + 65536 * y.packet + 16777216 * y.tries

-- ---- a net-output

unfoldable pub output_from : ℕ → ℕ → Output
output_from X w =
    record {
      set = X;
      terminator = terminator_at (w / 4 % 4);
      packet = w / 65536 % 256;
      input = w / 256 % 256;
      used = flag w 1;
      head = flag w 2;
      closing = flag w 16;
    }

unfoldable pub output_word : Output → ℕ
output_word o =
    count o.used + 2 * count o.head + 4 * terminator_number o.terminator + 16 * count o.closing + 256 * o.input
    + 65536 * o.packet

-- ---- an entry of the out-queue, of an in-queue

unfoldable pub out_entry_from : ℕ → ℕ → OutEntry
out_entry_from X w = record { set = X; packet = w / 256 % 256; started = flag w 1 }

unfoldable pub out_entry_word : OutEntry → ℕ
out_entry_word u = count u.started + 256 * u.packet

unfoldable pub in_entry_from : ℕ → ℕ → InEntry
in_entry_from X w = record { set = X; terminator = terminator_at (w % 4); packet = w / 256 % 256 }

unfoldable pub in_entry_word : InEntry → ℕ
in_entry_word a = terminator_number a.terminator + 256 * a.packet

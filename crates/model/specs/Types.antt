-- The declared types under one roof, each variant under a name of its own; what an empty place holds; reads and writes of places.
-- A list read beyond its end gives the language's own default, whose arrays are empty: input_d, in_queue_d, site_d, send_d.
--
-- The letters of all definitions in this folder:
--   n  a network           S, T, D  its sites, tries and depth   R  a stored run            d  a draw's number
--   st a state             xs  the sites of a state              x  one site                k  the counter
--   s  the own site        t   another site, or a target         v  a draw's value          w  an answer, or what an event leaves
--   y  a net-input         i   its number, 0 to 4                ph a phase                 bs marks, one an output
--   o  a net-output        j   its number, 0 to 5 (a port: 1 to 4; the split output: 5)     os a site's net-outputs
--   oq an out-queue        u   an entry of it                    iq an in-queue             a  an entry of it
--   q  a place's packet    p   a packet that is asked for        X, Y  sets of sites        b  a channel's number
--   c  a connection        r   what was received                 h  a terminator            f  a refusal's number
--   m  a place in a list   l   a list                            g  how far a run has come  B  a set of outputs in the way
--   e, es  events, and what stands for one: a stored send, a service
use Rattle.std.specs.Prelude.{ℕ, ◌+◌, ◌-◌, ◌*◌, List, [], ◌∷◌, ◌++◌, Bool, true, false, not, ◌&&◌, ◌||◌, get_or, set, drop, replicate, eqb}
use Rattle.base.specs.Sizes.{sites_most, input_count, output_count, split_port, in_queue_count, queue_room}
use Rattle.types.specs.Phases.{receive, is_none}
pub use Rattle.types.specs.declared.Connection.TheVariants.{the_data as Connection, Unicast, Passthru, AllRemote, SomeLocal, Handed, Branch}
pub use Rattle.types.specs.declared.Received.TheVariants.{the_data as Received, End as got_end, Abort as got_abort}
pub use Rattle.types.specs.declared.Terminator.TheVariants.{the_data as Terminator, None as t_none, End as t_end}
pub use Rattle.types.specs.declared.Terminator.TheVariants.{Abort as t_abort, KeepLocal as t_keep}
pub use Rattle.types.specs.declared.Phase.TheVariants.{the_data as Phase, Free, Seek, Open, Wait, Done, Last}
pub use Rattle.types.specs.declared.Phase.TheVariants.{Abort as Aborted, FinAbort}
pub use Rattle.types.specs.declared.Input.{Input}
pub use Rattle.types.specs.declared.Output.{Output}
pub use Rattle.types.specs.declared.OutEntry.{OutEntry}
pub use Rattle.types.specs.declared.InEntry.{InEntry}
pub use Rattle.types.specs.declared.OutQueue.{OutQueue}
pub use Rattle.types.specs.declared.InQueue.{InQueue}
pub use Rattle.types.specs.declared.Site.{Site}
pub use Rattle.types.specs.declared.State.{State}
pub use Rattle.types.specs.declared.Network.{Network}
pub use Rattle.types.specs.declared.StoredSend.{StoredSend}
pub use Rattle.types.specs.declared.Run.{Run}
pub use Rattle.types.specs.declared.Sent.TheVariants.{the_data as Sent, Accepted, Refused as SendRefused}
pub use Rattle.types.specs.declared.Ran.TheVariants.{the_data as Ran, Nothing, Changed, Serviced, Refused as RunRefused}
pub use Rattle.types.specs.declared.AfterSend.{AfterSend}
pub use Rattle.types.specs.declared.AfterRun.{AfterRun}
pub use Rattle.types.specs.declared.Counts.{Counts}

-- "State, empty at the start"; "Freeing a place sets its fields to zero."
abbrev pub no_marks : List Bool
no_marks = replicate output_count false

abbrev pub no_input : Input
no_input = record { set = 0; phase = Free; outputs = no_marks; packet = 0; tries = 0 }

abbrev pub no_output : Output
no_output = record { set = 0; terminator = t_none; packet = 0; input = 0; used = false; head = false; closing = false }

abbrev pub no_out_entry : OutEntry
no_out_entry = record { set = 0; packet = 0; started = false }

abbrev pub no_in_entry : InEntry
no_in_entry = record { set = 0; terminator = t_none; packet = 0 }

abbrev pub no_in_queue : InQueue
no_in_queue = record { entries = replicate queue_room no_in_entry; count = 0 }

abbrev pub no_site : Site
no_site =
    record {
      inputs = replicate input_count no_input;
      outputs = replicate output_count no_output;
      outgoing = record { entries = replicate queue_room no_out_entry; count = 0 };
      incoming = replicate in_queue_count no_in_queue;
    }

abbrev pub no_state : State
no_state = record { sites = replicate sites_most no_site; counter = 0 }

-- what a read beyond an array gives
abbrev pub input_d : Input
input_d = record { set = 0; phase = Free; outputs = []; packet = 0; tries = 0 }

abbrev pub in_queue_d : InQueue
in_queue_d = record { entries = []; count = 0 }

abbrev pub site_d : Site
site_d = record { inputs = []; outputs = []; outgoing = record { entries = []; count = 0 }; incoming = [] }

abbrev pub send_d : StoredSend
send_d = record { set = 0; draw = 0; site = 0 }

-- reads
abbrev pub site_at : List Site → ℕ → Site
site_at xs s = get_or xs s site_d

abbrev pub in_at : Site → ℕ → Input
in_at x i = get_or x.inputs i input_d

abbrev pub out_of : List Output → ℕ → Output
out_of os j = get_or os j no_output

abbrev pub out_at : Site → ℕ → Output
out_at x j = out_of x.outputs j

abbrev pub mark : List Bool → ℕ → Bool
mark bs j = get_or bs j false

abbrev pub out_entry : OutQueue → ℕ → OutEntry
out_entry oq m = get_or oq.entries m no_out_entry

-- in-queue m of a site: 0 is output 0's, 1 the split output's
abbrev pub queue_at : Site → ℕ → InQueue
queue_at x m = get_or x.incoming m in_queue_d

abbrev pub in_entry : InQueue → ℕ → InEntry
in_entry iq m = get_or iq.entries m no_in_entry

abbrev pub send_at : Run → ℕ → StoredSend
send_at R m = get_or R.sends m send_d

-- L10: "A split output and an in-queue for it .. join each site": the output that fills in-queue m, 0 or the split output's number;
-- whether an output is one of these two, which have an in-queue where outputs 1 to 4 have a channel
abbrev pub queue_port : ℕ → ℕ
queue_port m = split_port * m

abbrev pub is_local : ℕ → Bool
is_local j = eqb j 0 || eqb j split_port

-- What an output is. It has something to pass on: it is in use and not closing (L6: "owes nothing, serves nobody", "connected to no
-- input"); its terminator is still to come: it has something to pass on and holds none yet
abbrev pub carries : Output → Bool
carries o = o.used && not o.closing

abbrev pub awaits : Output → Bool
awaits o = carries o && is_none o.terminator

-- a place with a field changed
abbrev pub in_phase : Input → Phase → Input
in_phase y ph = record { set = y.set; phase = ph; outputs = y.outputs; packet = y.packet; tries = y.tries }

-- "Delivery to an input: open to done, abort to fin-abort."
abbrev pub received : Received → Input → Input
received r y = in_phase y (receive r y.phase)

abbrev pub out_term : Output → Terminator → Output
out_term o h =
    record { set = o.set; terminator = h; packet = o.packet; input = o.input; used = o.used; head = o.head; closing = o.closing }

abbrev pub out_head : Output → Output
out_head o =
    record {
      set = o.set;
      terminator = o.terminator;
      packet = o.packet;
      input = o.input;
      used = o.used;
      head = true;
      closing = o.closing;
    }

-- L6: "after delivery the output is closing, holds no terminator"; in use, its head taken, its packet, set and feeder as they were
abbrev pub out_closing : Output → Output
out_closing o =
    record { set = o.set; terminator = t_none; packet = o.packet; input = o.input; used = true; head = true; closing = true }

abbrev pub entry_started : OutEntry → OutEntry
entry_started u = record { set = u.set; packet = u.packet; started = true }

abbrev pub entry_term : InEntry → Terminator → InEntry
entry_term a h = record { set = a.set; terminator = h; packet = a.packet }

-- a site, and the sites, with a place changed
abbrev pub with_inputs : Site → List Input → Site
with_inputs x ys = record { inputs = ys; outputs = x.outputs; outgoing = x.outgoing; incoming = x.incoming }

abbrev pub with_outputs : Site → List Output → Site
with_outputs x os = record { inputs = x.inputs; outputs = os; outgoing = x.outgoing; incoming = x.incoming }

abbrev pub with_out_queue : Site → OutQueue → Site
with_out_queue x oq = record { inputs = x.inputs; outputs = x.outputs; outgoing = oq; incoming = x.incoming }

abbrev pub with_in_queues : Site → List InQueue → Site
with_in_queues x iqs = record { inputs = x.inputs; outputs = x.outputs; outgoing = x.outgoing; incoming = iqs }

abbrev pub set_in : Site → ℕ → Input → Site
set_in x i y = with_inputs x (set x.inputs i y)

abbrev pub set_out : Site → ℕ → Output → Site
set_out x j o = with_outputs x (set x.outputs j o)

abbrev pub set_queue : Site → ℕ → InQueue → Site
set_queue x m iq = with_in_queues x (set x.incoming m iq)

abbrev pub set_site : List Site → ℕ → Site → List Site
set_site xs s x = set xs s x

-- queues: an entry more at the back; the front away, what is behind it moved up, the freed room zero
abbrev pub push_out : OutQueue → OutEntry → OutQueue
push_out oq u = record { entries = set oq.entries oq.count u; count = oq.count + 1 }

abbrev pub pop_out : OutQueue → OutQueue
pop_out oq = record { entries = drop 1 oq.entries ++ (no_out_entry ∷ []); count = oq.count - 1 }

abbrev pub push_in : InQueue → InEntry → InQueue
push_in iq a = record { entries = set iq.entries iq.count a; count = iq.count + 1 }

abbrev pub pop_in : InQueue → InQueue
pop_in iq = record { entries = drop 1 iq.entries ++ (no_in_entry ∷ []); count = iq.count - 1 }

-- Document 01: the rules of a net-output, the out-queue, the operator and the timeout.
use Rattle.std.specs.Prelude.{ℕ, ◌-◌, List, Bool, false, cond, ◌&&◌, eqb, ltb, set}
use Rattle.sets.specs.Sets.{has, minus}
use Rattle.model.specs.Types.{Received, got_end, got_abort, Terminator, t_none, t_end, t_abort, t_keep}
use Rattle.model.specs.Types.{Phase, Free, Seek, Open, Wait, Done, Last, Aborted, FinAbort}
use Rattle.model.specs.Types.{Input, Output, OutEntry, InEntry, OutQueue, InQueue, no_marks, no_output, out_of, mark, out_entry, in_entry}
use Rattle.model.specs.Types.{awaits, out_head, out_closing, entry_started, entry_term, push_out, pop_out, push_in, pop_in}
use Rattle.types.specs.Phases.{is_free, listening, splits, is_none}
use Rattle.model.specs.Types.{received}
use Rattle.draws.specs.Draws.{restricted}
use Rattle.model.specs.Network.{holds}
use Rattle.model.specs.NetInput.{Turn, Stay, To, give}

-- an input that "goes to seek with no tries"
abbrev pub seeking : ℕ → ℕ → Input
seeking q X = record { set = X; phase = Seek; outputs = no_marks; packet = q; tries = 0 }

-- the in-queue's last entry, and whether there is one that lacks a terminator
abbrev pub last_of : InQueue → InEntry
last_of iq = in_entry iq (iq.count - 1)

abbrev pub last_lacks : InQueue → Bool
last_lacks iq = ltb 0 iq.count && is_none (last_of iq).terminator

-- "its last entry gets it"
abbrev pub end_last : InQueue → Terminator → InQueue
end_last iq h = record { entries = set iq.entries (iq.count - 1) (entry_term (last_of iq) h); count = iq.count }

-- Net-output 0 and the split output (L10: "delivers and waits as output 0 does"), each with its in-queue. "In use, head not taken:
-- output 0 appends (packet, set, no terminator) to the in-queue if it has room"; "Head taken with a terminator: if ready, deliver it
-- and become empty"; "if the queue is empty or that entry has one already, nothing changes."
abbrev pub head_in : ℕ → Output → InQueue → Turn Output InQueue
head_in D o iq =
    cond (ltb iq.count D)
    (To (out_head o) (push_in iq (record { set = o.set; terminator = t_none; packet = o.packet })))
    Stay

abbrev pub term_in : Output → InQueue → Turn Output InQueue
term_in o iq = cond (last_lacks iq) (To no_output (end_last iq o.terminator)) Stay

unfoldable pub local_output : ℕ → Output → InQueue → Turn Output InQueue
local_output D o iq = cond o.used (cond o.head (cond (is_none o.terminator) Stay (term_in o iq)) (head_in D o iq)) Stay

-- Net-outputs 1 to 4; there tells whether the output has a channel, y is the input at its end. "another passes it to its channel's
-- input if that is free, which goes to seek with no tries"; "Delivery to an input: open to done, abort to fin-abort."; without a
-- channel they "never move"
abbrev pub head_on : Bool → Output → Input → Turn Output Input
head_on there o y = cond (there && is_free y.phase) (To (out_head o) (seeking o.packet o.set)) Stay

-- what delivery leaves: "become empty", L6, edition 2: "after delivery the output is closing"
abbrev pub delivered : ℕ → Output → Output
delivered edition o = cond (holds edition) (out_closing o) no_output

abbrev pub term_on : ℕ → Bool → Output → Input → Received → Turn Output Input
term_on edition there o y r = cond (there && listening y.phase) (To (delivered edition o) (received r y)) Stay

unfoldable pub deliver : ℕ → Bool → Output → Input → Terminator → Turn Output Input
deliver edition there o y t_none = Stay
deliver edition there o y t_end = term_on edition there o y got_end
deliver edition there o y t_abort = term_on edition there o y got_abort
deliver edition there o y t_keep = Stay

-- L6, a closing output: "its next step empties it if that input is free", which stays as it is
abbrev pub give_up : Bool → Input → Turn Output Input
give_up there y = cond (there && is_free y.phase) (To no_output y) Stay

unfoldable pub channel_output : ℕ → Bool → Output → Input → Turn Output Input
channel_output edition there o y =
    cond o.used
    (cond o.head (cond o.closing (give_up there y) (deliver edition there o y o.terminator)) (head_on there o y))
    Stay

-- "Front not started: net-input 0, if free, takes it into seek. Started: if net-input 0 is open or abort, it receives end as above
-- and the entry leaves." y is net-input 0
abbrev pub start_front : OutQueue → OutQueue
start_front oq = record { entries = set oq.entries 0 (entry_started (out_entry oq 0)); count = oq.count }

unfoldable pub out_queue : OutQueue → Input → Turn OutQueue Input
out_queue oq y =
    cond (ltb 0 oq.count)
    (cond (out_entry oq 0).started
    (cond (listening y.phase) (To (pop_out oq) (received got_end y)) Stay)
    (cond (is_free y.phase) (To (start_front oq) (seeking (out_entry oq 0).packet (out_entry oq 0).set)) Stay))
    Stay

-- What the operator does: nothing, the queues changed, or the same and a service of packet q.
pub data Work : Type 0 where
  Rest : Work
  Cleared : InQueue → OutQueue → Work
  Service : InQueue → OutQueue → ℕ → Work

-- "the rest" of X, "under the same packet number", not started
abbrev pub requeued : ℕ → ℕ → ℕ → OutEntry
requeued s q X = record { set = minus s X; packet = q; started = false }

-- "service s if in X"
abbrev pub service_if : ℕ → ℕ → ℕ → InQueue → OutQueue → Work
service_if s q X iq oq = cond (has s X) (Service iq oq q) (Cleared iq oq)

-- "Front in-queue entry with a terminator, set X, site s", packet q; L10: of the split output's in-queue too, by "its operator"
unfoldable pub operate : ℕ → ℕ → InQueue → OutQueue → ℕ → ℕ → Terminator → Work
-- "No terminator: nothing."
operate D s iq oq q X t_none = Rest
-- "Abort: discard."
operate D s iq oq q X t_abort = Cleared (pop_in iq) oq
-- "Keep-local: service s if in X, then discard."
operate D s iq oq q X t_keep = service_if s q X (pop_in iq) oq
-- "End: service s if in X; the rest, if any, goes to the back of the out-queue under the same packet number, and if that is full
-- nothing at all happens."
operate D s iq oq q X t_end =
    cond (eqb (minus s X) 0) (service_if s q X (pop_in iq) oq)
    (cond (ltb oq.count D) (service_if s q X (pop_in iq) (push_out oq (requeued s q X))) Rest)

abbrev pub operator : ℕ → ℕ → InQueue → OutQueue → Work
operator D s iq oq =
    cond (ltb 0 iq.count)
    (operate D s iq oq (in_entry iq 0).packet (in_entry iq 0).set (in_entry iq 0).terminator)
    Rest

-- "its remote outputs get abort and are disconnected; it goes to abort from open or wait, to fin-abort from done or last"
abbrev pub remote : List Bool → List Bool
remote bs = set bs 0 false

abbrev pub cut_off : Input → List Output → Phase → Turn Input (List Output)
cut_off y os ph =
    To (record { set = y.set; phase = ph; outputs = set no_marks 0 (mark y.outputs 0); packet = y.packet; tries = y.tries })
    (give (λ j. t_abort) (remote y.outputs) os)

-- "the input feeding it is open, wait, done or last with connection 3 or 4"
unfoldable pub cut_at : Input → List Output → Phase → Turn Input (List Output)
cut_at y os Free = Stay
cut_at y os Seek = Stay
cut_at y os (Open c) = cond (splits c) (cut_off y os (Aborted c)) Stay
cut_at y os (Wait c) = cond (splits c) (cut_off y os (Aborted c)) Stay
cut_at y os (Done c r) = cond (splits c) (cut_off y os (FinAbort c r)) Stay
cut_at y os (Last c r) = cond (splits c) (cut_off y os (FinAbort c r)) Stay
cut_at y os (Aborted c) = Stay
cut_at y os (FinAbort c r) = Stay

-- "If the last in-queue entry lacks a terminator, output 0 is in use with head taken and no terminator, and the input feeding it
-- is .. Otherwise ignored." y is the input that feeds output 0
abbrev pub stalled : Output → Bool
stalled o = awaits o && o.head

-- L10, edition 3: "timeouts do nothing"
abbrev pub timeout : ℕ → InQueue → List Output → Input → Turn Input (List Output)
timeout edition iq os y = cond (restricted edition) Stay (cond (last_lacks iq && stalled (out_of os 0)) (cut_at y os y.phase) Stay)

-- Document 01, "In range means: ..", with L6's mark and L10's split output, clause by clause, and no more than they say. Tests are
-- joined without a branch, place by place.
-- What a type already says is no clause: packets, tries, feeders and the counter are bytes; a connection exists exactly in the
-- states 2 to 7, a received terminator exactly in 4, 5 and 7; arrays have their lengths.
use Rattle.std.specs.Prelude.{ℕ, suc, List, Bool, cond, not, ◌&&◌, ◌||◌, eqb, ltb, leb}
use Rattle.base.specs.Sizes.{sites_most, input_count, output_count, port_count, split_port, in_queue_count, queue_room}
use Rattle.base.specs.Bools.{implies, pick, alike}
use Rattle.base.specs.All.{all, any}
use Rattle.sets.specs.Sets.{targets}
use Rattle.model.specs.Types.{Phase, Input, Output, OutEntry, InEntry, OutQueue, InQueue, Site, State, Network}
use Rattle.model.specs.Types.{site_at, in_at, out_of, out_at, mark, out_entry, queue_at, in_entry, is_local, awaits}
use Rattle.draws.specs.Draws.{restricted}
use Rattle.model.specs.Network.{holds}
use Rattle.types.specs.Phases.{is_free, connected, splitting, branching, aborting, is_none, is_keep}

-- "sets non-empty and within S wherever a place is used, packets below the counter". S sites; k is the counter
abbrev pub tag_ok : ℕ → ℕ → ℕ → ℕ → Bool
tag_ok S k q X = ltb q k && targets S X

abbrev pub any_mark : List Bool → Bool
any_mark bs = any (mark bs) output_count

abbrev pub any_remote : List Bool → Bool
any_remote bs = any (λ j. mark bs (suc j)) port_count

-- "fields of an empty place .. are zero"
abbrev pub zero_input : Input → Bool
zero_input y = is_free y.phase && eqb y.packet 0 && eqb y.set 0 && not (any_mark y.outputs) && eqb y.tries 0

abbrev pub zero_output : Output → Bool
zero_output o =
    not o.used
    && eqb o.packet 0
    && eqb o.set 0
    && eqb o.input 0
    && not o.head
    && is_none o.terminator
    && not o.closing

abbrev pub zero_out_entry : OutEntry → Bool
zero_out_entry u = eqb u.packet 0 && eqb u.set 0 && not u.started

abbrev pub zero_in_entry : InEntry → Bool
zero_in_entry a = eqb a.packet 0 && eqb a.set 0 && is_none a.terminator

abbrev pub zero_in_queue : InQueue → Bool
zero_in_queue iq = eqb iq.count 0 && all (λ m. zero_in_entry (in_entry iq m)) queue_room

-- "each connected output in use, fed by that input and without a terminator"; L6: one that is closing is "connected to no input"
abbrev pub fed_by : ℕ → Output → Bool
fed_by i o = awaits o && eqb o.input i

-- L10: connection 6 "is in range here only", in edition 3, "and 3 and 4 are not"
abbrev pub connection_in : ℕ → Phase → Bool
connection_in edition ph = pick (restricted edition) (not (splitting ph)) (not (branching ph))

-- net-input i, with the site's outputs os; T limits tries
abbrev pub input_ok : ℕ → ℕ → ℕ → ℕ → List Output → ℕ → Input → Bool
input_ok edition S T k os i y =
    leb y.tries T  -- "tries up to T"
    && pick (is_free y.phase) (zero_input y) (tag_ok S k y.packet y.set)
    && alike (any_mark y.outputs) (connected y.phase)  -- "its connected outputs likewise"
    && all (λ j. implies (mark y.outputs j) (fed_by i (out_of os j))) output_count
    && implies (splitting y.phase) (mark y.outputs 0)  -- "output 0 among them for connections 3 and 4"
    -- "and alone, with one of those two, in abort and fin-abort"
    && implies (aborting y.phase) (splitting y.phase && not (any_remote y.outputs))
    -- L10: connection 6 "exactly where the split output is connected"
    && alike (mark y.outputs split_port) (branching y.phase)
    && connection_in edition y.phase

-- L6: "The state gains this mark, in range only for outputs 1 to 4 that are in use, head taken, without a terminator", in an edition
-- that holds its channels: output j, in use
abbrev pub closing_ok : ℕ → ℕ → Output → Bool
closing_ok edition j o = holds edition && not (is_local j) && o.head && is_none o.terminator

-- net-output j: "input that feeds it", 0 to 4; "keep-local only at output 0 and in in-queues"; L10: the split output joins each site
-- in edition 3, and is empty in another
abbrev pub output_ok : ℕ → ℕ → ℕ → ℕ → Output → Bool
output_ok edition S k j o =
    pick o.used
    (tag_ok S k o.packet o.set
    && ltb o.input input_count
    && implies (is_keep o.terminator) (eqb j 0)
    && implies o.closing (closing_ok edition j o)
    && implies (eqb j split_port) (restricted edition))
    (zero_output o)

-- entry m of a queue of which so many places are filled: "only the front may be started"; "room beyond a queue's count" is zero
abbrev pub out_entry_ok : ℕ → ℕ → ℕ → ℕ → OutEntry → Bool
out_entry_ok S k filled m u = pick (ltb m filled) (tag_ok S k u.packet u.set && implies u.started (eqb m 0)) (zero_out_entry u)

abbrev pub in_entry_ok : ℕ → ℕ → ℕ → ℕ → InEntry → Bool
in_entry_ok S k filled m a = pick (ltb m filled) (tag_ok S k a.packet a.set) (zero_in_entry a)

-- "queue counts at most D"
abbrev pub out_queue_ok : ℕ → ℕ → ℕ → OutQueue → Bool
out_queue_ok S D k oq = leb oq.count D && all (λ m. out_entry_ok S k oq.count m (out_entry oq m)) queue_room

abbrev pub in_queue_ok : ℕ → ℕ → ℕ → InQueue → Bool
in_queue_ok S D k iq = leb iq.count D && all (λ m. in_entry_ok S k iq.count m (in_entry iq m)) queue_room

-- L10: "an in-queue for it, depth D": of in-queue m, the split output's having no room in another edition than 3
abbrev pub depth_of : ℕ → ℕ → ℕ → ℕ
depth_of edition D m = cond (eqb m 0 || restricted edition) D 0

abbrev pub site_ok : ℕ → ℕ → ℕ → ℕ → ℕ → Site → Bool
site_ok edition S T D k x =
    all (λ i. input_ok edition S T k x.outputs i (in_at x i)) input_count
    && all (λ j. output_ok edition S k j (out_at x j)) output_count
    && out_queue_ok S D k x.outgoing
    && all (λ m. in_queue_ok S (depth_of edition D m) k (queue_at x m)) in_queue_count

-- "room .. beyond S sites" is zero
abbrev pub zero_site : Site → Bool
zero_site x =
    all (λ i. zero_input (in_at x i)) input_count
    && all (λ j. zero_output (out_at x j)) output_count
    && (eqb x.outgoing.count 0 && all (λ m. zero_out_entry (out_entry x.outgoing m)) queue_room)
    && all (λ m. zero_in_queue (queue_at x m)) in_queue_count

abbrev pub place_ok : ℕ → ℕ → ℕ → ℕ → ℕ → ℕ → Site → Bool
place_ok edition S T D k s x = pick (ltb s S) (site_ok edition S T D k x) (zero_site x)

unfoldable pub in_range : Network → State → Bool
in_range n st =
    all (λ s. place_ok n.edition n.sites n.tries n.depth st.counter s (site_at st.sites s)) sites_most

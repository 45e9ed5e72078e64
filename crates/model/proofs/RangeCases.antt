-- A table of states typed from document 01, "In range means: ..": one in range, and changes of it. Each clause has a state
-- which it alone refuses; edges, and states that no run reaches, are in range. One theorem.
use Prim.Native.Nat.{ℕ}
use mathlib.Core.Path.{◌≡◌, refl}
use mathlib.Core.Bool.{Bool, true, false}
use mathlib.Core.List.{List, [], ◌∷◌, map}
use lib.ListN.{set}
use Rattle.base.specs.Sizes.{no_channel}
use Rattle.base.specs.All.{all, any}
use Rattle.model.specs.Types.{Unicast, Passthru, AllRemote, SomeLocal, Handed, got_end, got_abort}
use Rattle.model.specs.Types.{Terminator, t_none, t_end, t_abort, t_keep}
use Rattle.model.specs.Types.{Phase, Free, Seek, Open, Wait, Done, Last, Aborted, FinAbort}
use Rattle.model.specs.Types.{Input, Output, OutEntry, InEntry, Site, State, Network, no_marks, no_input, no_output, no_state}
use Rattle.model.specs.Types.{site_at, queue_at, with_out_queue, set_in, set_out, set_queue, set_site}
use Rattle.model.specs.Range.{in_range}
use Rattle.model.proofs.Made.{net}

-- two sites joined on ports 1 both ways: S = 2, T = 3, D = 2
abbrev two : Network
two = net 2 3 2 (4 ∷ no_channel ∷ no_channel ∷ no_channel ∷ 0 ∷ []) (0 ∷ 4096 ∷ 4096 ∷ 0 ∷ [])

-- a net-input: state, packet, set, connected outputs, tries; net-outputs: packet, set, input, head, terminator; entries
inp : Phase → ℕ → ℕ → List Bool → ℕ → Input
inp ph q z bs t = record { set = z; phase = ph; outputs = bs; packet = q; tries = t }

out : ℕ → ℕ → ℕ → Bool → Terminator → Output
out q z i h t = record { set = z; terminator = t; packet = q; input = i; used = true; head = h; closing = false }

empty : ℕ → ℕ → ℕ → Bool → Terminator → Output
empty q z i h t = record { set = z; terminator = t; packet = q; input = i; used = false; head = h; closing = false }

leaving : ℕ → ℕ → Bool → OutEntry
leaving q z s = record { set = z; packet = q; started = s }

arrived : ℕ → ℕ → Terminator → InEntry
arrived q z t = record { set = z; terminator = t; packet = q }

-- one place of a site changed; a queue's entry m, with the queue's count
input : ℕ → Input → Site → Site
input i y x = set_in x i y

output : ℕ → Output → Site → Site
output j o x = set_out x j o

outgoing : ℕ → OutEntry → ℕ → Site → Site
outgoing m d c x = with_out_queue x (record { entries = set x.outgoing.entries m d; count = c })

incoming : ℕ → InEntry → ℕ → Site → Site
incoming m a c x = set_queue x 0 (record { entries = set (queue_at x 0).entries m a; count = c })

at : ℕ → (Site → Site) → State → State
at s f st = record { sites = set_site st.sites s (f (site_at st.sites s)); counter = st.counter }

counted : ℕ → State → State
counted k st = record { sites = st.sites; counter = k }

none : List Bool
none = no_marks

both : List Bool
both = true ∷ true ∷ false ∷ false ∷ false ∷ []

zeroth : List Bool
zeroth = true ∷ false ∷ false ∷ false ∷ false ∷ []

first : List Bool
first = false ∷ true ∷ false ∷ false ∷ false ∷ []

fourth : List Bool
fourth = false ∷ false ∷ false ∷ false ∷ true ∷ []

ends : List Bool
ends = true ∷ false ∷ false ∷ false ∷ true ∷ []

-- packet 0 to {0, 1}: input 0 of site 0 open, split on outputs 0 and 1, both heads taken; input 1 of site 1 seeks
pub split : State
split =
    at 1 (input 1 (inp Seek 0 2 none 0))
    (at 0 (incoming 0 (arrived 0 3 t_none) 1)
    (at 0 (outgoing 0 (leaving 0 3 true) 1)
    (at 0 (output 1 (out 0 2 0 true t_none))
    (at 0 (output 0 (out 0 3 0 true t_none)) (at 0 (input 0 (inp (Open SomeLocal) 0 3 both 0)) (counted 1 no_state))))))

-- the same with input 0 connected to output 0 alone, and to output 1 alone
left : State → State
left st = at 0 (input 0 (inp (Open SomeLocal) 0 3 zeroth 0)) st

right : State → State
right st = at 0 (input 0 (inp (Open Unicast) 0 3 first 0)) st

pub cases : List ((State → State) × Bool)
cases =
    -- in range: as it is; the empty state, whatever the counter; "tries up to T"; packets up to 254
    (λ st. st, true)
    ∷ (λ st. counted 255 no_state, true)
    ∷ (at 0 (input 0 (inp (Open SomeLocal) 0 3 both 3)), true)
    ∷ (λ st. counted 255 (at 0 (input 0 (inp (Open SomeLocal) 254 3 both 0)) st), true)
    -- a started front though input 0 is free; unicast on two outputs; handed on a remote one; wait, done and last
    ∷ (at 0 (input 0 no_input), true)
    ∷ (at 0 (input 0 (inp (Open Unicast) 0 1 both 0)), true)
    ∷ (at 0 (input 0 (inp (Open Passthru) 0 3 first 0)), true)
    ∷ (at 0 (input 0 (inp (Open Handed) 0 3 first 0)), true)
    ∷ (λ st. at 0 (output 4 (out 0 1 0 false t_none)) (at 0 (input 0 (inp (Open Unicast) 0 3 fourth 0)) st), true)
    ∷ (at 0 (input 0 (inp (Wait SomeLocal) 0 3 both 0)), true)
    ∷ (at 0 (input 0 (inp (Done AllRemote got_end) 0 3 both 0)), true)
    ∷ (at 0 (input 0 (inp (Last SomeLocal got_abort) 0 3 both 0)), true)
    ∷ (at 0 (input 0 (inp (Aborted SomeLocal) 0 3 zeroth 0)), true)
    ∷ (at 0 (input 0 (inp (FinAbort AllRemote got_end) 0 3 zeroth 0)), true)
    -- outputs that no input is connected to; keep-local at output 0 and in the in-queue; queues of D; an early entry
    -- without a terminator
    ∷ (λ st. at 0 (output 1 (out 0 2 4 false t_end)) (left st), true)
    ∷ (λ st. at 0 (output 1 (out 0 2 0 true t_abort)) (left st), true)
    ∷ (λ st. at 0 (output 0 (out 0 3 0 true t_keep)) (right st), true)
    ∷ (at 0 (incoming 0 (arrived 0 3 t_keep) 1), true)
    ∷ (at 0 (incoming 1 (arrived 0 3 t_end) 2), true)
    ∷ (at 0 (outgoing 1 (leaving 0 1 false) 2), true)
    -- an input: "tries up to T"; "packets below the counter"; "sets non-empty and within S"
    ∷ (at 0 (input 0 (inp (Open SomeLocal) 0 3 both 4)), false)
    ∷ (at 0 (input 0 (inp (Open SomeLocal) 1 3 both 0)), false)
    ∷ (at 0 (input 0 (inp (Open SomeLocal) 0 0 both 0)), false)
    ∷ (at 0 (input 0 (inp (Open SomeLocal) 0 4 both 0)), false)
    ∷ (at 1 (input 1 (inp Seek 1 2 none 0)), false)
    -- "fields of an empty place .. are zero": packet, set, tries of a free input
    ∷ (at 0 (input 2 (inp Free 1 0 none 0)), false)
    ∷ (at 0 (input 2 (inp Free 0 1 none 0)), false)
    ∷ (at 0 (input 2 (inp Free 0 0 none 1)), false)
    ∷ (at 0 (input 4 (inp Free 1 0 none 0)), false)
    -- "its connected outputs likewise": some in free or seek, none in another state
    ∷ (at 0 (input 0 (inp Free 0 0 zeroth 0)), false)
    ∷ (at 0 (input 0 (inp Seek 0 3 both 0)), false)
    ∷ (at 0 (input 0 (inp (Open Unicast) 0 3 none 0)), false)
    ∷ (at 0 (input 0 (inp (Wait Passthru) 0 3 none 0)), false)
    ∷ (at 0 (input 0 (inp (Done Handed got_end) 0 3 none 0)), false)
    ∷ (at 0 (input 0 (inp (Last Unicast got_end) 0 3 none 0)), false)
    -- "each connected output in use, fed by that input and without a terminator"
    ∷ (at 0 (output 1 no_output), false)
    ∷ (at 0 (output 1 (out 0 2 3 true t_none)), false)
    ∷ (at 0 (output 1 (out 0 2 0 true t_end)), false)
    ∷ (at 0 (output 1 (out 0 2 0 true t_abort)), false)
    ∷ (at 0 (output 0 (out 0 3 0 true t_keep)), false)
    ∷ (at 0 (input 0 (inp (Open SomeLocal) 0 3 ends 0)), false)
    -- "output 0 among them for connections 3 and 4"
    ∷ (at 0 (input 0 (inp (Open AllRemote) 0 3 first 0)), false)
    ∷ (at 0 (input 0 (inp (Wait SomeLocal) 0 3 first 0)), false)
    ∷ (at 0 (input 0 (inp (Done AllRemote got_end) 0 3 first 0)), false)
    ∷ (at 0 (input 0 (inp (Last SomeLocal got_end) 0 3 first 0)), false)
    -- "and alone, with one of those two, in abort and fin-abort"
    ∷ (at 0 (input 0 (inp (Aborted SomeLocal) 0 3 both 0)), false)
    ∷ (λ st. at 0 (output 4 (out 0 1 0 false t_none)) (at 0 (input 0 (inp (Aborted SomeLocal) 0 3 ends 0)) st), false)
    ∷ (at 0 (input 0 (inp (FinAbort AllRemote got_end) 0 3 both 0)), false)
    ∷ (at 0 (input 0 (inp (Aborted Handed) 0 3 zeroth 0)), false)
    ∷ (at 0 (input 0 (inp (FinAbort Unicast got_end) 0 3 zeroth 0)), false)
    -- an output in use: packet, set, the input 0 to 4, "keep-local only at output 0"
    ∷ (λ st. at 0 (output 1 (out 1 2 0 true t_none)) (left st), false)
    ∷ (λ st. at 0 (output 1 (out 0 0 0 true t_none)) (left st), false)
    ∷ (λ st. at 0 (output 1 (out 0 4 0 true t_none)) (left st), false)
    ∷ (λ st. at 0 (output 1 (out 0 2 5 true t_none)) (left st), false)
    ∷ (λ st. at 0 (output 1 (out 0 2 0 true t_keep)) (left st), false)
    -- an empty output: packet, set, input, head, terminator
    ∷ (at 0 (output 3 (empty 1 0 0 false t_none)), false)
    ∷ (at 0 (output 3 (empty 0 1 0 false t_none)), false)
    ∷ (at 0 (output 3 (empty 0 0 1 false t_none)), false)
    ∷ (at 0 (output 3 (empty 0 0 0 true t_none)), false)
    ∷ (at 0 (output 3 (empty 0 0 0 false t_abort)), false)
    ∷ (at 0 (output 4 (empty 1 0 0 false t_none)), false)
    -- the out-queue: packet, set, "only the front may be started", the room beyond its count, at most D
    ∷ (at 0 (outgoing 1 (leaving 1 1 false) 2), false)
    ∷ (at 0 (outgoing 1 (leaving 0 0 false) 2), false)
    ∷ (at 0 (outgoing 1 (leaving 0 4 false) 2), false)
    ∷ (at 0 (outgoing 1 (leaving 0 1 true) 2), false)
    ∷ (at 0 (outgoing 1 (leaving 1 0 false) 1), false)
    ∷ (at 0 (outgoing 7 (leaving 0 1 false) 1), false)
    ∷ (at 1 (outgoing 0 (leaving 0 0 true) 0), false)
    ∷ (λ st. at 0 (outgoing 2 (leaving 0 1 false) 3) (at 0 (outgoing 1 (leaving 0 1 false) 2) st), false)
    -- the in-queue likewise
    ∷ (at 0 (incoming 0 (arrived 1 3 t_none) 1), false)
    ∷ (at 0 (incoming 0 (arrived 0 0 t_none) 1), false)
    ∷ (at 0 (incoming 0 (arrived 0 4 t_none) 1), false)
    ∷ (at 0 (incoming 1 (arrived 1 0 t_none) 1), false)
    ∷ (at 0 (incoming 7 (arrived 0 3 t_none) 1), false)
    ∷ (at 0 (incoming 5 (arrived 0 0 t_end) 1), false)
    ∷ (λ st. at 0 (incoming 2 (arrived 0 3 t_none) 3) (at 0 (incoming 1 (arrived 0 3 t_none) 2) st), false)
    -- "room .. beyond S sites": the last site of the network is none, the next and the last are
    ∷ (at 1 (input 0 (inp Seek 0 1 none 0)), true)
    ∷ (at 2 (input 0 (inp Seek 0 1 none 0)), false)
    ∷ (at 2 (input 0 (inp Seek 0 0 none 0)), false)
    ∷ (at 2 (input 0 (inp Free 1 0 none 0)), false)
    ∷ (at 2 (input 4 (inp Free 0 1 none 0)), false)
    ∷ (at 2 (input 0 (inp Free 0 0 zeroth 0)), false)
    ∷ (at 2 (input 0 (inp Free 0 0 none 1)), false)
    ∷ (at 2 (output 0 (out 0 0 0 false t_none)), false)
    ∷ (at 2 (output 4 (empty 1 0 0 false t_none)), false)
    ∷ (at 2 (output 0 (empty 0 1 0 false t_none)), false)
    ∷ (at 15 (output 0 (empty 0 0 1 false t_none)), false)
    ∷ (at 2 (output 0 (empty 0 0 0 true t_none)), false)
    ∷ (at 2 (output 0 (empty 0 0 0 false t_end)), false)
    ∷ (at 2 (outgoing 0 (leaving 0 0 false) 1), false)
    ∷ (at 2 (outgoing 7 (leaving 0 1 false) 0), false)
    ∷ (at 2 (incoming 0 (arrived 0 0 t_none) 1), false)
    ∷ (at 15 (incoming 7 (arrived 0 1 t_none) 0), false)
    ∷ []

pub in_range_lem : map (λ c. in_range two (c.0 split)) cases ≡ map (λ c. c.1) cases
unfolding cases split left right counted at input output outgoing incoming inp out empty leaving arrived none both
    zeroth first fourth ends in_range all any
in_range_lem = refl

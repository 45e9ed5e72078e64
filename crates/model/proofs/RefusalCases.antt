-- A table of refusals typed from document 01: each clause on networks and events, and the order "single events 3, 6, 7,
-- 13, 9, 10, 12, 11" on events that later numbers would fit too. One theorem.
use Prim.Native.Nat.{ℕ, zero, suc, ◌+◌, ◌-◌}
use mathlib.Core.Path.{◌≡◌, refl}
use mathlib.Core.Bool.{false}
use mathlib.Core.List.{List, [], ◌∷◌, ◌++◌, map}
use lib.ListN.{replicate}
use Rattle.base.specs.Sizes.{no_channel}
use Rattle.base.specs.All.{all, any}
use Rattle.model.specs.Types.{State, Network, no_site, no_state, out_at, out_head, with_out_queue, set_out, set_site, push_out}
use Rattle.model.specs.Network.{network_refusal}
use Rattle.model.specs.Range.{in_range}
use Rattle.model.specs.Events.{Event, Send, Run, run_refusal, send_refusal}
use Rattle.model.proofs.Made.{net_with}

-- ---- networks of two sites

-- S, T, D, the channels, the routes from 0 to 0, 0 to 1, 1 to 0, 1 to 1; "Room beyond .. is not looked at"
net : ℕ → ℕ → ℕ → List ℕ → List ℕ → Network
net S T D cs rs = net_with 9 9 S T D cs rs

-- joined on all ports; on ports 1 to 3; on ports 1 and 2 from 0 to 1 and on port 1 back; on ports 2
four : List ℕ
four = 4 ∷ 5 ∷ 6 ∷ 7 ∷ 0 ∷ 1 ∷ 2 ∷ 3 ∷ []

three : List ℕ
three = 4 ∷ 5 ∷ 6 ∷ no_channel ∷ 0 ∷ 1 ∷ 2 ∷ no_channel ∷ []

less : List ℕ
less = 4 ∷ 5 ∷ no_channel ∷ no_channel ∷ 0 ∷ no_channel ∷ no_channel ∷ no_channel ∷ []

second : List ℕ
second = no_channel ∷ 5 ∷ no_channel ∷ no_channel ∷ no_channel ∷ 1 ∷ no_channel ∷ no_channel ∷ []

-- the route from 0 to 1 is r
routes : ℕ → List ℕ
routes r = 0 ∷ r ∷ 4096 ∷ 0 ∷ []

on : List ℕ → ℕ → Network
on cs r = net 2 3 1 cs (routes r)

-- a ring of sixteen: port 1 of each to input 1 of the next; each route port 1
channels_from : ℕ → ℕ → List ℕ
channels_from zero b = 0 ∷ no_channel ∷ no_channel ∷ no_channel ∷ []
channels_from (suc k) b = b ∷ no_channel ∷ no_channel ∷ no_channel ∷ channels_from k (b + 4)

rows_after : ℕ → List ℕ
rows_after zero = []
rows_after (suc k) = replicate 16 4096 ++ (0 ∷ rows_after k)

ring : ℕ → Network
ring S = net_with 0 0 S 255 8 (channels_from 15 4) (0 ∷ rows_after 15)

-- one site, its output 1 joined to its own input 1
one : Network
one = net_with 0 0 1 1 1 (0 ∷ no_channel ∷ no_channel ∷ no_channel ∷ []) []

-- ---- states

-- not in range: an empty output's head is taken
bad : State
bad = record { sites = set_site no_state.sites 0 (set_out no_site 0 (out_head (out_at no_site 0))); counter = 0 }

-- k packets accepted, the last waits at site 0
waits : ℕ → State
waits k =
    let q = push_out no_site.outgoing (record { set = 1; packet = k - 1; started = false }) in
    record { sites = set_site no_state.sites 0 (with_out_queue no_site q); counter = k }

pub refusal_of : Network → State → Event → ℕ
refusal_of n st (Send s X) = send_refusal n st s X
refusal_of n st (Run s code) = run_refusal n st s code

-- turned down: what no site, code or set would pass
no_send : Event
no_send = Send 99 0

pub refusals : List ((Network × State × Event) × ℕ)
refusals =
    -- none: "1 to 16" sites, "1 to 255" tries, depth "1 to 8"; routes of one to four ports; a channel to the own site
    ((one, no_state, Send 0 1), 0)
    ∷ ((ring 16, no_state, Send 15 65535), 0)
    ∷ ((on four 4096, no_state, Send 0 3), 0)
    ∷ ((on four 4660, no_state, Run 1 0), 0)
    ∷ ((on less 4608, no_state, Send 1 2), 0)
    ∷ ((on less 8448, no_state, Send 1 1), 0)
    ∷ ((on three 4656, waits 254, Send 1 1), 0)
    ∷ ((net 2 3 1 second (0 ∷ 8192 ∷ 8192 ∷ 0 ∷ []), no_state, Run 1 12), 0)
    -- 3 before 6: S, T, D
    ∷ ((net 17 3 1 (replicate 8 4) (routes 0), bad, no_send), 3)
    ∷ ((net 0 3 1 (replicate 8 4) (routes 0), bad, no_send), 3)
    ∷ ((net 2 0 1 (replicate 8 4) (routes 0), bad, no_send), 3)
    ∷ ((net 2 3 0 (replicate 8 4) (routes 0), bad, no_send), 3)
    ∷ ((net 2 3 9 (replicate 8 4) (routes 0), bad, Run 99 99), 3)
    ∷ ((ring 17, no_state, Send 0 1), 3)
    -- 6 before 7: "channel byte neither 255 nor below 4S, or an input fed twice"
    ∷ ((on (4 ∷ 5 ∷ 6 ∷ 7 ∷ 0 ∷ 1 ∷ 2 ∷ 8 ∷ []) 0, bad, no_send), 6)
    ∷ ((on (254 ∷ 5 ∷ 6 ∷ 7 ∷ 0 ∷ 1 ∷ 2 ∷ 3 ∷ []) 0, bad, Run 99 99), 6)
    ∷ ((on (4 ∷ 4 ∷ 6 ∷ 7 ∷ 0 ∷ 1 ∷ 2 ∷ 3 ∷ []) 0, bad, no_send), 6)
    ∷ ((on (4 ∷ 5 ∷ 6 ∷ 7 ∷ 0 ∷ 1 ∷ 2 ∷ 4 ∷ []) 0, bad, no_send), 6)
    -- 7 before 13: a port at least; "zeros only after the last port"
    ∷ ((on four 0, bad, no_send), 7)
    ∷ ((on four 256, bad, no_send), 7)
    ∷ ((on four 4128, bad, no_send), 7)
    ∷ ((on four 4611, bad, Run 99 99), 7)
    -- "different ports": any two of four
    ∷ ((on four 4352, bad, no_send), 7)
    ∷ ((on four 4624, bad, no_send), 7)
    ∷ ((on four 4657, bad, no_send), 7)
    ∷ ((on four 4640, bad, no_send), 7)
    ∷ ((on four 4658, bad, no_send), 7)
    ∷ ((on four 4659, bad, no_send), 7)
    -- "ports with channels": ports 1 to 4 at each place of the list; 3 and 4 without a channel
    ∷ ((on four 20480, bad, no_send), 7)
    ∷ ((on four 61440, bad, no_send), 7)
    ∷ ((on four 5376, bad, no_send), 7)
    ∷ ((on four 4688, bad, no_send), 7)
    ∷ ((on four 4661, bad, no_send), 7)
    ∷ ((on less 12288, bad, no_send), 7)
    ∷ ((on less 4864, bad, no_send), 7)
    ∷ ((on less 4656, bad, no_send), 7)
    ∷ ((on three 4660, bad, no_send), 7)
    -- "all zero from a site to itself"; from each site to each other one
    ∷ ((net 2 3 1 four (4096 ∷ 4096 ∷ 4096 ∷ 0 ∷ []), bad, no_send), 7)
    ∷ ((net 2 3 1 four (0 ∷ 4096 ∷ 4096 ∷ 1 ∷ []), bad, no_send), 7)
    ∷ ((net 2 3 1 four (0 ∷ 4096 ∷ 0 ∷ 0 ∷ []), bad, no_send), 7)
    -- 13 before 9
    ∷ ((on four 4096, bad, no_send), 13)
    ∷ ((on four 4096, bad, Run 99 99), 13)
    -- 9 before 10; "no such site or code"
    ∷ ((on four 4096, waits 255, Send 2 0), 9)
    ∷ ((on four 4096, waits 255, Run 2 0), 9)
    ∷ ((on four 4096, waits 255, Run 0 13), 9)
    -- 10 before 12: "set empty or outside S"
    ∷ ((on four 4096, waits 255, Send 0 0), 10)
    ∷ ((on four 4096, waits 255, Send 0 4), 10)
    -- 12 before 11: "255 packets already accepted"
    ∷ ((on four 4096, waits 255, Send 0 1), 12)
    ∷ ((on four 4096, waits 255, Send 1 1), 12)
    -- "out-queue full"
    ∷ ((on four 4096, waits 254, Send 0 1), 11)
    ∷ ((on four 4096, waits 1, Send 0 1), 11)
    ∷ []

pub refused_by_lem : map (λ c. refusal_of c.0.0 c.0.1 c.0.2) refusals ≡ map (λ c. c.1) refusals
unfolding refusals refusal_of net four three less second routes on channels_from rows_after ring one bad waits no_send
    run_refusal send_refusal network_refusal in_range all any
refused_by_lem = refl

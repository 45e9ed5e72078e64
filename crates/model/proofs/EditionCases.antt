-- Edition 2, typed from document 02, L6: what delivery leaves, what the next step does, which marks are in range, and a worked run
-- of two packets in both editions. Each row is what the definitions compute beside what the document says.
use Prim.Native.Nat.{ℕ}
use mathlib.Core.Path.{◌≡◌, refl}
use mathlib.Core.Bool.{Bool, true, false}
use mathlib.Core.List.{List, [], ◌∷◌, ◌++◌, map}
use lib.Count.{count_trailing_zeros}
use Rattle.base.specs.Sizes.{no_channel}
use Rattle.base.specs.All.{all, any}
use Rattle.base.specs.Over.{over}
use Rattle.base.specs.Sums.{sum}
use Rattle.sets.specs.Sets.{has, plus, minus, size_in, lowest}
use Rattle.types.specs.Numbers.{answer_of}
use Rattle.model.specs.Types.{Unicast, Passthru, AllRemote, SomeLocal, Handed, t_none, t_end, t_abort, Open, Aborted}
use Rattle.model.specs.Types.{Output, Site, Network, no_input, no_output, no_site, no_state, set_in, set_out, set_site}
use Rattle.model.specs.Network.{network_refusal}
use Rattle.model.specs.Router.{first_port, gather_from, gather, spread, or_else, route}
use Rattle.model.specs.NetInput.{hears, give, occupy, marks_of, seek, in_state}
use Rattle.model.specs.Places.{local_output, deliver, channel_output, out_queue, operate, cut_at}
use Rattle.model.specs.Range.{place_ok, in_range}
use Rattle.model.specs.Steps.{net_output, act, run, enqueue}
use Rattle.model.proofs.Made.{net_in}
use Rattle.model.proofs.Shown.{inp, out, shut, each, alone, first, second, split}
use Rattle.model.proofs.PlaceCases.{on_in, hearing, busy, deaf}
use Rattle.model.proofs.CodeCases.{places}

-- ---- net-outputs 1 to 4 in edition 2

pub held : List (List ℕ × List ℕ)
held =
    -- "after delivery the output is closing, holds no terminator": in use, head taken, packet, set and feeder as they were
    (on_in 2 true (out 6 3 1 true t_end) (inp (Open Unicast) first), 363110 ∷ 457121 ∷ 2 ∷ [])
    ∷ (on_in 2 true (out 6 3 1 true t_abort) (inp (Open Passthru) second), 363110 ∷ 457222 ∷ 4 ∷ [])
    ∷ (on_in 2 true (out 8 5 4 true t_end) (inp (Open AllRemote) split), 385410 ∷ 457321 ∷ 7 ∷ [])
    ∷ (on_in 2 true (out 6 3 1 true t_abort) (inp (Open Handed) alone), 363110 ∷ 457522 ∷ 1 ∷ [])
    ∷ (on_in 2 true (out 6 3 1 true t_end) (inp (Aborted SomeLocal) alone), 363110 ∷ 757421 ∷ 1 ∷ [])
    ∷ (on_in 2 true (out 6 3 1 true t_abort) (inp (Aborted AllRemote) alone), 363110 ∷ 757322 ∷ 1 ∷ [])
    -- "its next step empties it if that input is free", which stays free; else nothing changes
    ∷ (on_in 2 true (shut 6 3 1) no_input, 0 ∷ 0 ∷ 0 ∷ [])
    ∷ (each (on_in 2 true (shut 6 3 1)) (busy ++ hearing), [])
    -- "Outputs 1 to 4 without a channel .. never move", closing or not
    ∷ (each (on_in 2 false (shut 6 3 1)) (deaf ++ hearing), [])
    ∷ (each (on_in 2 false (out 6 3 1 true t_end)) (deaf ++ hearing), [])
    -- the rest as in edition 1: the head, no terminator, not ready, an empty output
    ∷ (on_in 2 true (out 6 3 1 false t_none) no_input, 163110 ∷ 163000 ∷ 0 ∷ [])
    ∷ (on_in 2 true (out 6 3 1 false t_abort) no_input, 163112 ∷ 163000 ∷ 0 ∷ [])
    ∷ (each (on_in 2 true (out 6 3 1 false t_none)) (busy ++ hearing), [])
    ∷ (each (on_in 2 true (out 6 3 1 true t_none)) (deaf ++ hearing), [])
    ∷ (each (on_in 2 true (out 6 3 1 true t_end)) deaf, [])
    ∷ (each (on_in 2 true no_output) (deaf ++ hearing), [])
    -- edition 1: "deliver it and become empty"
    ∷ (on_in 1 true (out 6 3 1 true t_end) (inp (Open Unicast) first), 0 ∷ 457121 ∷ 2 ∷ [])
    ∷ (on_in 1 true (out 8 5 4 true t_abort) (inp (Aborted AllRemote) alone), 0 ∷ 757322 ∷ 1 ∷ [])
    ∷ []

pub held_read : map (λ row. row.0) held ≡ map (λ row. row.1) held
unfolding held channel_output deliver
held_read = refl

-- ---- the range of the mark: S = 2, T = 3, D = 2, 9 packets accepted; a site with this output j, in edition 1 and in edition 2

abbrev sited : ℕ → Site → List Bool
sited s x = place_ok 1 2 3 2 9 s x ∷ place_ok 2 2 3 2 9 s x ∷ []

abbrev marked : ℕ → Output → List Bool
marked j o = sited 0 (set_out no_site j o)

-- an output with the mark: in use or not, its head taken or not, its terminator end or none
abbrev used_free : Output
used_free = record { set = 3; terminator = t_none; packet = 6; input = 1; used = true; head = false; closing = true }

abbrev used_ended : Output
used_ended = record { set = 3; terminator = t_end; packet = 6; input = 1; used = true; head = true; closing = true }

abbrev used_aborted : Output
used_aborted = record { set = 3; terminator = t_abort; packet = 6; input = 1; used = true; head = true; closing = true }

abbrev unused : Output
unused = record { set = 0; terminator = t_none; packet = 0; input = 0; used = false; head = false; closing = true }

-- refused in both editions; in range in edition 2 alone; in range in both
abbrev never : List Bool
never = false ∷ false ∷ []

abbrev second_only : List Bool
second_only = false ∷ true ∷ []

abbrev always : List Bool
always = true ∷ true ∷ []

-- net-input 1 open on output 1, which is this
abbrev joined_to : Output → Site
joined_to o = set_in (set_out no_site 1 o) 1 (record { set = 3; phase = Open Unicast; outputs = first; packet = 6; tries = 0 })

pub marks : List (List Bool × List Bool)
marks =
    -- "in range only for outputs 1 to 4 that are in use, head taken, without a terminator", with a channel or without one
    (marked 1 (shut 6 3 1), second_only)
    ∷ (marked 2 (shut 8 1 0), second_only)
    ∷ (marked 3 (shut 0 2 4), second_only)
    ∷ (marked 4 (shut 6 3 1), second_only)
    ∷ (marked 0 (shut 6 3 1), never)
    ∷ (marked 1 used_free, never)
    ∷ (marked 1 used_ended, never)
    ∷ (marked 4 used_aborted, never)
    -- "that are in use": an empty place has no mark, also beyond S sites
    ∷ (marked 1 unused, never)
    ∷ (marked 0 unused, never)
    ∷ (sited 2 (set_out no_site 1 unused), never)
    ∷ (sited 2 (set_out no_site 1 (shut 6 3 1)), never)
    -- "and connected to no input"
    ∷ (sited 0 (joined_to (shut 6 3 1)), never)
    ∷ (sited 0 (joined_to (out 6 3 1 true t_none)), always)
    ∷ (sited 1 (set_out (joined_to (out 6 3 1 true t_none)) 2 (shut 6 3 1)), second_only)
    -- as of any place in use: the packet below the counter, the set, the input 0 to 4
    ∷ (marked 1 (shut 9 3 1), never)
    ∷ (marked 1 (shut 6 0 1), never)
    ∷ (marked 1 (shut 6 4 1), never)
    ∷ (marked 1 (shut 6 3 5), never)
    -- without the mark as in edition 1
    ∷ (marked 1 (out 6 3 1 true t_none), always)
    ∷ (marked 1 no_output, always)
    ∷ []

pub marks_read : map (λ row. row.0) marks ≡ map (λ row. row.1) marks
unfolding marks all any
marks_read = refl

-- ---- a worked run. Two sites joined on ports 1 both ways, T = 3, D = 2; site 0 sends packets 0 and 1 to site 1

abbrev two : ℕ → Network
two edition = net_in 2 edition no_channel 0 2 3 2 (4 ∷ no_channel ∷ no_channel ∷ no_channel ∷ 0 ∷ []) (0 ∷ 4096 ∷ 4096 ∷ 0 ∷ [])

pub two_valid : network_refusal (two 1) ∷ network_refusal (two 2) ∷ [] ≡ 0 ∷ 0 ∷ []
unfolding network_refusal all any
two_valid = refl

-- the whole state is judged by the network's edition
pub judged_by : map (λ e. in_range (two e) (record { sites = set_site no_state.sites 1 (set_out no_site 1 (shut 0 1 0)); counter = 1 })) (1 ∷ 2 ∷ [])
    ≡ false ∷ true ∷ []
unfolding in_range all any
judged_by = refl

-- RUN of each site and code in turn: the sites after it, and the answers
runs_on : ℕ → List Site → List (ℕ × ℕ) → List Site
runs_on e xs [] = xs
runs_on e xs (c ∷ cs) = runs_on e (run (two e) xs c.0 c.1).sites cs

answers_on : ℕ → List Site → List (ℕ × ℕ) → List ℕ
answers_on e xs [] = []
answers_on e xs (c ∷ cs) = answer_of (run (two e) xs c.0 c.1).answer ∷ answers_on e (run (two e) xs c.0 c.1).sites cs

sent_twice : List Site
sent_twice = enqueue (enqueue (no_site ∷ no_site ∷ []) 0 0 2) 0 1 2

-- packet 0 goes to site 1 and its end is delivered; packet 1 starts and asks the router; site 1 passes packet 0's end on; output 1
begins : List (ℕ × ℕ)
begins = (0, 10) ∷ (0, 0) ∷ (0, 6) ∷ (1, 1) ∷ (1, 5) ∷ (0, 10) ∷ (0, 0) ∷ (0, 6) ∷ (0, 10) ∷ (0, 0) ∷ []

ends : List (ℕ × ℕ)
ends = (1, 1) ∷ (0, 6) ∷ []

seen : ℕ → List (ℕ × ℕ) → List (List ℕ)
seen e cs = map places (runs_on e sent_twice cs)

pub worked : List (List (List ℕ) × List (List ℕ))
worked =
    -- edition 1: output 1 is empty again, and packet 1 has taken it, its head not passed on yet
    (
      seen 1 begins,
      (0 ∷ 212100 ∷ 2 ∷ 6 ∷ 112000 ∷ 10 ∷ 1 ∷ 121 ∷ []) ∷ (1 ∷ 402101 ∷ 1 ∷ 5 ∷ 102110 ∷ 11 ∷ 1 ∷ 20 ∷ []) ∷ [],
    )
    -- edition 2: output 1 is closing, and packet 1 has one try
    ∷ (
      seen 2 begins,
      (0 ∷ 112010 ∷ 0 ∷ 6 ∷ 302010 ∷ 10 ∷ 1 ∷ 121 ∷ []) ∷ (1 ∷ 402101 ∷ 1 ∷ 5 ∷ 102110 ∷ 11 ∷ 1 ∷ 20 ∷ []) ∷ [],
    )
    -- edition 1 hands packet 1 down the channel, edition 2 gives the channel up
    ∷ (
      seen 1 (begins ++ ends),
      (0 ∷ 212100 ∷ 2 ∷ 6 ∷ 112010 ∷ 10 ∷ 1 ∷ 121 ∷ []) ∷ (1 ∷ 112000 ∷ 0 ∷ 5 ∷ 102111 ∷ 11 ∷ 1 ∷ 20 ∷ []) ∷ [],
    )
    ∷ (
      seen 2 (begins ++ ends),
      (0 ∷ 112010 ∷ 0 ∷ 10 ∷ 1 ∷ 121 ∷ []) ∷ (5 ∷ 102111 ∷ 11 ∷ 1 ∷ 20 ∷ []) ∷ [],
    )
    -- every RUN answers 1; edition 2 holds the channel while the input at its end is not free
    ∷ (
      answers_on 1 sent_twice (begins ++ ends) ∷ answers_on 2 sent_twice (begins ++ ends) ∷ [],
      (1 ∷ 1 ∷ 1 ∷ 1 ∷ 1 ∷ 1 ∷ 1 ∷ 1 ∷ 1 ∷ 1 ∷ 1 ∷ 1 ∷ []) ∷ (1 ∷ 1 ∷ 1 ∷ 1 ∷ 1 ∷ 1 ∷ 1 ∷ 1 ∷ 1 ∷ 1 ∷ 1 ∷ 1 ∷ []) ∷ [],
    )
    ∷ (answers_on 2 (runs_on 2 sent_twice begins) ((0, 6) ∷ (1, 1) ∷ (0, 6) ∷ (0, 6) ∷ (0, 0) ∷ []) ∷ [], (0 ∷ 1 ∷ 1 ∷ 0 ∷ 1 ∷ []) ∷ [])
    ∷ []

pub worked_read : map (λ row. row.0) worked ≡ map (λ row. row.1) worked
unfolding worked seen runs_on answers_on sent_twice begins ends run act net_output enqueue in_state seek route or_else
    spread gather gather_from first_port occupy marks_of hears local_output channel_output deliver out_queue operate cut_at give
    over all sum has plus minus size_in lowest count_trailing_zeros
worked_read = refl

-- A worked run of edition 3, typed from document 02, L10: a packet to the own site and another splits, both ends are serviced; the next
-- one meets the split output in use, and goes on whole, or is handed on at T. Assumes nothing.
use Prim.Native.Nat.{ℕ}
use mathlib.Core.Path.{◌≡◌, refl}
use mathlib.Core.List.{List, [], ◌∷◌, ◌++◌, map}
use lib.Count.{count_trailing_zeros}
use lib.ListN.{replicate}
use Rattle.base.specs.Sizes.{no_channel}
use Rattle.base.specs.All.{all, any}
use Rattle.base.specs.Over.{over}
use Rattle.base.specs.Sums.{sum}
use Rattle.sets.specs.Sets.{has, plus, minus, size_in, lowest, those}
use Rattle.types.specs.Numbers.{ran_numbers}
use Rattle.model.specs.Types.{Site, Network, no_site, site_at}
use Rattle.model.specs.Network.{network_refusal}
use Rattle.model.specs.Router.{first_port, gather_from, gather, spread, branch, or_else, route, blocks, ask}
use Rattle.model.specs.NetInput.{hears, give, occupy, marks_of, seek, in_state, failed, passes_on}
use Rattle.model.specs.Places.{local_output, deliver, channel_output, out_queue, operate, cut_at}
use Rattle.model.specs.Steps.{net_output, act, run, blocking_at, enqueue}
use Rattle.model.proofs.Made.{net_in}
use Rattle.model.proofs.CodeCases.{places}

-- two sites joined on ports 1 both ways, T = 1, D = 2; site 0 sends packets 0 and 1 to {0, 1}
abbrev two : Network
two = net_in 2 3 no_channel 0 2 1 2 (4 ∷ no_channel ∷ no_channel ∷ no_channel ∷ 0 ∷ []) (0 ∷ 4096 ∷ 4096 ∷ 0 ∷ [])

pub two_valid : network_refusal two ≡ 0
unfolding network_refusal all any
two_valid = refl

sent_twice : List Site
sent_twice = enqueue (enqueue (no_site ∷ no_site ∷ []) 0 0 3) 0 1 3

-- RUN of each site and code in turn: the sites after it, and the numbers of the answers
runs_on : List Site → List (ℕ × ℕ) → List Site
runs_on xs [] = xs
runs_on xs (c ∷ cs) = runs_on (run two xs c.0 c.1).sites cs

answers_on : List Site → List (ℕ × ℕ) → List (List ℕ)
answers_on xs [] = []
answers_on xs (c ∷ cs) =
    let s = c.0 in
    let r = run two xs s c.1 in
    ran_numbers r.answer (blocking_at two s (site_at xs s) c.1) ∷ answers_on r.sites cs

seen : List (ℕ × ℕ) → List (List ℕ)
seen cs = map places (runs_on sent_twice cs)

-- packet 0 starts and asks; its heads go to the split output's in-queue and to site 1; its end comes, and both branches have it; packet 1
-- starts and asks
splits : List (ℕ × ℕ)
splits = (0, 10) ∷ (0, 0) ∷ []

heads : List (ℕ × ℕ)
heads = (0, 13) ∷ (0, 6) ∷ (1, 1) ∷ (1, 5) ∷ []

closes : List (ℕ × ℕ)
closes = (0, 10) ∷ (0, 0) ∷ []

asks : List (ℕ × ℕ)
asks = (0, 10) ∷ (0, 0) ∷ []

begins : List (ℕ × ℕ)
begins = splits ++ heads ++ closes ++ asks

-- the channel passes packet 0's end on and is given up; packet 1 asks again
frees : List (ℕ × ℕ)
frees = (0, 6) ∷ (1, 1) ∷ (0, 6) ∷ (0, 0) ∷ []

-- both in-queues get the end of packet 0, and both operators service it
serves : List (ℕ × ℕ)
serves = (0, 13) ∷ (0, 14) ∷ (1, 5) ∷ (1, 11) ∷ []

-- packet 1 asks at site 1
onward : List (ℕ × ℕ)
onward = (0, 6) ∷ (1, 1) ∷ []

-- the answer 1; the answer 0
abbrev changed : List ℕ
changed = 0 ∷ 1 ∷ 0 ∷ 0 ∷ 0 ∷ []

abbrev nothing : List ℕ
nothing = 0 ∷ 0 ∷ 0 ∷ 0 ∷ 0 ∷ []

pub worked : List (List (List ℕ) × List (List ℕ))
worked =
    -- "{s} goes there and the rest to the first empty output of the lowest other target": connection 6 on outputs 1 and 5
    (seen splits, (0 ∷ 203600 ∷ 34 ∷ 6 ∷ 102000 ∷ 10 ∷ 2 ∷ 31 ∷ 130 ∷ 13 ∷ 101000 ∷ []) ∷ [] ∷ [])
    -- "The split output .. delivers .. as output 0 does": its head goes to its own in-queue
    ∷ (
      seen (splits ++ heads),
      (0 ∷ 203600 ∷ 34 ∷ 6 ∷ 102010 ∷ 10 ∷ 2 ∷ 31 ∷ 130 ∷ 13 ∷ 101010 ∷ 14 ∷ 1 ∷ 10 ∷ [])
          ∷ (1 ∷ 202100 ∷ 1 ∷ 5 ∷ 102110 ∷ 11 ∷ 1 ∷ 20 ∷ [])
          ∷ [],
    )
    -- "both branches get the received terminator"
    ∷ (
      seen (splits ++ heads ++ closes),
      (6 ∷ 102011 ∷ 10 ∷ 1 ∷ 130 ∷ 13 ∷ 101011 ∷ 14 ∷ 1 ∷ 10 ∷ []) ∷ (1 ∷ 202100 ∷ 1 ∷ 5 ∷ 102110 ∷ 11 ∷ 1 ∷ 20 ∷ []) ∷ [],
    )
    -- packet 1: the split output busy, and no output onward: one more try
    ∷ (
      seen begins,
      (0 ∷ 113010 ∷ 0 ∷ 6 ∷ 102011 ∷ 10 ∷ 1 ∷ 131 ∷ 13 ∷ 101011 ∷ 14 ∷ 1 ∷ 10 ∷ [])
          ∷ (1 ∷ 202100 ∷ 1 ∷ 5 ∷ 102110 ∷ 11 ∷ 1 ∷ 20 ∷ [])
          ∷ [],
    )
    -- "the handed rule, as in edition 1": at T the whole set goes to output 0
    ∷ (
      seen (begins ++ ((0, 0) ∷ [])),
      (0 ∷ 213510 ∷ 1 ∷ 5 ∷ 113000 ∷ 6 ∷ 102011 ∷ 10 ∷ 1 ∷ 131 ∷ 13 ∷ 101011 ∷ 14 ∷ 1 ∷ 10 ∷ [])
          ∷ (1 ∷ 202100 ∷ 1 ∷ 5 ∷ 102110 ∷ 11 ∷ 1 ∷ 20 ∷ [])
          ∷ [],
    )
    -- "channels close as in edition 2"
    ∷ (
      seen (begins ++ ((0, 6) ∷ [])),
      (0 ∷ 113010 ∷ 0 ∷ 6 ∷ 302010 ∷ 10 ∷ 1 ∷ 131 ∷ 13 ∷ 101011 ∷ 14 ∷ 1 ∷ 10 ∷ [])
          ∷ (1 ∷ 402101 ∷ 1 ∷ 5 ∷ 102110 ∷ 11 ∷ 1 ∷ 20 ∷ [])
          ∷ [],
    )
    -- "With the split output busy ..: the whole set that way", connection 2
    ∷ (
      seen (begins ++ frees),
      (0 ∷ 213210 ∷ 2 ∷ 6 ∷ 113000 ∷ 10 ∷ 1 ∷ 131 ∷ 13 ∷ 101011 ∷ 14 ∷ 1 ∷ 10 ∷ []) ∷ (5 ∷ 102111 ∷ 11 ∷ 1 ∷ 20 ∷ []) ∷ [],
    )
    -- both ends are serviced, packet 0 at site 0 by code 14, at site 1 by code 11
    ∷ (
      seen (begins ++ frees ++ serves),
      (0 ∷ 213210 ∷ 2 ∷ 6 ∷ 113000 ∷ 10 ∷ 1 ∷ 131 ∷ []) ∷ [] ∷ [],
    )
    ∷ (
      answers_on (runs_on sent_twice (begins ++ frees)) serves,
      changed ∷ (0 ∷ 2 ∷ 0 ∷ 0 ∷ 0 ∷ []) ∷ changed ∷ (0 ∷ 2 ∷ 0 ∷ 1 ∷ 0 ∷ []) ∷ [],
    )
    -- at site 1 packet 1 splits again: {1} to that site's split output, {0} onward
    ∷ (
      seen (begins ++ frees ++ serves ++ onward),
      (0 ∷ 213210 ∷ 2 ∷ 6 ∷ 113010 ∷ 10 ∷ 1 ∷ 131 ∷ []) ∷ (1 ∷ 213600 ∷ 34 ∷ 6 ∷ 111100 ∷ 13 ∷ 112100 ∷ []) ∷ [],
    )
    -- every RUN so far answers 1; L7: the failed ask of packet 1 names output 1 and not the busy split output, the next one, which hands it
    -- on, names none; the timeout, code 14 with no terminator and code 13 with nothing to pass on answer 0
    ∷ (
      answers_on sent_twice (begins ++ ((0, 0) ∷ [])),
      replicate 9 changed ++ ((0 ∷ 1 ∷ 0 ∷ 0 ∷ 2 ∷ []) ∷ changed ∷ []),
    )
    ∷ (
      answers_on (runs_on sent_twice (splits ++ heads)) ((0, 12) ∷ (0, 14) ∷ (0, 13) ∷ (1, 13) ∷ (1, 14) ∷ []),
      nothing ∷ nothing ∷ nothing ∷ nothing ∷ nothing ∷ [],
    )
    ∷ []

pub worked_read : map (λ row. row.0) worked ≡ map (λ row. row.1) worked
unfolding worked seen runs_on answers_on sent_twice splits heads closes asks begins frees serves onward run act net_output enqueue in_state
    seek route branch or_else spread gather gather_from first_port occupy marks_of hears local_output channel_output deliver out_queue operate
    cut_at give over all sum has plus minus size_in lowest count_trailing_zeros blocking_at passes_on failed ask blocks those
worked_read = refl

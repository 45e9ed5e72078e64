-- Demand 3 on short runs, by computation: services and the places that owe, packet by packet and site by site, beside what
-- document 01 asks. `once` says it of every run; here a rule that loses or doubles a target shows the wrong number.
use Prim.Native.Nat.{ℕ, ◌+◌}
use mathlib.Core.Path.{◌≡◌, refl}
use mathlib.Core.List.{List, [], ◌∷◌, ◌++◌, map}
use lib.Count.{count_trailing_zeros}
use Rattle.base.specs.Sizes.{split_port, no_channel}
use Rattle.base.specs.All.{all, any}
use Rattle.base.specs.Over.{over}
use Rattle.base.specs.Sums.{sum, isum, upto}
use Rattle.sets.specs.Sets.{has, plus, minus, size_in, lowest}
use Rattle.theorems.specs.Names.{Site, Network}
use Rattle.model.specs.Types.{no_state, site_at, in_at, out_at}
use Rattle.model.specs.Network.{network_refusal}
use Rattle.model.specs.Range.{in_range}
use Rattle.model.specs.Router.{first_port, gather_from, gather, spread, branch, or_else, route}
use Rattle.model.specs.NetInput.{hears, give, occupy, marks_of, seek, in_state}
use Rattle.model.specs.Places.{local_output, deliver, channel_output, out_queue, operate, cut_at}
use Rattle.model.specs.Steps.{net_output, act, run, enqueue}
use Rattle.model.specs.Events.{Event, Send, Run, ran, sent, run_refusal, send_refusal, serviced, accepted_set, times_answered}
use Rattle.model.specs.Owing.{owed}
use Rattle.model.specs.Runs.{unplayed, at_draw, played_singly, in_book, in_entries, book_bytes}
use Rattle.theorems.proofs.Examples.{two, at}
use Rattle.model.proofs.Made.{net, net_in}

-- three sites in a ring, 0 to 1 to 2 to 0, all by ports 1
abbrev forward : List ℕ
forward = 4 ∷ no_channel ∷ no_channel ∷ no_channel ∷ 8 ∷ no_channel ∷ no_channel ∷ no_channel ∷ 0 ∷ []

abbrev around : List ℕ
around = 0 ∷ 4096 ∷ 4096 ∷ 4096 ∷ 0 ∷ 4096 ∷ 4096 ∷ 4096 ∷ 0 ∷ []

abbrev ring : Network
ring = net 3 3 8 forward around

-- packet p at sites 0, 1, 2: the times it stands in the book of the events there, and the places that owe it
row : Network → ℕ → List Event → List ℕ
row n p es =
    let g = played_singly n unplayed (at_draw 0 es) in
    map (λ t. in_book p t g.book + owed g.state.sites p t) (0 ∷ 1 ∷ 2 ∷ [])

-- a split of {0,1}: site 0's in-queue has the head, nothing ended yet; the operator has nothing to do
waiting : List Event
waiting = Send 0 3 ∷ at 0 (10 ∷ 0 ∷ 5 ∷ 11 ∷ [])

-- the same, ended at both branches at one stroke: end to site 1, keep-local to site 0
ended : List Event
ended = Send 0 3 ∷ at 0 (10 ∷ 0 ∷ 5 ∷ 6 ∷ []) ++ (Run 1 1 ∷ at 0 (10 ∷ 0 ∷ []))

-- the same, cut off by the timeout: site 0 is serviced, {1} goes back to the out-queue
cut : List Event
cut = Send 0 3 ∷ at 0 (10 ∷ 0 ∷ 5 ∷ 12 ∷ 10 ∷ 0 ∷ 5 ∷ 11 ∷ [])

-- {0,1,2} round the ring, cut off at site 0 while site 1 has split too: the abort runs on to site 1
chased : List Event
chased =
    Send 0 7 ∷ at 0 (10 ∷ 0 ∷ 5 ∷ 6 ∷ [])
    ++ at 1 (1 ∷ 5 ∷ 6 ∷ [])
    ++ (Run 2 1 ∷ [])
    ++ at 0 (12 ∷ 10 ∷ 0 ∷ 6 ∷ [])
    ++ (Run 1 1 ∷ [])

-- what is computed, and what demand 3 says
pub tally : List (List ℕ × List ℕ)
tally =
    (row two 0 waiting, 1 ∷ 1 ∷ 0 ∷ [])
    ∷ (row two 0 ended, 1 ∷ 1 ∷ 0 ∷ [])
    ∷ (row two 0 cut, 1 ∷ 1 ∷ 0 ∷ [])
    ∷ (row ring 0 chased, 1 ∷ 1 ∷ 1 ∷ [])
    ∷ []

pub counted : map (λ pair. pair.0) tally ≡ map (λ pair. pair.1) tally
unfolding tally row waiting ended cut chased at played_singly owed ran sent run_refusal send_refusal network_refusal
    in_range all any over sum isum has plus minus size_in lowest count_trailing_zeros first_port gather_from gather spread or_else
    route hears give occupy marks_of seek in_state local_output deliver channel_output out_queue operate cut_at net_output
    act run enqueue
counted = refl

-- ---- the numbers of the answers: a packet, a site and an accepted number that differ, none of them 0

-- SEND at site 1 to {0,2} is packet 0; SEND at site 2 to {2} is packet 1; SEND at no site is refused 9; packet 1 goes through
-- site 2's own output 0 and is serviced there by the operator
orders : List Event
orders = Send 1 5 ∷ Send 2 4 ∷ Send 3 1 ∷ []

numbered : List Event
numbered = orders ++ at 2 (10 ∷ 0 ∷ 5 ∷ 10 ∷ 0 ∷ 5 ∷ 11 ∷ [])

pub number_rows : List (List ℕ × List ℕ)
number_rows =
    -- "The answer is the packet number.": the sets accepted under 0, 1, 2, 9 and how often these numbers were answered
    (map (accepted_set ring no_state orders) (0 ∷ 1 ∷ 2 ∷ 9 ∷ []), 5 ∷ 4 ∷ 0 ∷ 0 ∷ [])
    ∷ (map (times_answered ring no_state orders) (0 ∷ 1 ∷ 2 ∷ 9 ∷ []), 1 ∷ 1 ∷ 0 ∷ 0 ∷ [])
    -- "The answer is 2 with packet and site": packet 1 at site 2, and not packet 2 at site 1
    ∷ (serviced ring no_state numbered 1 2 ∷ serviced ring no_state numbered 2 1 ∷ [], 1 ∷ 0 ∷ [])
    -- "draw 2, packet 1, site 1": the service by draw 259, and how often it is found in the book and in its bytes
    ∷ (let book = (played_singly ring unplayed (at_draw 259 numbered)).book in book_bytes book, 1 ∷ 3 ∷ 1 ∷ 2 ∷ [])
    ∷ (in_entries 1 2 (1 ∷ 3 ∷ 1 ∷ 2 ∷ 0 ∷ 0 ∷ 2 ∷ 1 ∷ 0 ∷ 0 ∷ 1 ∷ 2 ∷ []) 2 ∷ in_entries 2 1 (1 ∷ 3 ∷ 1 ∷ 2 ∷ []) 1 ∷ [], 1 ∷ 0 ∷ [])
    ∷ []

pub numbers_read : map (λ pair. pair.0) number_rows ≡ map (λ pair. pair.1) number_rows
unfolding number_rows orders numbered at accepted_set times_answered serviced played_singly book_bytes ran sent run_refusal
    send_refusal network_refusal in_range all any over sum isum upto has plus minus size_in lowest count_trailing_zeros first_port
    gather_from gather spread or_else route hears give occupy marks_of seek in_state local_output deliver channel_output
    out_queue operate cut_at net_output act run enqueue
numbers_read = refl

-- ---- edition 3, L10: "a packet splits only into its local target and one way onward, through a split-port of its own"

abbrev parting : Network
parting = net_in 2 3 no_channel 0 3 3 8 forward around

-- {0,1,2}: {0} goes to site 0's split output, {1,2} to port 1, and at site 1 {1} and {2} part likewise
parted : List Event
parted = Send 0 7 ∷ at 0 (10 ∷ 0 ∷ 13 ∷ 6 ∷ []) ++ (Run 1 1 ∷ at 0 (12 ∷ [])) ++ at 1 (13 ∷ 6 ∷ []) ++ (Run 2 1 ∷ [])

-- the same, ended at both branches of both sites; the channel from 0 to 1 is held until its input is free
finished : List Event
finished = parted ++ at 0 (10 ∷ 0 ∷ 6 ∷ []) ++ (Run 1 1 ∷ at 0 (6 ∷ []))

-- then {0,1}, site 0's split output still busy: the whole set goes to port 1; the split output ends its entry, its operator
-- services it
whole : List Event
whole = finished ++ (Send 0 3 ∷ at 0 (10 ∷ 0 ∷ 6 ∷ 13 ∷ 14 ∷ 14 ∷ []))

-- the sets at a site's split output, at its output 1 and at its input 1
abbrev sets_at : Site → List ℕ
sets_at x = (out_at x split_port).set ∷ (out_at x 1).set ∷ (in_at x 1).set ∷ []

-- these sets at sites 0 and 1, the book of the events, all at draw 259, and the rows of packets 0 and 1
ways : List Event → List (List ℕ)
ways es =
    let g = played_singly parting unplayed (at_draw 259 es) in
    let xs = g.state.sites in
    let held : ℕ → List ℕ = λ p. map (λ t. in_book p t g.book + owed xs p t) (0 ∷ 1 ∷ 2 ∷ []) in
    sets_at (site_at xs 0) ∷ sets_at (site_at xs 1) ∷ book_bytes g.book ∷ held 0 ∷ held 1 ∷ []

pub parting_rows : List (List (List ℕ) × List (List ℕ))
parting_rows =
    -- "{s} goes there and the rest to the first empty output of the lowest other target"; "timeouts do nothing"
    (ways parted, (1 ∷ 6 ∷ 0 ∷ []) ∷ (2 ∷ 4 ∷ 6 ∷ []) ∷ [] ∷ (1 ∷ 1 ∷ 1 ∷ []) ∷ (0 ∷ 0 ∷ 0 ∷ []) ∷ [])
    -- "With the split output busy ..: the whole set that way."; one service, by code 14
    ∷ (
      ways whole,
      (0 ∷ 3 ∷ 0 ∷ []) ∷ (2 ∷ 4 ∷ 3 ∷ []) ∷ (1 ∷ 3 ∷ 0 ∷ 0 ∷ []) ∷ (1 ∷ 1 ∷ 1 ∷ []) ∷ (1 ∷ 1 ∷ 0 ∷ []) ∷ [],
    )
    ∷ []

pub parting_read : map (λ pair. pair.0) parting_rows ≡ map (λ pair. pair.1) parting_rows
unfolding parting_rows ways parted finished whole at played_singly book_bytes owed ran sent run_refusal send_refusal
    network_refusal in_range all any over sum isum upto has plus minus size_in lowest count_trailing_zeros first_port gather_from gather
    spread branch or_else route hears give occupy marks_of seek in_state local_output deliver channel_output out_queue operate
    cut_at net_output act run enqueue
parting_read = refl

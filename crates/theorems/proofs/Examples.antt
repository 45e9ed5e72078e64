-- Document 01, "Runs with known ends": P1 to P9, one table under one theorem. Each row is what the definitions compute
-- beside what the document says.
use Prim.Native.Nat.{ℕ}
use mathlib.Core.Path.{◌≡◌, refl}
use mathlib.Core.List.{List, [], ◌∷◌, ◌++◌, map}
use lib.ListN.{replicate}
use lib.Count.{count_trailing_zeros}
use Rattle.base.specs.Sizes.{no_channel}
use Rattle.base.specs.All.{all, any}
use Rattle.base.specs.Over.{over}
use Rattle.base.specs.Sums.{sum}
use Rattle.sets.specs.Sets.{has, plus, minus, size_in, lowest}
use Rattle.draws.specs.Draws.{drawn, drawn_site, drawn_code}
use Rattle.theorems.specs.Names.{State, Network, Run as StoredRun}
use Rattle.model.specs.Types.{no_state, site_at, in_at, out_at, out_entry}
use Rattle.types.specs.Numbers.{state_number, terminator_number}
use Rattle.model.specs.Network.{network_refusal}
use Rattle.model.specs.Range.{in_range}
use Rattle.model.specs.Router.{first_port, gather_from, gather, spread, or_else, route}
use Rattle.model.specs.NetInput.{hears, give, occupy, marks_of, seek, in_state, failed, passes_on}
use Rattle.model.specs.Places.{local_output, deliver, channel_output, out_queue, operate, cut_at}
use Rattle.model.specs.Steps.{net_output, act, run, blocking_at, enqueue}
use Rattle.model.specs.Events.{Event, Send, Run, ran, sent, run_refusal, send_refusal, final}
use Rattle.model.specs.Apart.{answer_numbers, answers_to}
use Rattle.model.specs.Runs.{stored_refusal}
use Rattle.model.proofs.Made.{net, run_on}

-- "one site"
abbrev one : ℕ → Network
one D = net 1 3 D [] []

-- "two sites joined on ports 1 both ways, each route port 1"
abbrev pub two : Network
two = net 2 3 8 (4 ∷ no_channel ∷ no_channel ∷ no_channel ∷ 0 ∷ []) (0 ∷ 4096 ∷ 4096 ∷ 0 ∷ [])

-- the numbers of the answers to a list of events
answers : Network → State → List Event → List (List ℕ)
answers n st es = map answer_numbers (answers_to n st es)

-- codes run at one site
unfoldable pub at : ℕ → List ℕ → List Event
at s [] = []
at s (c ∷ cs) = Run s c ∷ at s cs

changed : List ℕ
changed = 0 ∷ 1 ∷ 0 ∷ 0 ∷ 0 ∷ []

-- P5's events, and P6's after them; P7's
p5 : List Event
p5 = Send 0 3 ∷ at 0 (10 ∷ 0 ∷ 5 ∷ 12 ∷ [])

p6 : List Event
p6 = p5 ++ at 0 (10 ∷ 0 ∷ 5 ∷ 11 ∷ [])

p7 : List Event
p7 = Send 0 3 ∷ at 0 (10 ∷ 0 ∷ 5 ∷ 6 ∷ []) ++ (Run 1 1 ∷ at 0 (10 ∷ 0 ∷ []))

-- site 0 at the end: net-input 0's state, the terminators of outputs 0 and 1; the front of its out-queue
look : State → List ℕ
look st =
    let x = site_at st.sites 0 in
    state_number (in_at x 0).phase ∷ terminator_number (out_at x 0).terminator ∷ terminator_number (out_at x 1).terminator ∷ []

front : State → List ℕ
front st =
    let q = (site_at st.sites 0).outgoing in
    q.count ∷ (out_entry q 0).packet ∷ (out_entry q 0).set ∷ []

seedless : StoredRun
seedless = run_on (one 1) 0 2 []

-- what is computed, and what the document gives
pub table : List (List (List ℕ) × List (List ℕ))
table =
    -- "P1 seed 1 draws 270369, then 67634689."
    ((drawn 1 ∷ drawn (drawn 1) ∷ []) ∷ [], (270369 ∷ 67634689 ∷ []) ∷ [])
    -- "P2 S = 1: these are codes 8 and 5."
    ∷ ((drawn_code 1 1 270369 ∷ drawn_code 1 1 67634689 ∷ []) ∷ [], (8 ∷ 5 ∷ []) ∷ [])
    -- "P3 S = 2: 270369 is site 1, code 8."
    ∷ ((drawn_site 1 2 270369 ∷ drawn_code 1 2 270369 ∷ []) ∷ [], (1 ∷ 8 ∷ []) ∷ [])
    -- "P4 one site, SEND 0 {0}, codes 10, 0, 5, 10, 0, 5, 11: answers 1 six times, then 2 (packet 0, site 0)."
    ∷ (
      answers (one 1) no_state (Send 0 1 ∷ at 0 (10 ∷ 0 ∷ 5 ∷ 10 ∷ 0 ∷ 5 ∷ 11 ∷ [])),
      (0 ∷ 0 ∷ []) ∷ replicate 6 changed ++ ((0 ∷ 2 ∷ 0 ∷ 0 ∷ 0 ∷ []) ∷ []),
    )
    -- "P5 .. SEND 0 {0,1}; at site 0 codes 10, 0, 5, 12: input 0 is abort, output 1 holds abort."
    ∷ (look (final two no_state p5) ∷ [], (6 ∷ 0 ∷ 2 ∷ []) ∷ [])
    -- "P6 from there 10, 0, 5, 11: services site 0, requeues {1}."
    ∷ (
      answers two no_state p6 ++ (front (final two no_state p6) ∷ []),
      (0 ∷ 0 ∷ []) ∷ replicate 7 changed ++ ((0 ∷ 2 ∷ 0 ∷ 0 ∷ 0 ∷ []) ∷ (1 ∷ 0 ∷ 2 ∷ []) ∷ []),
    )
    -- "P7 as P5 up to 10, 0, 5, then 6, site 1's code 1, site 0's 10 and 0: output 0 holds keep-local, output 1 end."
    ∷ (look (final two no_state p7) ∷ [], (0 ∷ 3 ∷ 1 ∷ []) ∷ [])
    -- "P8 D = 1: a second SEND at once is 11."
    ∷ (answers (one 1) no_state (Send 0 1 ∷ Send 0 1 ∷ []), (0 ∷ 0 ∷ []) ∷ (11 ∷ 0 ∷ []) ∷ [])
    -- "P9 seed 0 is 4."
    ∷ ((stored_refusal seedless ∷ []) ∷ [], (4 ∷ []) ∷ [])
    ∷ []

pub examples : map (λ row. row.0) table ≡ map (λ row. row.1) table
unfolding table drawn seedless look front p5 p6 p7 changed at answers answers_to final ran sent run_refusal send_refusal
    network_refusal in_range all any over sum has plus minus size_in lowest count_trailing_zeros first_port gather_from gather
    spread or_else route hears give occupy marks_of seek in_state local_output deliver channel_output out_queue operate
    cut_at net_output act run blocking_at passes_on failed enqueue stored_refusal
examples = refl

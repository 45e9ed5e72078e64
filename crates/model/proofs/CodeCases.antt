-- Which place each code of RUN moves, what becomes of all sites, and where SEND puts its entry, typed from document 01: each
-- row is what the definitions compute beside what the document says, written as Shown has it.
use Prim.Native.Nat.{ℕ, ◌+◌}
use mathlib.Core.Path.{◌≡◌, refl}
use mathlib.Core.Bool.{true, false, cond}
use mathlib.Core.List.{List, [], ◌∷◌, ◌++◌, map}
use lib.Dec.{eqb}
use lib.ListN.{replicate, take}
use lib.Count.{count_trailing_zeros}
use Rattle.base.specs.Sizes.{no_channel}
use Rattle.base.specs.All.{all}
use Rattle.base.specs.Over.{over}
use Rattle.base.specs.Sums.{sum}
use Rattle.sets.specs.Sets.{has, plus, minus, size_in, lowest}
use Rattle.model.specs.Types.{Unicast, Passthru, SomeLocal, got_end, t_none, t_end, t_abort}
use Rattle.model.specs.Types.{Phase, Seek, Open, Wait, Done, Aborted}
use Rattle.model.specs.Types.{Site, Network, no_marks, no_site, site_at, in_at, out_at, queue_at, set_in, set_out, set_queue, with_out_queue}
use Rattle.types.specs.Numbers.{ran_numbers, answer_of}
use Rattle.model.specs.Network.{network_refusal}
use Rattle.model.specs.Router.{first_port, gather_from, gather, spread, or_else, route}
use Rattle.model.specs.NetInput.{hears, give, occupy, marks_of, seek, in_state, failed, passes_on}
use Rattle.model.specs.Places.{local_output, deliver, channel_output, out_queue, operate, cut_at}
use Rattle.model.specs.Steps.{net_output, act, run, blocking_at, enqueue}
use Rattle.model.proofs.Shown.{of_input, of_output, of_out_queue, of_in_queue, each}
use Rattle.model.proofs.Shown.{inp, out, leaving, arrived, out_q, in_q, alone, first, split}
use Rattle.model.proofs.Made.{net}

-- Three sites, T = 3, D = 2. Site 0's ports 1 and 3 lead to inputs 2 and 4 of site 1, its ports 2 and 4 to inputs 1 and 3 of
-- site 2. Ports 1 of site 1 and 2 of site 2 lead to their own inputs 1 and 2; their other ports to inputs 3 and 1 of site 0.
abbrev crossed : Network
crossed =
    net 3 3 2 (5 ∷ 8 ∷ 7 ∷ 10 ∷ 4 ∷ 2 ∷ no_channel ∷ no_channel ∷ 0 ∷ 9 ∷ [])
    (0 ∷ 4864 ∷ 9216 ∷ 8192 ∷ 0 ∷ 8192 ∷ 4096 ∷ 4096 ∷ 0 ∷ [])

pub crossed_valid : network_refusal crossed ≡ 0
unfolding network_refusal all
crossed_valid = refl

-- the places of a site that are in use, each behind a number: net-inputs 0 to 4, net-outputs 5 to 9 and the out-queue 10, as
-- their codes are, the in-queue 11, the split output 13 and its in-queue 14; of a queue its count and so many entries
abbrev pub in_use : ℕ → List ℕ → List ℕ
in_use m ms = cond (eqb (sum (λ v. v) ms) 0) [] (m ∷ ms)

abbrev pub places : Site → List ℕ
places x =
    each (λ i. in_use i (of_input (in_at x i))) (0 ∷ 1 ∷ 2 ∷ 3 ∷ 4 ∷ [])
    ++ each (λ j. in_use (5 + j) (of_output (out_at x j) ∷ [])) (0 ∷ 1 ∷ 2 ∷ 3 ∷ 4 ∷ [])
    ++ in_use 10 (take (1 + x.outgoing.count) (of_out_queue x.outgoing))
    ++ in_use 11 (take (1 + (queue_at x 0).count) (of_in_queue (queue_at x 0)))
    ++ in_use 13 (of_output (out_at x 5) ∷ [])
    ++ in_use 14 (take (1 + (queue_at x 1).count) (of_in_queue (queue_at x 1)))

-- RUN's answers to the codes 0 to 12 at site 0, site 0 being x, the others empty
abbrev answers : Site → List ℕ
answers x =
    map (λ code. answer_of (run crossed (x ∷ no_site ∷ no_site ∷ []) 0 code).answer)
    (0 ∷ 1 ∷ 2 ∷ 3 ∷ 4 ∷ 5 ∷ 6 ∷ 7 ∷ 8 ∷ 9 ∷ 10 ∷ 11 ∷ 12 ∷ [])

-- the numbers of RUN's answer (L7: the last names the outputs in the way, none here), and the places of sites 0, 1, 2 after it
abbrev ran_on : List Site → ℕ → ℕ → List (List ℕ)
ran_on xs s code =
    let r = run crossed xs s code in
    ran_numbers r.answer (blocking_at crossed s (site_at xs s) code) ∷ map places r.sites

-- a site with one thing to do: this net-input seeks; this output has a head to pass on; an entry is in the out-queue; one is in
-- the in-queue; input 3 feeds output 0, which has no terminator yet
abbrev seeks : ℕ → Site
seeks i = set_in no_site i (inp Seek no_marks)

abbrev holds : ℕ → Site
holds j = set_out no_site j (out 6 3 2 false t_none)

abbrev leaves : Site
leaves = with_out_queue no_site (out_q (leaving 6 3 false ∷ []))

abbrev arrives : Site
arrives = set_queue no_site 0 (in_q (arrived 6 3 t_end ∷ []))

abbrev stalls : Site
stalls =
    set_queue (set_in (set_out no_site 0 (out 5 7 3 true t_none)) 3 (inp (Open SomeLocal) alone)) 0 (in_q (arrived 5 7 t_none ∷ []))

pub turns : List (List ℕ × List ℕ)
turns =
    -- "Codes 0 to 4 are the net-inputs"
    (answers (seeks 0), 1 ∷ 0 ∷ 0 ∷ 0 ∷ 0 ∷ 0 ∷ 0 ∷ 0 ∷ 0 ∷ 0 ∷ 0 ∷ 0 ∷ 0 ∷ [])
    ∷ (answers (seeks 1), 0 ∷ 1 ∷ 0 ∷ 0 ∷ 0 ∷ 0 ∷ 0 ∷ 0 ∷ 0 ∷ 0 ∷ 0 ∷ 0 ∷ 0 ∷ [])
    ∷ (answers (seeks 2), 0 ∷ 0 ∷ 1 ∷ 0 ∷ 0 ∷ 0 ∷ 0 ∷ 0 ∷ 0 ∷ 0 ∷ 0 ∷ 0 ∷ 0 ∷ [])
    ∷ (answers (seeks 3), 0 ∷ 0 ∷ 0 ∷ 1 ∷ 0 ∷ 0 ∷ 0 ∷ 0 ∷ 0 ∷ 0 ∷ 0 ∷ 0 ∷ 0 ∷ [])
    ∷ (answers (seeks 4), 0 ∷ 0 ∷ 0 ∷ 0 ∷ 1 ∷ 0 ∷ 0 ∷ 0 ∷ 0 ∷ 0 ∷ 0 ∷ 0 ∷ 0 ∷ [])
    -- "5 to 9 the net-outputs 0 to 4"
    ∷ (answers (holds 0), 0 ∷ 0 ∷ 0 ∷ 0 ∷ 0 ∷ 1 ∷ 0 ∷ 0 ∷ 0 ∷ 0 ∷ 0 ∷ 0 ∷ 0 ∷ [])
    ∷ (answers (holds 1), 0 ∷ 0 ∷ 0 ∷ 0 ∷ 0 ∷ 0 ∷ 1 ∷ 0 ∷ 0 ∷ 0 ∷ 0 ∷ 0 ∷ 0 ∷ [])
    ∷ (answers (holds 2), 0 ∷ 0 ∷ 0 ∷ 0 ∷ 0 ∷ 0 ∷ 0 ∷ 1 ∷ 0 ∷ 0 ∷ 0 ∷ 0 ∷ 0 ∷ [])
    ∷ (answers (holds 3), 0 ∷ 0 ∷ 0 ∷ 0 ∷ 0 ∷ 0 ∷ 0 ∷ 0 ∷ 1 ∷ 0 ∷ 0 ∷ 0 ∷ 0 ∷ [])
    ∷ (answers (holds 4), 0 ∷ 0 ∷ 0 ∷ 0 ∷ 0 ∷ 0 ∷ 0 ∷ 0 ∷ 0 ∷ 1 ∷ 0 ∷ 0 ∷ 0 ∷ [])
    -- "10 the out-queue, 11 the operator, 12 the timeout"
    ∷ (answers leaves, 0 ∷ 0 ∷ 0 ∷ 0 ∷ 0 ∷ 0 ∷ 0 ∷ 0 ∷ 0 ∷ 0 ∷ 1 ∷ 0 ∷ 0 ∷ [])
    ∷ (answers arrives, 0 ∷ 0 ∷ 0 ∷ 0 ∷ 0 ∷ 0 ∷ 0 ∷ 0 ∷ 0 ∷ 0 ∷ 0 ∷ 2 ∷ 0 ∷ [])
    ∷ (answers stalls, 0 ∷ 0 ∷ 0 ∷ 0 ∷ 0 ∷ 0 ∷ 0 ∷ 0 ∷ 0 ∷ 0 ∷ 0 ∷ 0 ∷ 1 ∷ [])
    ∷ (answers no_site, replicate 13 0)
    ∷ []

pub turned : map (λ row. row.0) turns ≡ map (λ row. row.1) turns
unfolding turns run act net_output in_state seek route or_else spread gather gather_from first_port occupy marks_of hears
    local_output channel_output out_queue operate cut_at give over all sum has plus minus size_in lowest count_trailing_zeros
turned = refl

-- the answer 1
abbrev changed : List ℕ
changed = 0 ∷ 1 ∷ 0 ∷ 0 ∷ 0 ∷ []

-- site 0's net-input 0 is done, connected to outputs 0, 1 and 2; the inputs at the ends of channels 1 and 2 are in these
-- states, each connected to its own site's output 0
abbrev finishing : Phase → Phase → List Site
finishing one two =
    set_in (set_out (set_out (set_out no_site 0 (out 5 7 0 true t_none)) 1 (out 5 2 0 true t_none)) 2 (out 5 4 0 true t_none)) 0
    (inp (Done SomeLocal got_end) split)
    ∷ set_in (set_out no_site 0 (out 5 7 2 true t_none)) 2 (inp one alone)
    ∷ set_in (set_out no_site 0 (out 5 7 1 true t_none)) 1 (inp two alone)
    ∷ []

-- net-input 2 is open, connected to output 1; output 2 has an abort for it
abbrev looping : Site
looping = set_in (set_out (set_out no_site 1 (out 5 7 2 true t_none)) 2 (out 6 3 0 true t_abort)) 2 (inp (Open Unicast) first)

pub changes : List (List (List ℕ) × List (List ℕ))
changes =
    -- net-input 3 alone is opened, and feeds the outputs that it takes
    (
      ran_on (seeks 3 ∷ no_site ∷ no_site ∷ []) 0 3,
      changed ∷ (3 ∷ 257420 ∷ 7 ∷ 5 ∷ 157300 ∷ 6 ∷ 152300 ∷ 7 ∷ 154300 ∷ []) ∷ [] ∷ [] ∷ [],
    )
    -- "output 0 appends .. to the in-queue"; "another passes it to its channel's input"
    ∷ (ran_on (holds 0 ∷ no_site ∷ no_site ∷ []) 0 5, changed ∷ (5 ∷ 163210 ∷ 11 ∷ 1 ∷ 630 ∷ []) ∷ [] ∷ [] ∷ [])
    ∷ (ran_on (holds 1 ∷ no_site ∷ no_site ∷ []) 0 6, changed ∷ (6 ∷ 163210 ∷ []) ∷ (2 ∷ 163000 ∷ 0 ∷ []) ∷ [] ∷ [])
    ∷ (ran_on (holds 2 ∷ no_site ∷ no_site ∷ []) 0 7, changed ∷ (7 ∷ 163210 ∷ []) ∷ [] ∷ (1 ∷ 163000 ∷ 0 ∷ []) ∷ [])
    ∷ (ran_on (holds 3 ∷ no_site ∷ no_site ∷ []) 0 8, changed ∷ (8 ∷ 163210 ∷ []) ∷ (4 ∷ 163000 ∷ 0 ∷ []) ∷ [] ∷ [])
    ∷ (ran_on (holds 4 ∷ no_site ∷ no_site ∷ []) 0 9, changed ∷ (9 ∷ 163210 ∷ []) ∷ [] ∷ (3 ∷ 163000 ∷ 0 ∷ []) ∷ [])
    ∷ (ran_on (no_site ∷ holds 2 ∷ no_site ∷ []) 1 7, changed ∷ (3 ∷ 163000 ∷ 0 ∷ []) ∷ (7 ∷ 163210 ∷ []) ∷ [] ∷ [])
    -- a channel to the own site: both of its places change
    ∷ (ran_on (no_site ∷ holds 1 ∷ no_site ∷ []) 1 6, changed ∷ [] ∷ (1 ∷ 163000 ∷ 0 ∷ 6 ∷ 163210 ∷ []) ∷ [] ∷ [])
    ∷ (ran_on (no_site ∷ no_site ∷ looping ∷ []) 2 7, changed ∷ [] ∷ [] ∷ (2 ∷ 457122 ∷ 2 ∷ 6 ∷ 157210 ∷ []) ∷ [])
    -- no channel
    ∷ (ran_on (no_site ∷ holds 3 ∷ no_site ∷ []) 1 8, replicate 5 0 ∷ [] ∷ (8 ∷ 163200 ∷ []) ∷ [] ∷ [])
    -- "net-input 0, if free, takes it"
    ∷ (ran_on (no_site ∷ leaves ∷ no_site ∷ []) 1 10, changed ∷ [] ∷ (0 ∷ 163000 ∷ 0 ∷ 10 ∷ 1 ∷ 631 ∷ []) ∷ [] ∷ [])
    -- "The answer is 2 with packet and site where the operator serviced, else 1 if anything in the state changed"
    ∷ (ran_on (no_site ∷ arrives ∷ no_site ∷ []) 1 11, (0 ∷ 2 ∷ 6 ∷ 1 ∷ 0 ∷ []) ∷ [] ∷ (10 ∷ 1 ∷ 610 ∷ []) ∷ [] ∷ [])
    ∷ (ran_on (no_site ∷ no_site ∷ arrives ∷ []) 2 11, changed ∷ [] ∷ [] ∷ (10 ∷ 1 ∷ 630 ∷ []) ∷ [])
    -- the timeout: "the input feeding it"
    ∷ (
      ran_on (stalls ∷ no_site ∷ no_site ∷ []) 0 12,
      changed ∷ (3 ∷ 657420 ∷ 1 ∷ 5 ∷ 157310 ∷ 11 ∷ 1 ∷ 570 ∷ []) ∷ [] ∷ [] ∷ [],
    )
    -- "ready when .. its channel's input is open or abort"
    ∷ (
      ran_on (finishing (Open Unicast) (Aborted SomeLocal)) 0 0,
      changed
          ∷ (5 ∷ 157013 ∷ 6 ∷ 152011 ∷ 7 ∷ 154011 ∷ [])
          ∷ (2 ∷ 257120 ∷ 1 ∷ 5 ∷ 157210 ∷ [])
          ∷ (1 ∷ 657420 ∷ 1 ∷ 5 ∷ 157110 ∷ [])
          ∷ [],
    )
    ∷ (
      ran_on (finishing (Open Unicast) (Wait Passthru)) 0 0,
      changed
          ∷ (0 ∷ 557421 ∷ 7 ∷ 5 ∷ 157010 ∷ 6 ∷ 152010 ∷ 7 ∷ 154010 ∷ [])
          ∷ (2 ∷ 257120 ∷ 1 ∷ 5 ∷ 157210 ∷ [])
          ∷ (1 ∷ 357220 ∷ 1 ∷ 5 ∷ 157110 ∷ [])
          ∷ [],
    )
    -- SEND "appends to the out-queue, not started"
    ∷ (map places (enqueue (no_site ∷ no_site ∷ no_site ∷ []) 2 6 5), [] ∷ [] ∷ (10 ∷ 1 ∷ 650 ∷ []) ∷ [])
    ∷ (
      map places (enqueue (no_site ∷ with_out_queue no_site (out_q (leaving 4 3 true ∷ [])) ∷ no_site ∷ []) 1 7 6),
      [] ∷ (10 ∷ 2 ∷ 431 ∷ 760 ∷ []) ∷ [] ∷ [],
    )
    ∷ []

pub change_read : map (λ row. row.0) changes ≡ map (λ row. row.1) changes
unfolding changes run act blocking_at passes_on failed net_output enqueue in_state seek route or_else spread gather gather_from first_port occupy
    marks_of hears local_output channel_output deliver out_queue operate cut_at give over all sum has plus minus size_in
    lowest count_trailing_zeros
change_read = refl

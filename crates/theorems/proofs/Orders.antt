-- Document 02, L12, worked in editions 1, 2 and 3 on the network of model/proofs/ApartCases.antt: two events far apart in either order;
-- and that the premise is needed: with one channel between the sites, and at one site, the order of two RUNs matters. Each row is what
-- the definitions compute beside what the document says. Assumes nothing.
use Prim.Native.Nat.{ℕ}
use mathlib.Core.Path.{◌≡◌, refl, ap}
use mathlib.Core.List.{List, [], ◌∷◌, ◌++◌, map}
use mathlib.Core.Bool.{true, false}
use native.Mathlib.Omega.{arith}
use lib.Count.{count_trailing_zeros}
use Rattle.base.specs.All.{all, any}
use Rattle.base.specs.Over.{over}
use Rattle.base.specs.Sums.{sum}
use Rattle.sets.specs.Sets.{has, plus, minus, size_in, lowest, those}
use Rattle.types.specs.Numbers.{state_number}
use Rattle.theorems.specs.Names.{Unicast, Open, t_none, Input, Site, State}
use Rattle.model.specs.Types.{no_site, no_state, site_at, in_at, with_out_queue, set_in, set_out, set_site}
use Rattle.model.specs.Network.{network_refusal}
use Rattle.model.specs.Range.{in_range}
use Rattle.model.specs.Router.{first_port, gather_from, gather, spread, branch, or_else, route, blocks, ask}
use Rattle.model.specs.NetInput.{hears, give, occupy, marks_of, seek, in_state, failed, passes_on}
use Rattle.model.specs.Places.{deliver, channel_output, out_queue}
use Rattle.model.specs.Steps.{net_output, act, run, blocking_at, enqueue}
use Rattle.model.specs.Events.{Event, Send, Run, run_refusal, send_refusal, ran, sent, final}
use Rattle.model.specs.Apart.{answer_numbers, answers_to}
use Rattle.model.proofs.ApartCases.{fed}
use Rattle.model.proofs.Shown.{of_input, out, leaving, out_q}

-- a site that sends packet q to {1}: its net-input 0 is open on output 1, which has not passed the head on
sending : ℕ → Site
sending q =
    let marks = false ∷ true ∷ false ∷ false ∷ false ∷ false ∷ [] in
    let y : Input = record { set = 2; phase = Open Unicast; outputs = marks; packet = q; tries = 0 } in
    set_out (set_in (with_out_queue no_site (out_q (leaving q 2 true ∷ []))) 0 y) 1 (out q 2 0 false t_none)

-- sites 0 and 2, which both feed site 1, send to it
pub begun : State
begun = record { sites = set_site (set_site no_state.sites 0 (sending 0)) 2 (sending 1); counter = 2 }

-- what e and then f are answered; net-input 0 of site 0, and 1 and 2 of site 1 after them
seen : ℕ → Event → Event → List (List ℕ)
seen edition e f =
    let n = fed edition in
    let xs = (final n begun (e ∷ f ∷ [])).sites in
    let inputs = in_at (site_at xs 0) 0 ∷ in_at (site_at xs 1) 1 ∷ in_at (site_at xs 1) 2 ∷ [] in
    map answer_numbers (answers_to n begun (e ∷ f ∷ [])) ++ map of_input inputs

-- the answers 1 and 0; 9; an open net-input of packet 0 on output 1, and a free one
changed : List ℕ
changed = 0 ∷ 1 ∷ 0 ∷ 0 ∷ 0 ∷ []

nothing : List ℕ
nothing = 0 ∷ 0 ∷ 0 ∷ 0 ∷ 0 ∷ []

refused : List ℕ
refused = 9 ∷ 0 ∷ 0 ∷ 0 ∷ 0 ∷ []

onto : List ℕ
onto = 202100 ∷ 2 ∷ []

free : List ℕ
free = 0 ∷ 0 ∷ []

pub orders : ℕ → List (List (List ℕ) × List (List ℕ))
orders edition =
    -- "the same final state and each its same answer, whichever comes first": both pass a head to site 1
    (seen edition (Run 0 6) (Run 2 6), changed ∷ changed ∷ onto ∷ (102000 ∷ 0 ∷ []) ∷ (112000 ∷ 0 ∷ []) ∷ [])
    ∷ (seen edition (Run 2 6) (Run 0 6), changed ∷ changed ∷ onto ∷ (102000 ∷ 0 ∷ []) ∷ (112000 ∷ 0 ∷ []) ∷ [])
    -- one of them refused; RUN beside SEND
    ∷ (seen edition (Run 0 6) (Run 4 6), changed ∷ refused ∷ onto ∷ (102000 ∷ 0 ∷ []) ∷ free ∷ [])
    ∷ (seen edition (Run 4 6) (Run 0 6), refused ∷ changed ∷ onto ∷ (102000 ∷ 0 ∷ []) ∷ free ∷ [])
    ∷ (seen edition (Run 0 6) (Send 2 8), changed ∷ (0 ∷ 2 ∷ []) ∷ onto ∷ (102000 ∷ 0 ∷ []) ∷ free ∷ [])
    ∷ (seen edition (Send 2 8) (Run 0 6), (0 ∷ 2 ∷ []) ∷ changed ∷ onto ∷ (102000 ∷ 0 ∷ []) ∷ free ∷ [])
    -- a channel between them: the net-input at its end meets the head, or not yet
    ∷ (seen edition (Run 0 6) (Run 1 1), changed ∷ changed ∷ onto ∷ (202100 ∷ 1 ∷ []) ∷ free ∷ [])
    ∷ (seen edition (Run 1 1) (Run 0 6), nothing ∷ changed ∷ onto ∷ (102000 ∷ 0 ∷ []) ∷ free ∷ [])
    -- at one site: net-input 0 receives the end while it is open, or has gone to wait before
    ∷ (seen edition (Run 0 10) (Run 0 0), changed ∷ changed ∷ (502101 ∷ 2 ∷ []) ∷ free ∷ free ∷ [])
    ∷ (seen edition (Run 0 0) (Run 0 10), changed ∷ nothing ∷ (302100 ∷ 2 ∷ []) ∷ free ∷ free ∷ [])
    -- two SENDs: the first takes the lower number
    ∷ (seen edition (Send 0 8) (Send 2 8), (0 ∷ 2 ∷ []) ∷ (0 ∷ 3 ∷ []) ∷ onto ∷ free ∷ free ∷ [])
    ∷ (seen edition (Send 2 8) (Send 0 8), (0 ∷ 2 ∷ []) ∷ (0 ∷ 3 ∷ []) ∷ onto ∷ free ∷ free ∷ [])
    ∷ []

pub orders_read : map (λ e. map (λ row. row.0) (orders e)) (1 ∷ 2 ∷ 3 ∷ []) ≡ map (λ e. map (λ row. row.1) (orders e)) (1 ∷ 2 ∷ 3 ∷ [])
unfolding orders seen sending begun changed nothing refused onto free answers_to final ran sent run_refusal send_refusal
    network_refusal in_range all any over sum has plus minus size_in lowest those count_trailing_zeros first_port gather_from gather spread branch
    or_else route blocks ask hears give occupy marks_of seek in_state failed passes_on deliver channel_output out_queue net_output act run
    blocking_at enqueue
orders_read = refl

-- ---- the premise is needed

-- the state number of net-input i of site s
phase : ℕ → ℕ → State → ℕ
phase s i st = state_number (in_at (site_at st.sites s) i).phase

pub channel_needed : let n = fed 1 in (ran n (ran n begun 0 6).state 1 1).state ≡ (ran n (ran n begun 1 1).state 0 6).state → ⊥
unfolding sending begun phase ran run_refusal network_refusal in_range all any over sum has plus minus size_in lowest count_trailing_zeros
    first_port gather_from gather spread or_else route hears give occupy marks_of seek in_state deliver channel_output net_output act run
channel_needed h = let e : ◌≡◌ {A = ℕ} 2 1 = ap (phase 1 1) h in omega arith

pub other_site_needed : let n = fed 1 in (ran n (ran n begun 0 10).state 0 0).state ≡ (ran n (ran n begun 0 0).state 0 10).state → ⊥
unfolding sending begun phase ran run_refusal network_refusal in_range all any over hears give in_state out_queue act run
other_site_needed h = let e : ◌≡◌ {A = ℕ} 5 3 = ap (phase 0 0) h in omega arith

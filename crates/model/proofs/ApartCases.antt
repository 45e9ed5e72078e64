-- Far apart, typed from document 02, L12: which sites of a network with channels one way, which events and which lists of events are; and
-- whose is what in a recording that two share. Each row is what the definitions compute beside what the document says. Assumes nothing.
use Prim.Native.Nat.{ℕ}
use mathlib.Core.Path.{◌≡◌, refl}
use mathlib.Core.List.{List, [], ◌∷◌, map}
use mathlib.Core.Logic.{◌⊎◌, inl, inr}
use Rattle.base.specs.Sizes.{no_channel}
use Rattle.base.specs.All.{all, any}
use Rattle.base.specs.Bools.{count}
use Rattle.model.specs.Types.{Network}
use Rattle.model.specs.Network.{network_refusal}
use Rattle.model.specs.Events.{Event, Send, Run}
use Rattle.model.specs.Apart.{far_apart, events_apart, apart_from, lists_apart, of_first, of_second, of_both}
use Rattle.model.proofs.Made.{net_in}

-- sites 0 and 2 feed site 1, 1 feeds 3 by its port 4, 3 feeds 0 and itself; room beyond the four sites holds zeros, channels to site 0
abbrev pub fed : ℕ → Network
fed edition =
    let none = no_channel in
    net_in 2 edition 0 0 4 3 2
    (4 ∷ none ∷ none ∷ none ∷ none ∷ none ∷ none ∷ 12 ∷ 5 ∷ none ∷ none ∷ none ∷ 0 ∷ 13 ∷ none ∷ none ∷ [])
    (0 ∷ 4096 ∷ 4096 ∷ 4096 ∷ 16384 ∷ 0 ∷ 16384 ∷ 16384 ∷ 4096 ∷ 4096 ∷ 0 ∷ 4096 ∷ 4096 ∷ 4096 ∷ 4096 ∷ 0 ∷ [])

pub fed_valid : map (λ e. network_refusal (fed e)) (1 ∷ 2 ∷ 3 ∷ []) ≡ 0 ∷ 0 ∷ 0 ∷ []
unfolding network_refusal all any
fed_valid = refl

-- ---- sites and events

-- which of the sites 0 to 3, and of site 4, which there is not, are far apart from site s
from : ℕ → List ℕ
from s = map (λ u. count (far_apart (fed 1) s u)) (0 ∷ 1 ∷ 2 ∷ 3 ∷ 4 ∷ [])

apart : Event → List ℕ
apart e = map (λ f. count (events_apart (fed 1) e f)) (Run 0 6 ∷ Run 1 1 ∷ Run 2 6 ∷ Send 0 1 ∷ Send 2 1 ∷ [])

lists : List Event → List Event → List ℕ
lists es fs = count (lists_apart (fed 1) es fs) ∷ count (lists_apart (fed 1) fs es) ∷ []

-- what is the first one's, the second one's, the first one's
between : List (ℕ ⊎ ℕ)
between = inl 7 ∷ inr 8 ∷ inl 9 ∷ []

pub sites : List (List ℕ × List ℕ)
sites =
    -- "at different sites with no channel between them in either direction"; that two feed one third site does not join them
    (from 0, 0 ∷ 0 ∷ 1 ∷ 0 ∷ 1 ∷ [])
    ∷ (from 1, 0 ∷ 0 ∷ 0 ∷ 0 ∷ 1 ∷ [])
    ∷ (from 2, 1 ∷ 0 ∷ 0 ∷ 1 ∷ 1 ∷ [])
    ∷ (from 3, 0 ∷ 0 ∷ 1 ∷ 0 ∷ 1 ∷ [])
    -- a site that there is not has no channel
    ∷ (from 4, 1 ∷ 1 ∷ 1 ∷ 1 ∷ 0 ∷ [])
    -- "two RUN events"; RUN beside SEND; two SENDs
    ∷ (apart (Run 0 10), 0 ∷ 0 ∷ 1 ∷ 0 ∷ 1 ∷ [])
    ∷ (apart (Run 3 10), 0 ∷ 0 ∷ 1 ∷ 0 ∷ 1 ∷ [])
    ∷ (apart (Send 0 1), 0 ∷ 0 ∷ 1 ∷ 0 ∷ 0 ∷ [])
    ∷ (apart (Send 2 1), 1 ∷ 0 ∷ 0 ∷ 0 ∷ 0 ∷ [])
    -- each of one list from each of the other
    ∷ (lists (Run 0 6 ∷ Send 0 1 ∷ Run 3 1 ∷ []) (Run 2 6 ∷ Run 2 10 ∷ []), 1 ∷ 1 ∷ [])
    ∷ (lists (Run 0 6 ∷ Run 1 1 ∷ []) (Run 2 6 ∷ Run 2 10 ∷ []), 0 ∷ 0 ∷ [])
    ∷ (lists (Run 0 6 ∷ Run 0 1 ∷ []) (Run 2 6 ∷ Run 3 10 ∷ []), 0 ∷ 0 ∷ [])
    ∷ (lists (Run 0 6 ∷ Send 0 1 ∷ []) (Send 2 1 ∷ []), 0 ∷ 0 ∷ [])
    ∷ (lists [] (Send 2 1 ∷ Run 0 1 ∷ []), 1 ∷ 1 ∷ [])
    -- "Users split long recordings between them."
    ∷ (of_first between, 7 ∷ 9 ∷ [])
    ∷ (of_second between, 8 ∷ [])
    ∷ (of_both between, 7 ∷ 8 ∷ 9 ∷ [])
    ∷ []

pub sites_read : map (λ row. row.0) sites ≡ map (λ row. row.1) sites
unfolding sites from apart lists between far_apart apart_from lists_apart of_first of_second of_both any
sites_read = refl

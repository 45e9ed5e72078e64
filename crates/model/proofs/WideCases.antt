-- Tables typed from document 02, L4, L6 and L10: version, edition, sites and channels of both versions, in the order 2, 17, 3, 6, 7;
-- and the last of 64 sites: its bit in a set, its own service.
use Prim.Native.Nat.{ℕ, ◌+◌, ◌-◌, ◌^◌}
use mathlib.Core.Path.{◌≡◌, refl}
use mathlib.Core.List.{List, [], ◌∷◌, ◌++◌, map}
use lib.ListN.{replicate}
use Rattle.base.specs.Sizes.{no_channel}
use Rattle.base.specs.All.{all}
use Rattle.sets.specs.Sets.{has, minus}
use Rattle.types.specs.Numbers.{ran_numbers}
use Rattle.model.specs.Types.{Network, Site, InEntry, t_none, t_end, t_keep, no_site, no_state, set_queue, set_site}
use Rattle.model.specs.Network.{network_refusal}
use Rattle.model.specs.Places.{operate}
use Rattle.model.specs.Steps.{act, run}
use Rattle.model.specs.Events.{send_fault_by}
use Rattle.model.proofs.Made.{net_in}
use Rattle.model.proofs.Shown.{arrived, in_q}

-- ---- networks

-- one site, its output 1 joined to its own input 1
abbrev one : ℕ → ℕ → Network
one version edition = net_in version edition 0 0 1 1 1 (0 ∷ no_channel ∷ no_channel ∷ no_channel ∷ []) []

-- S sites of edition 1 with these channels, none behind them, and no route: 7, if nothing earlier holds
abbrev bare : ℕ → ℕ → List ℕ → Network
bare version S cs = net_in version 1 no_channel 0 S 3 1 cs []

-- the same of edition 4
abbrev unknown : ℕ → ℕ → List ℕ → Network
unknown version S cs = net_in version 4 no_channel 0 S 3 1 cs []

pub networks : List (Network × ℕ)
networks =
    -- "2 means neither 1 nor 2"
    (one 1 1, 0)
    ∷ (one 2 1, 0)
    ∷ (one 0 1, 2)
    ∷ (one 3 1, 2)
    ∷ (one 255 1, 2)
    -- "17, an edition unknown or not 1 in version 1"
    ∷ (one 2 0, 17)
    ∷ (one 2 4, 17)
    ∷ (one 2 255, 17)
    ∷ (one 1 0, 17)
    ∷ (one 1 2, 17)
    ∷ (one 1 3, 17)
    -- L6: "17 accepts edition 2"
    ∷ (one 2 2, 0)
    ∷ (net_in 2 2 no_channel 0 65 3 1 (65534 ∷ []) [], 3)
    ∷ (net_in 1 2 no_channel 0 17 3 1 (65534 ∷ []) [], 17)
    -- L10: "17 accepts edition 3"
    ∷ (one 2 3, 0)
    ∷ (net_in 2 3 no_channel 0 65 3 1 (65534 ∷ []) [], 3)
    ∷ (net_in 1 3 no_channel 0 17 3 1 (65534 ∷ []) [], 17)
    ∷ (one 3 3, 2)
    -- 2 before 17, 17 before 3
    ∷ (one 3 2, 2)
    ∷ (one 0 2, 2)
    ∷ (unknown 3 65 (65534 ∷ []), 2)
    ∷ (unknown 2 65 (65534 ∷ []), 17)
    ∷ (unknown 1 17 (65534 ∷ []), 17)
    -- "Version 1 keeps its 16 sites", "3 allows 64 sites in version 2"; 3 before 6
    ∷ (bare 1 16 [], 7)
    ∷ (bare 1 17 (65534 ∷ []), 3)
    ∷ (bare 1 64 [], 3)
    ∷ (bare 2 16 [], 7)
    ∷ (bare 2 17 [], 7)
    ∷ (bare 2 64 [], 7)
    ∷ (bare 2 65 (65534 ∷ []), 3)
    ∷ (bare 2 0 [], 3)
    -- "65535 for none; 255 is now a real input", which no network of fewer than 64 sites has
    ∷ (bare 1 16 (255 ∷ []), 6)
    ∷ (bare 1 16 (no_channel ∷ []), 7)
    ∷ (bare 1 16 (63 ∷ []), 7)
    ∷ (bare 1 16 (64 ∷ []), 6)
    ∷ (bare 2 63 (255 ∷ []), 6)
    ∷ (bare 2 64 (255 ∷ []), 7)
    ∷ (bare 2 64 (256 ∷ []), 6)
    ∷ (bare 2 64 (65534 ∷ []), 6)
    ∷ (bare 2 64 (no_channel ∷ []), 7)
    -- the last input fed by the first and by the last channel
    ∷ (bare 2 64 (255 ∷ replicate 254 no_channel ++ (255 ∷ [])), 6)
    ∷ (bare 2 64 (254 ∷ replicate 254 no_channel ++ (255 ∷ [])), 7)
    ∷ []

pub judged : map (λ c. network_refusal c.0) networks ≡ map (λ c. c.1) networks
unfolding networks network_refusal all
judged = refl

-- ---- SEND of site s with the set X in S sites, nothing else against it: 9, 10 or none

abbrev send : ℕ → ℕ → ℕ → ℕ
send S s X = send_fault_by S 8 0 0 s X

pub sends : send 64 63 (2 ^ 63) ∷ send 64 63 (2 ^ 64 - 1) ∷ send 64 64 1 ∷ send 64 0 0 ∷ send 63 63 1 ∷ send 63 62 (2 ^ 63)
    ∷ send 63 62 (2 ^ 62) ∷ send 17 16 (2 ^ 16) ∷ send 16 15 (2 ^ 16) ∷ []
    ≡ 0 ∷ 0 ∷ 9 ∷ 10 ∷ 9 ∷ 10 ∷ 0 ∷ 0 ∷ 10 ∷ []
sends = refl

-- ---- the operator of site 63, an entry of packet 7 at the in-queue's front: answer, packet, site

abbrev sites : InEntry → List Site
sites a = set_site no_state.sites 63 (set_queue no_site 0 (in_q (a ∷ [])))

abbrev answer : InEntry → List ℕ
answer a = ran_numbers (run (bare 2 64 []) (sites a) 63 11).answer 0

pub last_site : answer (arrived 7 (2 ^ 63) t_end) ∷ answer (arrived 7 (2 ^ 63 + 1) t_keep) ∷ answer (arrived 7 1 t_end)
    ∷ answer (arrived 7 (2 ^ 63) t_none) ∷ []
    ≡ (0 ∷ 2 ∷ 7 ∷ 63 ∷ 0 ∷ []) ∷ (0 ∷ 2 ∷ 7 ∷ 63 ∷ 0 ∷ []) ∷ (0 ∷ 1 ∷ 0 ∷ 0 ∷ 0 ∷ []) ∷ replicate 5 0 ∷ []
unfolding run act operate has minus
last_site = refl

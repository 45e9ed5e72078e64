-- Networks and runs for the computed tables: what a table names, and room behind it. Assumes nothing.
use Prim.Native.Nat.{ℕ, ◌-◌, ◌*◌}
use mathlib.Core.List.{List, ◌++◌}
use lib.ListN.{length, replicate}
use Rattle.base.specs.Sizes.{sites_most, port_count, sends_most, no_channel}
use Rattle.model.specs.Types.{Network, StoredSend, Run as StoredRun, send_d}

-- a list, and so many x behind it that there are n
abbrev pub filled : {A : Type 0} → ℕ → A → List A → List A
filled n x l = l ++ replicate (n - length l) x

-- version and edition, S, T, D, the channels and the routes; the room behind them holds x and y
abbrev pub net_in : ℕ → ℕ → ℕ → ℕ → ℕ → ℕ → ℕ → List ℕ → List ℕ → Network
net_in version edition x y S T D cs rs =
    record {
      sites = S;
      depth = D;
      tries = T;
      version = version;
      edition = edition;
      channels = filled (port_count * sites_most) x cs;
      routes = filled (sites_most * sites_most) y rs;
    }

-- the same in version 1 and edition 1
abbrev pub net_with : ℕ → ℕ → ℕ → ℕ → ℕ → List ℕ → List ℕ → Network
net_with x y S T D cs rs = net_in 1 1 x y S T D cs rs

-- the same, no channel and no route behind them
abbrev pub net : ℕ → ℕ → ℕ → List ℕ → List ℕ → Network
net S T D cs rs = net_with no_channel 0 S T D cs rs

-- a network, a seed, the number of draws, the sends
abbrev pub run_on : Network → ℕ → ℕ → List StoredSend → StoredRun
run_on n seed draws l = record { network = n; seed = seed; draws = draws; count = length l; sends = filled sends_most send_d l }

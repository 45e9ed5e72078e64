-- Where an archive is at fault: the number that the reader gives, and for 6, 7 and 8 the first channel, route or send
-- that the model's own test of one turns down. Assumes nothing.
use Rattle.std.specs.Prelude.{Bool, cond, List, ℕ, ◌*◌, ◌/◌, ◌%◌, eqb, Option, Some, None}
use Rattle.base.specs.Sizes.{port_count}
use Rattle.types.specs.declared.Network.{Network}
use Rattle.types.specs.declared.Run.{Run}
use Rattle.model.specs.Network.{channel_ok, route_ok}
use Rattle.model.specs.Runs.{send_ok}
use Rattle.format.specs.Format.{run_of}
use Rattle.format.specs.Refusals.{read_refusal}
use Rattle.base.specs.Refusals.{number}
use Rattle.format.specs.declared.Fault.{Fault as Found}
use Rattle.format.specs.First.{first}

-- routes by number: route s x S + t is that from site s to site t
abbrev pub numbered_ok : Network → ℕ → Bool
numbered_ok n k = route_ok n (k / n.sites) (k % n.sites)

-- what refusal f is judged over: 6 the channels (4 x site + port - 1), 7 the routes, 8 the sends, else nothing; how many
-- there are with S sites and N sends, and the test of number k
unfoldable pub item_count : ℕ → ℕ → ℕ → ℕ
item_count f S N = cond (eqb f 6) (port_count * S) (cond (eqb f 7) (S * S) (cond (eqb f 8) N 0))

unfoldable pub item_ok : ℕ → Run → ℕ → Bool
item_ok f R k = cond (eqb f 6) (channel_ok R.network k) (cond (eqb f 7) (numbered_ok R.network k) (send_ok R k))

-- the number of the first that fails
unfoldable pub place_of : ℕ → Run → ℕ
place_of f R = first (item_ok f R) (item_count f R.network.sites R.count)

-- what the reader turns these bytes down for, and where; 0 and 0 for an archive
pub record Fault : Type 0 where
  pub refusal : ℕ
  pub place : ℕ

-- an answer of the code in these words
abbrev pub told_fault : Option Found → Fault
told_fault None = record { refusal = 0; place = 0 }
told_fault (Some f) = record { refusal = number f.refusal; place = f.place }

unfoldable pub fault_of : List ℕ → Fault
fault_of b = record { refusal = read_refusal b; place = place_of (read_refusal b) (run_of b) }

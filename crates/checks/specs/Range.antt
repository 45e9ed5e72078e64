-- Parts of the model's test of a site, as the functions of this crate make them. Assumes nothing.
use Rattle.std.specs.Prelude.{Bool, not, ◌&&◌, List, ℕ, get_or}
use Rattle.base.specs.Sizes.{input_count, output_count, split_port, in_queue_count}
use Rattle.base.specs.Bools.{implies, alike}
use Rattle.base.specs.All.{all}
use Rattle.model.specs.Types.{Input, Output, InQueue, Phase, input_d, in_queue_d, out_of, mark}
use Rattle.model.specs.Range.{any_mark, any_remote, fed_by, connection_in, input_ok, output_ok, in_queue_ok, depth_of}
use Rattle.types.specs.Phases.{connected, splitting, branching, aborting}

-- the last two clauses of input_ok, by whether the split output is marked
abbrev pub branch_ok : ℕ → Phase → Bool → Bool
branch_ok edition ph b = alike b (branching ph) && connection_in edition ph

-- the last six: what the marks of net-input i say, in this state and with the site's outputs os
abbrev pub connection_ok : ℕ → List Output → ℕ → Phase → List Bool → Bool
connection_ok edition os i ph bs =
    alike (any_mark bs) (connected ph)
    && all (λ j. implies (mark bs j) (fed_by i (out_of os j))) output_count
    && implies (splitting ph) (mark bs 0)
    && implies (aborting ph) (splitting ph && not (any_remote bs))
    && branch_ok edition ph (mark bs split_port)

-- the first two clauses of site_ok
abbrev pub net_places_ok : ℕ → ℕ → ℕ → ℕ → List Input → List Output → Bool
net_places_ok edition S T k is os =
    all (λ i. input_ok edition S T k os i (get_or is i input_d)) input_count
    && all (λ j. output_ok edition S k j (out_of os j)) output_count

-- the last: both in-queues
abbrev pub in_queues_ok : ℕ → ℕ → ℕ → ℕ → List InQueue → Bool
in_queues_ok edition S D k iqs = all (λ m. in_queue_ok S (depth_of edition D m) k (get_or iqs m in_queue_d)) in_queue_count

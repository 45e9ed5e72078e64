-- The lengths of a state's arrays, which the types give: what theorems about any state in range ask of it.
use Rattle.std.specs.Prelude.{ℕ, ◌<◌, ◌≡◌, length}
use Rattle.base.specs.Sizes.{sites_most, input_count, output_count, in_queue_count, queue_room}
use Rattle.model.specs.Types.{Site, State, site_at, in_at, queue_at}

pub record SiteShaped (x : Site) : Type 0 where
  pub inputs : length x.inputs ≡ input_count
  pub marks : (i : ℕ) → i < input_count → length (in_at x i).outputs ≡ output_count
  pub outputs : length x.outputs ≡ output_count
  pub outgoing : length x.outgoing.entries ≡ queue_room
  pub incoming : length x.incoming ≡ in_queue_count
  pub arrived : (m : ℕ) → m < in_queue_count → length (queue_at x m).entries ≡ queue_room

pub record Shaped (st : State) : Type 0 where
  pub all_sites : length st.sites ≡ sites_most
  pub site : (s : ℕ) → s < sites_most → SiteShaped (site_at st.sites s)

-- The small numbers of a state are bytes, which the types give: what the words of any state ask of it.
use Rattle.std.specs.Prelude.{ℕ, ◌<◌}
use Rattle.base.specs.Sizes.{sites_most, input_count, output_count, in_queue_count, queue_room}
use Rattle.types.specs.declared.Site.{Site}
use Rattle.types.specs.declared.State.{State}
use Rattle.model.specs.Types.{site_at, in_at, out_at, out_entry, queue_at, in_entry}

pub record SiteBytes (x : Site) : Type 0 where
  pub packet : (i : ℕ) → i < input_count → (in_at x i).packet < 256
  pub tries : (i : ℕ) → i < input_count → (in_at x i).tries < 256
  pub passed : (j : ℕ) → j < output_count → (out_at x j).packet < 256
  pub feeder : (j : ℕ) → j < output_count → (out_at x j).input < 256
  pub leaving : (m : ℕ) → m < queue_room → (out_entry x.outgoing m).packet < 256
  pub arrived : (q m : ℕ) → q < in_queue_count → m < queue_room → (in_entry (queue_at x q) m).packet < 256

pub record Bytes (st : State) : Type 0 where
  pub site : (s : ℕ) → s < sites_most → SiteBytes (site_at st.sites s)
  pub counter : st.counter < 256

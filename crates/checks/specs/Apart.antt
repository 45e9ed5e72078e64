-- A channel and the site at its end, as a test of numbers. Assumes nothing.
use Rattle.std.specs.Prelude.{Bool, ◌&&◌, ℕ, eqb}
use Rattle.model.specs.Network.{is_channel, end_site}

-- what the model's `leads` asks of each port: it has a channel, and that ends at site u
abbrev pub ends_at : ℕ → ℕ → Bool
ends_at c u = is_channel c && eqb (end_site c) u

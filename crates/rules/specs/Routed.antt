-- Routes of sites that the router can be asked about. Assumes nothing.
use Rattle.std.specs.Prelude.{ℕ, ◌*◌, ◌≤◌, ◌<◌, ◌≡◌, List, length}
use Rattle.base.specs.Sizes.{sites_most}

-- routes l of S sites, s one of them, in room for all
pub record Routed (l : List ℕ) (S s : ℕ) : Type 0 where
  pub site : s < S
  pub few : S ≤ sites_most
  pub room : length l ≡ sites_most * sites_most

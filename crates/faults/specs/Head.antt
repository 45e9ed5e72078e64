-- Bytes that are not refused for their head, 1 to 5 and 17, by what these tests say of them. Assumes nothing.
use Rattle.std.specs.Prelude.{◌≡◌, true, List, ℕ, ◌*◌, ◌≤◌, length}
use Rattle.base.specs.Sizes.{sites_most}
use Rattle.model.specs.Network.{version_ok, edition_ok, sizes_ok}
use Rattle.format.specs.Format.{word, quad, seed_place, head_length, length_with, version_of, sites_of, count_of, network_of}

pub record Head (b : List ℕ) : Type 0 where
  pub enough : head_length (version_of b) ≤ length b
  pub field : word b 0 ≡ length b
  pub known : version_ok (network_of b) ≡ true
  pub edition : edition_ok (network_of b) ≡ true
  pub sizes : sizes_ok (network_of b) ≡ true
  pub some : 1 ≤ sites_of b
  pub few : sites_of b ≤ sites_most
  pub square : sites_of b * sites_of b ≤ sites_most * sites_most
  pub seed : quad b (seed_place (version_of b)) ≡ 0 → ⊥
  pub size : length b ≡ length_with (version_of b) (sites_of b) (count_of b)

-- such bytes, with the version and S as they were read
pub record Read (b : List ℕ) (v S : ℕ) : Type 0 where
  pub head : Head b
  pub version : v ≡ version_of b
  pub sites : S ≡ sites_of b

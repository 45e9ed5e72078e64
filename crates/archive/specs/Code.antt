-- What the functions of this crate ask and compute on the way: a network and a number of sends that an archive can
-- hold, a file that can be moved, the writer's first refusals, the front of an archive. Assumes nothing.
use Rattle.std.specs.Prelude.{◌≡◌, ◌⊎◌, Bool, ◌||◌, cond, List, ℕ, ◌+◌, ◌*◌, ◌≤◌, ◌<◌, eqb, leb}
use Rattle.base.specs.Sizes.{sites_most, port_count, queue_room, sends_most, no_channel}
use Rattle.base.specs.Put.{put}
use Rattle.types.specs.declared.Network.{Network}
use Rattle.model.specs.Network.{kind_then, sizes_ok, joins_then}
use Rattle.format.specs.Format.{at, word, quad, sites_place, head_length, routes_place, start_with, fields_with, channel_bytes}
use Rattle.format.specs.Format.{route_bytes, channels_of, version_of, sites_of}
use Rattle.faults.specs.Head.{Head}

-- a channel fits the byte that it has in version 1, where 255 stands for none; each of n channels does
abbrev pub Narrow : ℕ → ℕ → Type 0
Narrow v x = v ≡ 1 → (x ≡ no_channel) ⊎ (x < 255)

abbrev pub AllNarrow : ℕ → List ℕ → ℕ → Type 0
AllNarrow v channels n = (c : ℕ) → c < n → Narrow v (at channels c)

-- a network and a number of sends within what an archive can hold
pub record Fit (n : Network) (N : ℕ) : Type 0 where
  pub few : n.sites ≤ sites_most
  pub square : n.sites * n.sites ≤ sites_most * sites_most
  pub deep : n.depth ≤ queue_room
  pub narrow : AllNarrow n.version n.channels (port_count * n.sites)
  pub count : N ≤ sends_most

-- bytes whose head passed, of version `from`, whose run is one that an archive of version `to` can hold
pub record Movable (b : List ℕ) (from to : ℕ) : Type 0 where
  pub head : Head b
  pub version : from ≡ version_of b
  pub narrow : AllNarrow to (channels_of from b (port_count * sites_of b)) (port_count * sites_of b)

-- the bytes of S, T, D, seed, draws and N, as bytes b have them from place p on
abbrev pub fields_in : List ℕ → ℕ → List ℕ
fields_in b p = fields_with (at b p) (at b (p + 1)) (at b (p + 2)) (quad b (p + 3)) (word b (p + 7)) (at b (p + 9))

-- 2, 17 or 3: what stands before the writer's 4 and 5
abbrev pub early : ℕ → Bool
early f = eqb f 2 || eqb f 17 || eqb f 3

-- 2, 17 and 3 to 7 of the writer, or 0, from the network, the seed and the number of sends
unfoldable pub front_refusal : Network → ℕ → ℕ → ℕ
front_refusal n seed N =
    kind_then n (cond (sizes_ok n) (cond (eqb seed 0) 4 (cond (leb N sends_most) (joins_then n 0) 5)) 3)

-- head, channels and routes of an archive of so many bytes, put into a list
abbrev pub put_front : Network → ℕ → ℕ → ℕ → ℕ → List ℕ → List ℕ
put_front n seed draws N size out =
    let v = n.version in
    let start = put out 0 (start_with v n.edition size) in
    let head = put start (sites_place v) (fields_with n.sites n.tries n.depth seed draws N) in
    let joined = put head (head_length v) (channel_bytes v n.channels (port_count * n.sites)) in
    put joined (routes_place v n.sites) (route_bytes n.routes (n.sites * n.sites))

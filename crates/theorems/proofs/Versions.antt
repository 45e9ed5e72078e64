-- Document 02, L5, "The run played is the same before and after": the version that a run is stored in is looked at by its
-- refusals alone. Assumes nothing.
use Prim.Native.Nat.{ℕ, zero, suc, ◌≤◌}
use mathlib.Core.Path.{◌≡◌, refl, sym, ap, ◌∙◌}
use mathlib.Core.Bool.{true}
use borrow.Author.Tests.{ne_eqb, le-leb}
use Rattle.base.specs.Sizes.{sends_most, queue_room}
use Rattle.theorems.specs.Names.{Network, Run as StoredRun}
use Rattle.model.specs.Network.{version_ok, edition_ok, sites_in, sizes_ok, network_under}
use Rattle.model.specs.Runs.{body_refusal, stored_refusal, under, script_to, script, played_run, played_singly, unplayed}
use Rattle.theorems.proofs.Networks.{sizes_at}
use Rattle.theorems.proofs.SoundRuns.{sound}
use Rattle.theorems.proofs.RoomLaws.{joins_same}
use Rattle.theorems.proofs.Played.{stored_network, played_singly_lem}
use Rattle.theorems.proofs.Alike.{alike_singly}

-- ---- the refusals

-- S, T and D within their limits, S within those of the other version
pub under_sizes : (v : ℕ) (n : Network) → sizes_ok n ≡ true → n.sites ≤ sites_in v → sizes_ok (network_under v n) ≡ true
unfolding network_under
under_sizes v n h few =
    let k = sizes_at n h in
    rw (
      le-leb 1 n.sites k.0,
      le-leb n.sites (sites_in v) few,
      le-leb 1 n.tries k.2,
      le-leb 1 n.depth k.3,
      le-leb n.depth queue_room k.4,
    ) refl

module _ (v : ℕ) (r : StoredRun) where
  -- 6, 7 and 8
  under_body : body_refusal (under v r) ≡ body_refusal r
  unfolding body_refusal under network_under
  under_body =
      let n = r.network in
      joins_same n v n.channels n.routes (λ m l. refl) (λ m l. refl) _

  stored_body : stored_refusal r ≡ 0 → body_refusal r ≡ 0
  unfolding body_refusal
  stored_body h = let k = sound r h in rw (k.channels, k.routes, k.sends) refl

  -- a valid run is one in every version that has its edition and so many sites
  pub under_stored : stored_refusal r ≡ 0 → version_ok (network_under v r.network) ≡ true
      → edition_ok (network_under v r.network) ≡ true → r.network.sites ≤ sites_in v → stored_refusal (under v r) ≡ 0
  unfolding stored_refusal under
  under_stored h known edition few =
      let k = sound r h in
      let sizes = under_sizes v r.network k.sizes few in
      rw (known, edition, sizes, ne_eqb r.seed 0 k.seed, le-leb r.count sends_most k.count, under_body)
      (stored_body h)

  -- ---- the run played

  script_to_lem : (d : ℕ) → script_to (under v r) d ≡ script_to r d
  unfolding script_to under network_under
  script_to_lem zero = refl
  script_to_lem (suc d) = rw (script_to_lem d) refl

  under_script : script (under v r) ≡ script r
  unfolding script under
  under_script = rw (script_to_lem r.draws) refl

  pub under_played : stored_refusal r ≡ 0 → stored_refusal (under v r) ≡ 0 → played_run (under v r) ≡ played_run r
  unfolding under network_under
  under_played h h' =
      let n = r.network in
      played_singly_lem (under v r) h'
      ∙ ap (played_singly (network_under v n) unplayed) under_script
      ∙ alike_singly n v n.channels n.routes (λ few m l. refl) (λ few m l. refl)
      (stored_network (under v r) h' ∙ sym (stored_network r h)) unplayed (script r)
      ∙ sym (played_singly_lem r h)

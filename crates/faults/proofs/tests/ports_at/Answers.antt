-- `tests::ports_at` meets its contract: the bytes are those of the site's channels. Assumes nothing.
use mathlib.Core.Path.{◌∙◌}
use Prim.Native.Nat.{ℕ, ◌+◌, ◌*◌, ◌≤◌, ◌<◌}
use native.Mathlib.Omega.{arith}
use lib.ListN.{length}
use Rattle.base.specs.Sizes.{port_count, sites_most}
use Rattle.format.specs.Format.{channel_place}
use Rattle.faults.proofs.Held.{sized, channel_inside, ports_held}
use Rattle.faults.proofs.tests.ports_at.Goals as goal

pub channel_at-first-requires : goal.channel_at-first-requires
channel_at-first-requires c =
    let held : (m : ℕ) → m < port_count * c.args.sites
    → (m < port_count * sites_most) × (channel_place c.args.version m + 2 ≤ length c.args.b.now) =
    λ m l. let args = c.args in (
      omega (arith, (sized _ _ _ c.requires.0).few),
      channel_inside args.b.now args.version args.sites c.requires.0 m l,
    ) in
    held (port_count * c.args.s) (omega (arith, c.requires.1))

pub channel_at-second-requires : goal.channel_at-second-requires
channel_at-second-requires c =
    let held : (m : ℕ) → m < port_count * c.args.sites
    → (m < port_count * sites_most) × (channel_place c.args.version m + 2 ≤ length c.args.b.now) =
    λ m l. let args = c.args in (
      omega (arith, (sized _ _ _ c.requires.0).few),
      channel_inside args.b.now args.version args.sites c.requires.0 m l,
    ) in
    held (port_count * c.args.s + 1) (omega (arith, c.requires.1))

pub channel_at-third-requires : goal.channel_at-third-requires
channel_at-third-requires c =
    let held : (m : ℕ) → m < port_count * c.args.sites
    → (m < port_count * sites_most) × (channel_place c.args.version m + 2 ≤ length c.args.b.now) =
    λ m l. let args = c.args in (
      omega (arith, (sized _ _ _ c.requires.0).few),
      channel_inside args.b.now args.version args.sites c.requires.0 m l,
    ) in
    held (port_count * c.args.s + 2) (omega (arith, c.requires.1))

pub channel_at-last-requires : goal.channel_at-last-requires
channel_at-last-requires c =
    let held : (m : ℕ) → m < port_count * c.args.sites
    → (m < port_count * sites_most) × (channel_place c.args.version m + 2 ≤ length c.args.b.now) =
    λ m l. let args = c.args in (
      omega (arith, (sized _ _ _ c.requires.0).few),
      channel_inside args.b.now args.version args.sites c.requires.0 m l,
    ) in
    held (port_count * c.args.s + 3) (omega (arith, c.requires.1))

pub returns : goal.returns
returns c =
    let args = c.args in
    c.ports_by.ensures
    ∙ ports_held args.b.now args.version args.sites c.requires.0 args.s _ _ _ _ c.requires.1
    c.channel_at-first.ensures c.channel_at-second.ensures c.channel_at-third.ensures c.channel_at-last.ensures

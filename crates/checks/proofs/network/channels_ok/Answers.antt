-- `network::channels_ok` meets its contract: the table of inputs that are fed stands for the test against every
-- channel before. Assumes nothing.
use Rattle.std.proofs.Common.{◌≡◌, ◌*◌, ◌<◌, ◌≤◌, ℕ, List, refl, sym, ◌∙◌, length, take, get_or, rules, arith}
use Rattle.std.proofs.lemmas.List.{get_or-take, length-take-le}
use borrow.Author.Tests.{ltb-false}
use lib.ListN.{length-set}
use Rattle.base.specs.Sizes.{port_count, sites_most, no_channel}
use Rattle.base.specs.All.{all_none}
use Rattle.checks.proofs.NetworkLaws.{fed_none, fed_skip, no_channel_lem, too_high, fed_twice, fed_once, fed_now, input_known, place_at}
use Rattle.checks.proofs.network.channels_ok.Goals as goal

-- a place of the first n channels
module _ (cs : List ℕ) (n i : ℕ) (long : n ≤ length cs) (below : i < length (take n cs)) where
  place_below : i < n
  place_below = omega (arith, length-take-le n cs long, below)

  place_same : get_or (take n cs) i 0 ≡ place_at cs i
  place_same = get_or-take n cs i 0 place_below

pub loop-channel-init : goal.loop-channel-init
loop-channel-init c = (all_none _, fed_none c.args.network.now.channels, refl)

pub loop-channel-preserved-then-channel : goal.loop-channel-preserved-then-channel
loop-channel-preserved-then-channel c =
    let l = c.loop-channel in
    let cs = c.args.network.now.channels in
    let none = sym (place_same cs (port_count * c.args.network.now.sites) l.channel-index (search rules) c.loop-channel-test.true)
    ∙ c.if-channel.true in (
      no_channel_lem cs l.fed _ l.channel-index _ refl l.invariant.0 none,
      fed_skip cs l.fed l.channel-index l.invariant.1 none,
      l.invariant.2,
    )

pub returns-then-not-is_input : goal.returns-then-not-is_input
returns-then-not-is_input c =
    let l = c.loop-channel in
    let n = c.args.network.now in
    let end = port_count * n.sites in
    let long : end ≤ length n.channels = search rules in
    let same = place_same n.channels end l.channel-index long c.loop-channel-test.true in
    too_high n.channels l.fed _ l.channel-index _ same (place_below n.channels end l.channel-index long c.loop-channel-test.true)
    (λ z. c.if-channel.false (same ∙ z)) (ltb-false _ _ (sym c.is_input.ensures ∙ c.if-not-is_input.true))

pub returns-then-fed-input : goal.returns-then-fed-input
returns-then-fed-input c =
    let l = c.loop-channel in
    let n = c.args.network.now in
    let end = port_count * n.sites in
    let long : end ≤ length n.channels = search rules in
    let same = place_same n.channels end l.channel-index long c.loop-channel-test.true in
    let known = input_known _ _ n.sites _ c.wider-input.ensures.0 c.is_input.ensures c.if-not-is_input.false in
    fed_twice n.channels l.fed end l.channel-index _ (c.wider-input.ensures.0 ∙ same) l.invariant.1 l.invariant.2
    (place_below n.channels end l.channel-index long c.loop-channel-test.true) (λ z. c.if-channel.false (same ∙ z)) known
    (omega (arith, c.requires)) c.if-fed-input.true

pub loop-channel-preserved : goal.loop-channel-preserved
loop-channel-preserved c =
    let l = c.loop-channel in
    let n = c.args.network.now in
    let end = port_count * n.sites in
    let long : end ≤ length n.channels = search rules in
    let same = place_same n.channels end l.channel-index long c.loop-channel-test.true in
    let below = place_below n.channels end l.channel-index long c.loop-channel-test.true in
    let known = input_known _ _ n.sites _ c.wider-input.ensures.0 c.is_input.ensures c.if-not-is_input.false in
    let same_input = c.wider-input.ensures.0 ∙ same in
    let other : place_at n.channels l.channel-index ≡ no_channel → ⊥ = λ z. c.if-channel.false (same ∙ z) in
    let few : end ≤ port_count * sites_most = omega (arith, c.requires) in (
      fed_once n.channels l.fed end l.channel-index _ same_input l.invariant.1 l.invariant.2 below other known few
          c.if-fed-input.false l.invariant.0,
      fed_now n.channels l.fed end l.channel-index _ same_input l.invariant.1 l.invariant.2 below other known few,
      simp length-set l.invariant.2,
    )

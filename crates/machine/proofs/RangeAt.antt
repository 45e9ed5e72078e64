-- What the sites of a state in range have: what RUN asks of one. Assumes nothing.
use Prim.Native.Nat.{ℕ, ◌^◌, ◌<◌}
use mathlib.Core.Path.{◌≡◌, refl}
use mathlib.Core.List.{List}
use mathlib.Core.Bool.{Bool, true, false, not, ◌&&◌}
use native.Mathlib.Omega.{arith}
use borrow.Author.Tests.{ltb-true, eqb-true, lt-ltb}
use lib.Dec.{eqb, ltb, leb}
use Rattle.base.specs.Sizes.{sites_most, input_count, output_count, split_port, in_queue_count}
use Rattle.base.specs.Bools.{both, both3, both6, implies, pick, alike, pick_at, either_way}
use Rattle.base.specs.All.{all, all_at}
use Rattle.sets.specs.Sets.{targets}
use Rattle.draws.specs.Draws.{restricted}
use Rattle.sets.proofs.Laws.{targets_at}
use Rattle.types.specs.declared.Phase.TheVariants.{the_data as Phase, Free, Seek, Open, Wait, Done, Last, Abort as Aborted, FinAbort}
use Rattle.types.specs.declared.Input.{Input}
use Rattle.types.specs.declared.Output.{Output}
use Rattle.types.specs.declared.Site.{Site}
use Rattle.types.specs.declared.State.{State}
use Rattle.types.specs.declared.Network.{Network}
use Rattle.types.specs.Numbers.{state_number}
use Rattle.types.specs.Phases.{is_free, connected, splitting, branching, aborting, is_none, is_keep}
use Rattle.model.specs.Types.{in_at, out_at, queue_at, site_at, mark, out_of}
use Rattle.model.specs.Range.{input_ok, output_ok, out_queue_ok, in_queue_ok, site_ok, zero_site, place_ok, in_range}
use Rattle.model.specs.Range.{tag_ok, closing_ok, connection_in, depth_of, zero_input, zero_output, any_mark, any_remote, fed_by}
use Rattle.theorems.proofs.Networks.{Valid}
use Rattle.machine.specs.Step.{Runnable}

-- ---- the tests of one site, apart

module _ (E S T D k : ℕ) (x : Site) where
  abbrev ins : Bool
  ins = all (λ i. input_ok E S T k x.outputs i (in_at x i)) input_count

  abbrev outs : Bool
  outs = all (λ j. output_ok E S k j (out_at x j)) output_count

  site_parts : site_ok E S T D k x ≡ true → (ins ≡ true) × (outs ≡ true)
  site_parts h =
      let q = out_queue_ok S D k x.outgoing in
      let rest = all (λ m. in_queue_ok S (depth_of E D m) k (queue_at x m)) in_queue_count in
      let b = both3 ins outs q (both (ins && outs && q) rest h).0 in
      (b.0, b.1)

-- ---- a place's own

seek_used : (ph : Phase) → state_number ph ≡ 1 → is_free ph ≡ false
seek_used Free e = absurd (omega arith)
seek_used Seek e = refl
seek_used (Open c) e = refl
seek_used (Wait c) e = refl
seek_used (Done c r) e = refl
seek_used (Last c r) e = refl
seek_used (Aborted c) e = refl
seek_used (FinAbort c r) e = refl

-- an input that seeks has a set of targets
sought_at : (E S T k : ℕ) (os : List Output) (i : ℕ) (y : Input) → input_ok E S T k os i y ≡ true → state_number y.phase ≡ 1
    → (0 < y.set) × (y.set < 2 ^ S)
sought_at E S T k os i y h e =
    let tag = tag_ok S k y.packet y.set in
    let branched = alike (mark y.outputs split_port) (branching y.phase) in
    let own =
    (both6 (leb y.tries T) (pick (is_free y.phase) (zero_input y) tag) (alike (any_mark y.outputs) (connected y.phase))
    (all (λ j. implies (mark y.outputs j) (fed_by i (out_of os j))) output_count) (implies (splitting y.phase) (mark y.outputs 0))
    (implies (aborting y.phase) (splitting y.phase && not (any_remote y.outputs)))
    (both3 _ branched (connection_in E y.phase) h).0).1 in
    let used = (pick_at (is_free y.phase) (zero_input y) tag own).1 (seek_used y.phase e) in
    let t = targets_at S y.set (both (ltb y.packet k) (targets S y.set) used).1 in
    (t.0, t.1)

-- an output is fed by one of five inputs
fed_below : (E S k j : ℕ) (o : Output) → output_ok E S k j o ≡ true → o.input < input_count
fed_below E S k j o h =
    let tag = tag_ok S k o.packet o.set in
    let keep = implies (is_keep o.terminator) (eqb j 0) in
    let held = implies o.closing (closing_ok E j o) in
    let split = implies (eqb j split_port) (restricted E) in
    let fed = tag && ltb o.input input_count in
    let w = pick_at o.used (fed && keep && held && split) (zero_output o) h in
    either_way o.used
    (λ u. ltb-true o.input input_count (both tag (ltb o.input input_count) (both3 fed keep held (both (fed && keep && held) split (w.0 u)).0).0).1)
    (λ u.
    let z =
    (both6 (not o.used && eqb o.packet 0) (eqb o.set 0) (eqb o.input 0) (not o.head) (is_none o.terminator)
    (not o.closing) (w.1 u)).2 in
    omega (arith, eqb-true o.input 0 z))

-- ---- a state

module _ (n : Network) (val : Valid n) (st : State) (h : in_range n st ≡ true) where
  abbrev at : ℕ → Site
  at s = site_at st.sites s

  abbrev is_ok : ℕ → Bool
  is_ok s = site_ok n.edition n.sites n.tries n.depth st.counter (at s)

  place_at : (s : ℕ) → s < sites_most → ltb s n.sites ≡ true → is_ok s ≡ true
  unfolding in_range
  place_at s hs =
      (pick_at (ltb s n.sites) (is_ok s) (zero_site (at s))
      (all_at (λ s. place_ok n.edition n.sites n.tries n.depth st.counter s (at s)) s sites_most hs h)).0

  pub range_runnable : (s : ℕ) → s < n.sites → Runnable n s (at s)
  range_runnable s hs =
      let E = n.edition in
      let S = n.sites in
      let k = st.counter in
      let x = at s in
      let parts = site_parts E S n.tries n.depth k x (place_at s (omega (arith, hs, val.few)) (lt-ltb s S hs)) in
      record {
        site = hs;
        few = val.few;
        feeder = fed_below E S k 0 (out_at x 0) (all_at (λ j. output_ok E S k j (out_at x j)) 0 output_count (omega arith) parts.1);
        sought =
            λ i hi.
            sought_at E S n.tries k x.outputs i (in_at x i)
            (all_at (λ i. input_ok E S n.tries k x.outputs i (in_at x i)) i input_count hi parts.0);
      }

-- What a run that passes the tests of the body, and one that passes the writer's, are known by. Assumes nothing.
use mathlib.Core.Path.{◌≡◌}
use mathlib.Core.Logic.{⊎_elim, inl, inr}
use mathlib.Core.Bool.{true, not, and-false, or-false, ◌||◌}
use mathlib.Core.List.{List}
use Prim.Native.Nat.{ℕ, ◌*◌, ◌^◌, ◌≤◌, ◌<◌}
use native.Mathlib.Nat.{mul-le-mul, lt_of_lt_of_le}
use native.Mathlib.Omega.{arith}
use borrow.Author.Tests.{ltb-true, leb-true, eqb-true, eqb-false, ne_eqb, eq-eqb, le-leb}
use lib.Dec.{eqb, ltb, leb}
use lib.Pow.{pow_mono}
use Rattle.base.specs.Sizes.{sends_most, port_count, no_channel, first_sites}
use Rattle.base.specs.Bools.{both, either, first_of, second_of}
use Rattle.base.specs.All.{all_at}
use Rattle.sets.specs.Sets.{targets}
use Rattle.types.specs.declared.Network.{Network}
use Rattle.types.specs.declared.Run.{Run}
use Rattle.model.specs.Types.{send_at}
use Rattle.model.specs.Network.{version_ok, edition_ok, sites_in, sizes_ok, channel_at, channel_ok, channels_ok, routes_ok}
use Rattle.model.specs.Runs.{send_ok, sends_ok, body_refusal, stored_refusal}
use Rattle.theorems.proofs.Networks.{kind_known, sizes_at}
use Rattle.format.specs.Format.{network_of, run_of}
use Rattle.format.specs.Refusals.{read_refusal}
use Rattle.faults.proofs.HeadLaws.{head_passes}
use Rattle.archive.specs.Code.{AllNarrow, Fit}

-- ---- the body

pub body_passes : (r : Run) → body_refusal r ≡ 0
    → (channels_ok r.network ≡ true) × (routes_ok r.network ≡ true) × (sends_ok r ≡ true)
unfolding body_refusal
body_passes r h =
    let a = first_of (channels_ok r.network) _ 6 0 (λ e. omega arith) h in
    let b = first_of (routes_ok r.network) _ 7 0 (λ e. omega arith) a.1 in
    (a.0, b.0, (first_of (sends_ok r) 0 8 0 (λ e. omega arith) b.1).0)

-- ---- a network of version 1

module _ (n : Network) (first : n.version ≡ 1) (h : sizes_ok n ≡ true) where
  -- "Version 1 keeps its 16 sites"
  pub first_few : n.sites ≤ first_sites
  first_few =
      let a = both _ _ h in
      let b = both _ _ a.0 in
      let c = both _ _ b.0 in
      let d = both (leb 1 n.sites) (leb n.sites (sites_in n.version)) c.0 in
      leb-true n.sites first_sites (rw (eq-eqb n.version 1 first) at d.1)

-- "and is edition 1"
pub first_edition : (n : Network) → n.version ≡ 1 → edition_ok n ≡ true → n.edition ≡ 1
first_edition n first h =
    let E = n.edition in
    eqb-true E 1 (rw (ne_eqb n.version 2 (λ q. omega arith), and-false (eqb E 2 || eqb E 3), or-false (eqb E 1)) at h)

-- so that its channels fit their bytes
pub channels_narrow : (n : Network) → sizes_ok n ≡ true → channels_ok n ≡ true
    → AllNarrow n.version n.channels (port_count * n.sites)
channels_narrow n h k c l first =
    ⊎_elim (λ e. inl (eqb-true (channel_at n c) no_channel e))
    (λ e.
    let w = both (ltb (channel_at n c) (port_count * n.sites)) _ e in
    inr (omega (arith, ltb-true (channel_at n c) (port_count * n.sites) w.0, first_few n first h)))
    (either (eqb (channel_at n c) no_channel) _ (all_at (channel_ok n) c (port_count * n.sites) l k))

-- ---- a run that is not refused

pub record Stored (r : Run) : Type 0 where
  pub fit : Fit r.network r.count
  pub known : version_ok r.network ≡ true
  pub edition : edition_ok r.network ≡ true
  pub sizes : sizes_ok r.network ≡ true
  pub seed : r.seed ≡ 0 → ⊥
  pub body : body_refusal r ≡ 0

pub stored_passes : (r : Run) → stored_refusal r ≡ 0 → Stored r
unfolding stored_refusal
stored_passes r h =
    let k = kind_known r.network _ h in
    let s = first_of (sizes_ok r.network) _ 3 0 (λ e. omega arith) k.2 in
    let x = second_of (eqb r.seed 0) 4 _ 0 (λ e. omega arith) s.1 in
    let n = first_of (leb r.count sends_most) (body_refusal r) 5 0 (λ e. omega arith) x.1 in
    let size = sizes_at r.network s.0 in
    record {
      fit = record {
        few = size.1;
        square = mul-le-mul size.1 size.1;
        deep = size.4;
        narrow = channels_narrow r.network s.0 (body_passes r n.1).0;
        count = leb-true _ _ n.0;
      };
      known = k.0;
      edition = k.1;
      sizes = s.0;
      seed = eqb-false _ _ x.0;
      body = n.1;
    }

pub stored_by : (r : Run) → version_ok r.network ≡ true → edition_ok r.network ≡ true → sizes_ok r.network ≡ true
    → (r.seed ≡ 0 → ⊥) → r.count ≤ sends_most → body_refusal r ≡ 0 → stored_refusal r ≡ 0
unfolding stored_refusal body_refusal
stored_by r v e s x n b = rw (v, e, s, ne_eqb r.seed 0 x, le-leb r.count sends_most n) b

-- the run of an archive is not refused, with as many sends as a byte can say
pub stored_read : (b : List ℕ) → read_refusal b ≡ 0 → (run_of b).count ≤ sends_most → stored_refusal (run_of b) ≡ 0
unfolding read_refusal run_of network_of
stored_read b h n =
    let p = head_passes b (body_refusal (run_of b)) h in
    stored_by (run_of b) p.0.known p.0.edition p.0.sizes p.0.seed n p.1

-- a send's set is within its two bytes in version 1
pub set_narrow : (r : Run) → Stored r → r.network.version ≡ 1 → (k : ℕ) → k < r.count → (send_at r k).set < 65536
set_narrow r z first k l =
    let S = r.network.sites in
    let o = all_at (send_ok r) k r.count l (body_passes r z.body).2 in
    let a = both _ _ (both _ _ o).0 in
    let c = both (ltb (send_at r k).site S) (targets S (send_at r k).set) a.0 in
    let d = both (not (eqb (send_at r k).set 0)) (ltb (send_at r k).set (2 ^ S)) c.1 in
    let e : 2 ^ S ≤ 2 ^ first_sites = pow_mono (first_few r.network first z.sizes) in
    lt_of_lt_of_le (ltb-true _ _ d.1) e

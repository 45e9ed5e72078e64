-- What a valid run is known by: the writer's refusals 2, 17 and 3 to 8, taken apart. Assumes nothing.
use Prim.Native.Nat.{◌≤◌}
use mathlib.Core.Path.{◌≡◌}
use mathlib.Core.Bool.{true}
use native.Mathlib.Omega.{arith}
use borrow.Author.Tests.{leb-true, eqb-false}
use lib.Dec.{eqb, leb}
use Rattle.base.specs.Sizes.{sends_most}
use Rattle.base.specs.Bools.{first_of, second_of}
use Rattle.theorems.specs.Names.{Run as StoredRun}
use Rattle.model.specs.Network.{version_ok, edition_ok, sizes_ok, channels_ok, routes_ok}
use Rattle.model.specs.Runs.{sends_ok, body_refusal, stored_refusal}
use Rattle.theorems.proofs.Networks.{kind_known}

pub record Sound (r : StoredRun) : Type 0 where
  pub version : version_ok r.network ≡ true
  pub edition : edition_ok r.network ≡ true
  pub sizes : sizes_ok r.network ≡ true
  pub seed : r.seed ≡ 0 → ⊥
  pub count : r.count ≤ sends_most
  pub channels : channels_ok r.network ≡ true
  pub routes : routes_ok r.network ≡ true
  pub sends : sends_ok r ≡ true

pub sound : (r : StoredRun) → stored_refusal r ≡ 0 → Sound r
unfolding stored_refusal body_refusal
sound r h =
    let k = kind_known r.network _ h in
    let a = first_of (sizes_ok r.network) _ 3 0 (λ e. omega arith) k.2 in
    let b = second_of (eqb r.seed 0) 4 _ 0 (λ e. omega arith) a.1 in
    let c = first_of (leb r.count sends_most) _ 5 0 (λ e. omega arith) b.1 in
    let d = first_of (channels_ok r.network) _ 6 0 (λ e. omega arith) c.1 in
    let f = first_of (routes_ok r.network) _ 7 0 (λ e. omega arith) d.1 in
    let g = first_of (sends_ok r) 0 8 0 (λ e. omega arith) f.1 in
    record {
      version = k.0;
      edition = k.1;
      sizes = a.0;
      seed = eqb-false _ _ b.0;
      count = leb-true _ _ c.0;
      channels = d.0;
      routes = f.0;
      sends = g.0;
    }

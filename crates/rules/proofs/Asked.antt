-- The router asked with any routes: what its test tells, and that it reads of a network the edition, the sites and the routes only.
-- Assumes nothing.
use mathlib.Core.Path.{◌≡◌, refl, ap, ◌∙◌}
use mathlib.Core.Bool.{Bool, true, ◌&&◌, and-true}
use mathlib.Core.List.{List}
use Prim.Native.Nat.{ℕ, zero, suc, ◌+◌, ◌*◌, ◌^◌, ◌≤◌, ◌<◌}
use borrow.Author.Tests.{ltb-true, leb-true, eqb-true, lt-ltb, le-leb, eq-eqb}
use lib.Dec.{eqb, ltb, leb}
use lib.ListN.{length}
use Rattle.base.specs.Sizes.{sites_most}
use Rattle.base.specs.Bools.{both, and}
use Rattle.sets.specs.Sets.{minus, targets}
use Rattle.sets.proofs.Laws.{targets_at, targets_by}
use Rattle.types.specs.declared.Network.{Network}
use Rattle.types.specs.declared.Output.{Output}
use Rattle.model.specs.Network.{list_of}
use Rattle.model.specs.Router.{first_port, serves, gets, unchosen, gather_from, gather, route}
use Rattle.rules.specs.Routed.{Routed}
use Rattle.rules.specs.Router.{proper, askable}

pub asked : (l : List ℕ) (S s X : ℕ) → askable l S s X ≡ true → Routed l S s × ((0 < X) × (X < 2 ^ S))
asked l S s X e =
    let a = both (ltb s S && leb S sites_most && eqb (length l) (sites_most * sites_most)) (targets S X) e in
    let b = both (ltb s S && leb S sites_most) (eqb (length l) (sites_most * sites_most)) a.0 in
    let c = both (ltb s S) (leb S sites_most) b.0 in (
      record { site = ltb-true s S c.0; few = leb-true S sites_most c.1; room = eqb-true (length l) (sites_most * sites_most) b.1 },
      targets_at S X a.1,
    )

-- routes in an array of all of them
pub asked_whole : (l : List ℕ) (S s X : ℕ) → length l ≡ sites_most * sites_most → askable l S s X ≡ proper S s X
asked_whole l S s X e =
    ap (λ (b : Bool). b && targets S X)
    (ap (λ (b : Bool). ltb s S && leb S sites_most && b) (eq-eqb (length l) (sites_most * sites_most) e)
    ∙ and-true (ltb s S && leb S sites_most))

pub proper_by : (S s X : ℕ) → s < S → S ≤ sites_most → 0 < X → X < 2 ^ S → proper S s X ≡ true
proper_by S s X a b c d =
    and (ltb s S && leb S sites_most) (targets S X) (and (ltb s S) (leb S sites_most) (lt-ltb s S a) (le-leb S sites_most b))
    (targets_by S X c d)

-- ---- two networks with the same sites and routes

module _ (n m : Network) (e : n.sites ≡ m.sites) (f : n.routes ≡ m.routes) (s : ℕ) (os : List Output) where
  list_same : (t : ℕ) → list_of n s t ≡ list_of m s t
  list_same t = rw (e, f)

  gather_same : (Y k t : ℕ) (sets : List ℕ) → gather_from n s os Y k t sets ≡ gather_from m s os Y k t sets
  unfolding gather_from
  gather_same Y zero t sets = refl
  gather_same Y (suc k) t sets =
      let j = first_port (serves os sets) (list_of m s t) in
      rw (list_same t, gather_same Y k (t + 1) (gets sets j t), gather_same Y k (t + 1) sets)

  gathers_same : (Y : ℕ) → gather n s os Y ≡ gather m s os Y
  unfolding gather
  gathers_same Y = ap (λ (k : ℕ). gather_from n s os Y k 0 unchosen) e ∙ gather_same Y m.sites 0 unchosen

  -- of the same edition too
  pub route_same : n.edition ≡ m.edition → (X : ℕ) → route n s os X ≡ route m s os X
  unfolding route
  route_same g X = rw (gathers_same (minus s X), e, f, g)

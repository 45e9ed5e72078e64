-- The router asks of an output whether it is in use, and of the split output in edition 3 alone. Assumes nothing.
use mathlib.Core.Path.{◌≡◌, refl, ap, fun_ext}
use mathlib.Core.List.{List}
use mathlib.Core.Bool.{Bool, true, cond, not, ◌&&◌}
use Prim.Native.Nat.{ℕ, zero, suc, ◌+◌}
use native.Mathlib.Omega.{arith}
use borrow.Author.Tests.{le-leb, lt-leb}
use lib.ListN.{length}
use Rattle.base.specs.Sizes.{output_count, port_count, split_port}
use Rattle.base.specs.Bools.{either_way}
use Rattle.draws.specs.Draws.{restricted}
use Rattle.sets.specs.Sets.{minus}
use Rattle.types.specs.declared.Output.{Output}
use Rattle.types.specs.declared.Network.{Network}
use Rattle.model.specs.Types.{out_of}
use Rattle.model.specs.Network.{list_of}
use Rattle.model.specs.Router.{Choice, Unserved, serves, first_port, gets, unchosen, is_empty, gather_from, gather, branch, route}
use Rattle.rules.specs.Router.{asked_by, askable, routes_only}
use Rattle.words.specs.Marked.{seen}

module _ (edition : ℕ) (os : List Output) where
  serves_at : (sets : List ℕ) (j : ℕ) → serves (seen edition os) sets j ≡ serves os sets j
  unfolding seen
  serves_at sets zero = refl
  serves_at sets (suc zero) = refl
  serves_at sets (suc (suc zero)) = refl
  serves_at sets (suc (suc (suc zero))) = refl
  serves_at sets (suc (suc (suc (suc zero)))) = refl
  serves_at sets (suc (suc (suc (suc (suc j))))) =
      let k = suc (suc (suc (suc (suc j)))) in
      let e = lt-leb k port_count (omega arith) in
      rw (le-leb 1 k (omega arith), e) refl

  serves_seen : (sets : List ℕ) → serves (seen edition os) sets ≡ serves os sets
  serves_seen sets = fun_ext (λ j. serves_at sets j)

  pub own_seen : is_empty (seen edition os) 0 ≡ is_empty os 0
  unfolding seen
  own_seen = refl

  split_seen : restricted edition ≡ true → is_empty (seen edition os) split_port ≡ is_empty os split_port
  unfolding seen
  split_seen e = ap (λ (b : Bool). not (b && (out_of os split_port).used)) e

  pub length_seen : length (seen edition os) ≡ output_count
  unfolding seen
  length_seen = refl

  module _ (n : Network) (s : ℕ) where
    gather_from_lem : (Y k t : ℕ) (sets : List ℕ) → gather_from n s (seen edition os) Y k t sets ≡ gather_from n s os Y k t sets
    unfolding gather_from
    gather_from_lem Y zero t sets = refl
    gather_from_lem Y (suc k) t sets =
        let j = first_port (serves os sets) (list_of n s t) in
        rw (serves_seen sets, gather_from_lem Y k (t + 1) (gets sets j t), gather_from_lem Y k (t + 1) sets)

    gather_seen : (Y : ℕ) → gather n s (seen edition os) Y ≡ gather n s os Y
    unfolding gather
    gather_seen Y = gather_from_lem Y n.sites 0 unchosen

    branch_seen : restricted edition ≡ true → (X j : ℕ) → branch s (seen edition os) X j ≡ branch s os X j
    unfolding branch
    branch_seen e X j = rw (split_seen e) refl

    -- by the edition: the restricted one asks the split output, the others do not
    several_seen : (X j : ℕ) (other : Choice)
        → cond (restricted edition) (branch s (seen edition os) X j) other ≡ cond (restricted edition) (branch s os X j) other
    several_seen X j other =
        either_way (restricted edition) (λ e. rw (e, branch_seen e X j) refl) (λ e. rw e refl)

    pub route_seen : n.edition ≡ edition → (X : ℕ) → route n s (seen edition os) X ≡ route n s os X
    unfolding route
    route_seen e X =
        rw (gather_seen (minus s X), e, serves_seen unchosen, own_seen) (rw (several_seen X _ _) refl)

pub asked_seen : (edition : ℕ) (m : List ℕ) (S s : ℕ) (os : List Output) (X : ℕ)
    → asked_by edition m S s (seen edition os) X ≡ asked_by edition m S s os X
asked_seen edition m S s os X =
    ap (λ (ch : Choice). cond (askable m S s X) ch Unserved) (route_seen edition os (routes_only edition S m) s refl X)

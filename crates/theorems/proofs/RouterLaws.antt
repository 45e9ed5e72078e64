-- What the router chooses: outputs that are empty, whose sets lie within the sites and together owe, at a received end,
-- what the whole set owes; and that the edition has the connection. Of any network: the set is not empty and lies within its
-- sites; the bound of n.sites, which every caller has, is not used.
use Prim.Native.Nat.{ℕ, ◌^◌, ◌≤◌, ◌<◌}
use mathlib.Core.Path.{◌≡◌, refl, sym, ap, ◌∙◌}
use mathlib.Core.List.{List, [], ◌∷◌}
use mathlib.Core.Bool.{true, false, cond, not, ◌&&◌}
use native.Mathlib.Decide.{ℕ_discrete}
use native.Mathlib.Omega.{arith}
use borrow.Author.Tests.{eqb-false}
use lib.Dec.{eqb}
use lib.ListN.{get_or, set}
use lib.Pow.{pow_pos}
use Rattle.base.specs.Sizes.{sites_most, split_port}
use Rattle.base.specs.Bools.{cond_ok, clash, both, pick_by}
use Rattle.base.specs.Lists.{all_set}
use Rattle.sets.specs.Sets.{has, only, minus, size, lowest}
use Rattle.sets.proofs.Laws.{minus_le, only_within}
use Rattle.draws.specs.Draws.{restricted}
use Rattle.theorems.specs.Names.{Connection, Unicast, Passthru, AllRemote, SomeLocal, Branch, got_end}
use Rattle.theorems.specs.Names.{t_end, Open, Output, Network}
use Rattle.types.specs.Phases.{splits, branches}
use Rattle.model.specs.Network.{list_of}
use Rattle.model.specs.Router.{Choice, Chosen, Unserved, unchosen, is_chosen, is_empty, serves, first_empty, one_output, to_other}
use Rattle.model.specs.Router.{Gathered, Every, Missing, chosen_count, first_chosen, spread, branch, or_else, route}
use Rattle.model.specs.NetInput.{table}
use Rattle.model.specs.Range.{connection_in}
use Rattle.theorems.proofs.RouterGather.{first_ok, zeros, chosen_at, served, IfEvery, Shared, gather_shares}
use Rattle.theorems.proofs.RouterChoices.{Routed, ChoiceOk, ChoiceWithin, ChoiceIn, only_ok, some_covers, all_covers, split_ok_lem}
use Rattle.theorems.proofs.RouterChoices.{branched, branch_ok_lem}

-- ---- the router's ways: nothing, one empty output with the whole set, a split, or a branch; what holds of each holds of its
-- choice

module _ (n : Network) (s X : ℕ) (os : List Output) (P : Choice → Type 0) (none : P Unserved)
    (one : (c : Connection) (j : ℕ) → ((k : ℕ) → table got_end c k ≡ t_end) → splits c ≡ false → branches c ≡ false → j < split_port
    → is_empty os j ≡ true → P (one_output c X j))
    (split : (sets : List ℕ) → restricted n.edition ≡ false → is_empty os 0 ≡ true → Shared os (minus s X) n.sites sets
    → P (Chosen (cond (has s X) SomeLocal AllRemote) (set sets 0 X)))
    (part : (j : ℕ) → restricted n.edition ≡ true → has s X ≡ true → j < split_port → is_empty os j ≡ true
    → is_empty os split_port ≡ true → P (Chosen Branch (branched s X j)))
  where
    -- the first empty output in a list
    empty_port : (l : List ℕ) → (first_empty os l ≡ 0 → ⊥) → (first_empty os l < split_port) × (is_empty os (first_empty os l) ≡ true)
    empty_port l ne =
        let j = first_empty os l in
        let w = served os unchosen j (first_ok (serves os unchosen) l ne) (λ h. absurd (h (zeros j))) in
        (omega (arith, w.1), w.2)

    other_by : (c : Connection) (t : ℕ) → ((k : ℕ) → table got_end c k ≡ t_end) → splits c ≡ false → branches c ≡ false
        → P (to_other n s os c X t)
    other_by c t gives whole alone =
        let j = first_empty os (list_of n s t) in
        cond_ok P (eqb j 0) Unserved (one_output c X j) (λ z. none)
        (λ z. let w = empty_port (list_of n s t) (eqb-false j 0 z) in one c j gives whole alone w.0 w.1)

    chosen_by : (sets : List ℕ) → is_empty os 0 ≡ true → Shared os (minus s X) n.sites sets
        → P (one_output Passthru X (first_chosen sets))
    chosen_by sets em g = go (ℕ_discrete j 0)
      where
        j : ℕ
        j = first_chosen sets

        go : Dec (j ≡ 0) → P (one_output Passthru X j)
        go (yes e) = one Passthru j (λ k. refl) refl refl (omega arith) (rw e em)
        go (no e) =
            let h : get_or sets j 0 ≡ 0 → ⊥ = chosen_at sets j (first_ok (is_chosen sets) (1 ∷ 2 ∷ 3 ∷ 4 ∷ []) e) in
            one Passthru j (λ k. refl) refl refl (omega (arith, (g.ports j h).1)) (g.free j h)

    spread_by : restricted n.edition ≡ false → is_empty os 0 ≡ true → (r : Gathered)
        → IfEvery (Shared os (minus s X) n.sites) r → P (spread s X r)
    unfolding spread
    spread_by ed em Missing g = none
    spread_by ed em (Every sets) g =
        cond_ok P (eqb (chosen_count sets) 1 && not (has s X)) _ _ (λ h. chosen_by sets em g) (λ h. split sets ed em g)

    branch_by : restricted n.edition ≡ true → (t : ℕ) → P (branch s os X (first_empty os (list_of n s t)))
    unfolding branch
    branch_by ed t =
        let j = first_empty os (list_of n s t) in
        cond_ok P (has s X && is_empty os split_port) _ _
        (λ h.
        let own = both (has s X) (is_empty os split_port) h in
        cond_ok P (eqb j 0) Unserved _ (λ z. none)
        (λ z. let w = empty_port (list_of n s t) (eqb-false j 0 z) in part j ed own.0 w.0 w.1 own.1))
        (λ h. other_by Passthru t (λ k. refl) refl refl)

    or_by : (a b : Choice) → P a → P b → P (or_else a b)
    unfolding or_else
    or_by (Chosen c sets) b h k = h
    or_by Unserved b h k = k

    pub route_by_lem : P (route n s os X)
    unfolding route
    route_by_lem =
        cond_ok P (eqb X (only s)) _ _
        (λ a. cond_ok P (is_empty os 0) _ Unserved (λ em. one Unicast 0 (λ k. refl) refl refl (omega arith) em) (λ em. none))
        (λ a.
        cond_ok P (eqb (size X) 1) _ _ (λ b. other_by Unicast (lowest X) (λ k. refl) refl refl)
        (λ b.
        cond_ok P (restricted n.edition) _ _ (λ ed. branch_by ed (lowest (minus s X)))
        (λ ed.
        or_by _ _
        (cond_ok P (is_empty os 0) _ Unserved (λ em. spread_by ed em _ (gather_shares n s os (minus s X))) (λ em. none))
        (other_by Passthru (lowest (minus s X)) (λ k. refl) refl refl))))

pub route_ok_lem : (n : Network) (s X : ℕ) (os : List Output) → n.sites ≤ sites_most → s < n.sites → (X ≡ 0 → ⊥)
    → X < 2 ^ n.sites → ChoiceOk s X os (route n s os X)
route_ok_lem n s X os most hs ne hX =
    route_by_lem n s X os (ChoiceOk s X os) tt (λ c j gives whole alone. only_ok s X os c j gives whole alone ne)
    (λ sets ed em g.
    cond_ok (λ c. Routed s X os c (set sets 0 X)) (has s X) SomeLocal AllRemote
    (λ h. split_ok_lem n s X os hX SomeLocal sets refl ne em g (some_covers n s X os hX sets g))
    (λ h. split_ok_lem n s X os hX AllRemote sets refl ne em g (all_covers n s X os hX sets h g)))
    (λ j ed. branch_ok_lem s X os j)

pub route_within : (n : Network) (s X : ℕ) (os : List Output) → n.sites ≤ sites_most → s < n.sites → (X ≡ 0 → ⊥)
    → X < 2 ^ n.sites → ChoiceWithin n.sites (route n s os X)
route_within n s X os most hs ne hX =
    let low : ℕ → ℕ → Type 0 = λ k z. z < 2 ^ n.sites in
    let none : (k : ℕ) → get_or unchosen k 0 < 2 ^ n.sites = λ k. omega (arith, zeros k, pow_pos n.sites) in
    route_by_lem n s X os (ChoiceWithin n.sites) tt (λ c j gives whole alone hj em. all_set low unchosen j X 0 hX none)
    (λ sets ed em g. all_set low sets 0 X 0 hX g.low)
    (λ j ed own hj em free.
    all_set low (set unchosen j (minus s X)) split_port (only s) 0 (only_within n.sites s hs)
    (all_set low unchosen j (minus s X) 0 (omega (arith, minus_le s X)) none))

-- L10: connection 6 by edition 3 alone, 3 and 4 by the others
pub route_in : (n : Network) (s X : ℕ) (os : List Output) → ChoiceIn n.edition (route n s os X)
route_in n s X os =
    let r = restricted n.edition in
    route_by_lem n s X os (ChoiceIn n.edition) tt
    (λ c j gives whole alone hj em. pick_by r (not (splits c)) (not (branches c)) (λ e. ap not whole) (λ e. ap not alone))
    (λ sets ed em g.
    cond_ok (λ c. connection_in n.edition (Open c) ≡ true) (has s X) SomeLocal AllRemote
    (λ h. pick_by r false true (λ e. absurd (clash (sym e ∙ ed))) (λ e. refl))
    (λ h. pick_by r false true (λ e. absurd (clash (sym e ∙ ed))) (λ e. refl)))
    (λ j ed own hj em free. pick_by r true false (λ e. refl) (λ e. absurd (clash (sym ed ∙ e))))

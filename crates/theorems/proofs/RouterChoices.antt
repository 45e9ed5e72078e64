-- The choices of the router: one output with the whole set, a split, a branch. Each takes outputs that are empty, whose sets
-- together owe, at a received end, what the whole set owes. Assumes nothing of the network.
use Prim.Native.Nat.{ℕ, suc, ◌+◌, ◌-◌, ◌^◌, ◌≤◌, ◌<◌}
use mathlib.Core.Path.{◌≡◌, refl, sym, ap, ◌∙◌}
use mathlib.Core.List.{List, [], ◌∷◌}
use mathlib.Core.Bool.{Bool, true, false, cond, not}
use native.Mathlib.Omega.{arith}
use borrow.Author.Tests.{eqb-true, ne_eqb}
use lib.Dec.{eqb, eqb-suc-zero}
use lib.ListN.{get_or, set, length, length-set}
use lib.Pow.{pow_pos}
use lib.Seq.{get_or-set_same, get_or-set_other}
use Rattle.base.specs.Sizes.{output_count, port_count, split_port}
use Rattle.base.specs.Bools.{count, cond_ok, clash}
use Rattle.base.specs.Lists.{all_set}
use Rattle.base.specs.Sums.{sum, sum_set, upto, upto_ext, sum_upto}
use Rattle.sets.specs.Sets.{has, bit, only, minus}
use Rattle.sets.proofs.Laws.{minus_le, minus_out}
use Rattle.sets.proofs.LawsBit.{bit_none, bit_in, bit_only, bit_minus}
use Rattle.theorems.specs.Names.{Connection, AllRemote, SomeLocal, Branch, got_end, Terminator, t_none}
use Rattle.theorems.specs.Names.{t_end, t_abort, t_keep, Open, Output, Network}
use Rattle.types.specs.Phases.{splits, branches}
use Rattle.model.specs.Router.{Choice, Chosen, Unserved, unchosen, is_chosen, is_empty}
use Rattle.model.specs.NetInput.{table}
use Rattle.model.specs.Owing.{owes_as}
use Rattle.model.specs.Range.{connection_in}
use Rattle.theorems.proofs.RouterGather.{zeros, Shared, no_share, share_sum}

-- The choice of a connection c and sets at site s for the set X: a set an output; only empty outputs have one; at a received end
-- the outputs owe together what X owes; by connections 3 and 4 output 0 has the whole X; by connection 6, and by no other, the
-- split output has a set; one output at least has a set.
pub record Routed (s X : ℕ) (os : List Output) (c : Connection) (sets : List ℕ) : Type 0 where
  pub full : length sets ≡ output_count
  pub free : (j : ℕ) → (get_or sets j 0 ≡ 0 → ⊥) → is_empty os j ≡ true
  pub covers : (q p t : ℕ)
      → upto output_count (λ j. owes_as (table got_end c j) s p t q (get_or sets j 0)) ≡ owes_as t_end s p t q X
  pub zeroth : splits c ≡ true → get_or sets 0 0 ≡ X
  pub split : is_chosen sets split_port ≡ branches c
  pub some : (j : ℕ) × (j < output_count) × (get_or sets j 0 ≡ 0 → ⊥)

abbrev pub ChoiceOk : ℕ → ℕ → List Output → Choice → Type 0
ChoiceOk s X os Unserved = Unit {0}
ChoiceOk s X os (Chosen c sets) = Routed s X os c sets

-- every set of the choice lies within S sites
abbrev pub ChoiceWithin : ℕ → Choice → Type 0
ChoiceWithin S Unserved = Unit {0}
ChoiceWithin S (Chosen c sets) = (j : ℕ) → get_or sets j 0 < 2 ^ S

-- the edition has the connection of the choice
abbrev pub ChoiceIn : ℕ → Choice → Type 0
ChoiceIn edition Unserved = Unit {0}
ChoiceIn edition (Chosen c sets) = connection_in edition (Open c) ≡ true

-- ---- one output with the whole set

end_none : (p t q : ℕ) → cond (eqb p q) (bit t 0) 0 ≡ 0
end_none p t q = cond_ok (λ (m : ℕ). m ≡ 0) (eqb p q) (bit t 0) 0 (λ h. bit_none t) (λ h. refl)

pub owes_none : (k : Terminator) (s p t q : ℕ) → owes_as k s p t q 0 ≡ 0
owes_none t_none s p t q = refl
owes_none t_abort s p t q = refl
owes_none t_end s p t q = end_none p t q
owes_none t_keep s p t q =
    cond_ok (λ (m : ℕ). m ≡ 0) (eqb t s) (cond (eqb p q) (bit t 0) 0) 0 (λ h. end_none p t q) (λ h. refl)

-- by a connection that gives end everywhere
pub only_ok : (s X : ℕ) (os : List Output) (c : Connection) (j : ℕ) → ((k : ℕ) → table got_end c k ≡ t_end)
    → splits c ≡ false → branches c ≡ false → (X ≡ 0 → ⊥) → j < split_port → is_empty os j ≡ true
    → Routed s X os c (set unchosen j X)
unfolding sum
only_ok s X os c j gives whole alone ne hj em =
    record {
      full = length-set unchosen j X;
      free =
          all_set (λ k z. (z ≡ 0 → ⊥) → is_empty os k ≡ true) unchosen j X 0 (λ h. em) (λ k h. absurd (h (zeros k)));
      covers =
          λ q p t.
          upto_ext output_count _ (λ k. owes_as t_end s p t q (get_or (set unchosen j X) k 0))
          (λ k h. ap (λ e. owes_as e s p t q (get_or (set unchosen j X) k 0)) (gives k))
          ∙ omega (
            arith,
            rw (length-set unchosen j X) at (sum_upto (λ z. owes_as t_end s p t q z) (set unchosen j X) 0),
            sum_set (λ z. owes_as t_end s p t q z) unchosen j X 0 (omega arith),
            owes_none t_end s p t q,
            ap (λ z. owes_as t_end s p t q z) (zeros j),
          );
      zeroth = λ h. absurd (clash (sym h ∙ whole));
      split = ap (λ (z : ℕ). not (eqb z 0)) (get_or-set_other unchosen j split_port X 0 (λ e. omega arith)) ∙ sym alone;
      some = (j, omega arith, λ e. ne (sym (get_or-set_same unchosen j X 0 (omega arith)) ∙ e));
    }

-- ---- a split: output 0 with the whole set, the others with their shares

sum_owes : (s p t q : ℕ) (l : List ℕ) → sum (λ z. owes_as t_end s p t q z) l ≡ cond (eqb p q) (sum (λ z. bit t z) l) 0
unfolding sum
sum_owes s p t q = go (eqb p q)
  where
    go : (b : Bool) (l : List ℕ) → sum (λ z. cond b (bit t z) 0) l ≡ cond b (sum (λ z. bit t z) l) 0
    go true l = refl
    go false [] = refl
    go false (z ∷ l) = omega (arith, go false l)

split_sum : (c : Connection) (s X : ℕ) (sets : List ℕ) (q p t : ℕ) → length sets ≡ output_count → get_or sets 0 0 ≡ 0
    → ((j : ℕ) → table got_end c (suc j) ≡ t_end)
    → upto output_count (λ j. owes_as (table got_end c j) s p t q (get_or (set sets 0 X) j 0))
    ≡ owes_as (table got_end c 0) s p t q X + cond (eqb p q) (sum (λ z. bit t z) sets) 0
unfolding upto
split_sum c s X sets q p t len none gives =
    let whole : get_or (set sets 0 X) 0 0 ≡ X = get_or-set_same sets 0 X 0 (omega arith) in
    let others =
    upto_ext (output_count - 1) (λ j. owes_as (table got_end c (suc j)) s p t q (get_or (set sets 0 X) (suc j) 0))
    (λ j. owes_as t_end s p t q (get_or sets (suc j) 0))
    (λ j h.
    ap (λ k. owes_as k s p t q (get_or (set sets 0 X) (suc j) 0)) (gives j)
    ∙ ap (λ z. owes_as t_end s p t q z) (get_or-set_other sets 0 (suc j) X 0 (λ e. omega arith))) in
    omega (
      arith,
      others,
      rw len at (sum_upto (λ z. owes_as t_end s p t q z) sets 0),
      sum_owes s p t q sets,
      ap (λ z. owes_as (table got_end c 0) s p t q z) whole,
      ap (λ z. owes_as t_end s p t q z) none,
      owes_none t_end s p t q,
    )

abbrev Covers : ℕ → ℕ → Connection → List ℕ → Type 0
Covers s X c sets =
    (q p t : ℕ) → upto output_count (λ j. owes_as (table got_end c j) s p t q (get_or sets j 0)) ≡ owes_as t_end s p t q X

module _ (n : Network) (s X : ℕ) (os : List Output) (hX : X < 2 ^ n.sites) where
  abbrev Shares : List ℕ → Type 0
  Shares sets = Shared os (minus s X) n.sites sets

  shares_sum : (sets : List ℕ) → Shares sets → (t : ℕ) → sum (λ z. bit t z) sets ≡ bit t (minus s X)
  shares_sum sets g = share_sum os (minus s X) n.sites sets (omega (arith, minus_le s X)) g

  no_port : (sets : List ℕ) → Shares sets → (j : ℕ) → (1 ≤ j → j ≤ port_count → ⊥) → get_or sets j 0 ≡ 0
  no_port sets g = no_share os (minus s X) n.sites sets g

  -- keep-local owes s alone
  pub some_covers : (sets : List ℕ) → Shares sets → Covers s X SomeLocal (set sets 0 X)
  some_covers sets g q p t =
      split_sum SomeLocal s X sets q p t g.full (no_port sets g 0 (λ a b. omega arith)) (λ j. ap (λ b. cond b t_keep t_end) (eqb-suc-zero j))
      ∙ go (eqb t s) refl (eqb p q)
    where
      go : (a : Bool) → eqb t s ≡ a → (b : Bool)
          → cond a (cond b (bit t X) 0) 0 + cond b (sum (λ z. bit t z) sets) 0 ≡ cond b (bit t X) 0
      go true e true = omega (arith, shares_sum sets g t, rw e at (bit_minus s t X), ap (λ u. bit u X) (eqb-true t s e))
      go false e true = omega (arith, shares_sum sets g t, rw e at (bit_minus s t X))
      go true e false = refl
      go false e false = refl

  -- s is not in X, and abort owes nothing
  pub all_covers : (sets : List ℕ) → has s X ≡ false → Shares sets → Covers s X AllRemote (set sets 0 X)
  all_covers sets e g q p t =
      split_sum AllRemote s X sets q p t g.full (no_port sets g 0 (λ a b. omega arith)) (λ j. ap (λ b. cond b t_abort t_end) (eqb-suc-zero j))
      ∙ go (eqb p q)
    where
      go : (b : Bool) → 0 + cond b (sum (λ z. bit t z) sets) 0 ≡ cond b (bit t X) 0
      go true = omega (arith, shares_sum sets g t, ap (λ z. bit t z) (minus_out s X e))
      go false = refl

  pub split_ok_lem : (c : Connection) (sets : List ℕ) → branches c ≡ false → (X ≡ 0 → ⊥) → is_empty os 0 ≡ true → Shares sets
      → Covers s X c (set sets 0 X) → Routed s X os c (set sets 0 X)
  split_ok_lem c sets alone ne em g cov =
      let whole : get_or (set sets 0 X) 0 0 ≡ X = get_or-set_same sets 0 X 0 (omega (arith, g.full)) in
      let none : get_or (set sets 0 X) split_port 0 ≡ 0 =
      get_or-set_other sets 0 split_port X 0 (λ e. omega arith) ∙ no_port sets g split_port (λ a b. omega arith) in
      record {
        full = length-set sets 0 X ∙ g.full;
        free = all_set (λ j z. (z ≡ 0 → ⊥) → is_empty os j ≡ true) sets 0 X 0 (λ h. em) g.free;
        covers = cov;
        zeroth = λ h. whole;
        split = ap (λ (z : ℕ). not (eqb z 0)) none ∙ sym alone;
        some = (0, omega arith, λ e. ne (sym whole ∙ e));
      }

-- ---- a branch: the site's own target at the split output, the rest at a port

abbrev pub branched : ℕ → ℕ → ℕ → List ℕ
branched s X j = set (set unchosen j (minus s X)) split_port (only s)

branch_covers : (s X j : ℕ) → has s X ≡ true → j < split_port → Covers s X Branch (branched s X j)
unfolding sum
branch_covers s X j own hj q p t =
    let l = set unchosen j (minus s X) in
    let owes : ℕ → ℕ = λ z. owes_as t_end s p t q z in
    omega (
      arith,
      rw (length-set l split_port (only s), length-set unchosen j (minus s X)) at (sum_upto owes (branched s X j) 0),
      sum_set owes l split_port (only s) 0 (rw (length-set unchosen j (minus s X)) (omega arith)),
      sum_set owes unchosen j (minus s X) 0 (omega arith),
      ap owes (get_or-set_other unchosen j split_port (minus s X) 0 (λ e. omega arith)),
      ap owes (zeros j),
      owes_none t_end s p t q,
      two (eqb p q),
    )
  where
    one : (a : Bool) → cond a (bit s X) 0 ≡ count a
    one true = bit_in s X own
    one false = refl

    two : (b : Bool) → cond b (bit t (minus s X)) 0 + cond b (bit t (only s)) 0 ≡ cond b (bit t X) 0
    two true = omega (arith, bit_minus s t X, bit_only s t, one (eqb t s))
    two false = refl

pub branch_ok_lem : (s X : ℕ) (os : List Output) (j : ℕ) → has s X ≡ true → j < split_port → is_empty os j ≡ true
    → is_empty os split_port ≡ true → Routed s X os Branch (branched s X j)
branch_ok_lem s X os j own hj em split =
    let l = set unchosen j (minus s X) in
    let six : length l ≡ output_count = length-set unchosen j (minus s X) in
    let there : get_or (branched s X j) split_port 0 ≡ only s = get_or-set_same l split_port (only s) 0 (omega arith) in
    let ne : only s ≡ 0 → ⊥ = λ e. omega (arith, pow_pos s) in
    record {
      full = length-set l split_port (only s) ∙ six;
      free =
          all_set (λ k z. (z ≡ 0 → ⊥) → is_empty os k ≡ true) l split_port (only s) 0 (λ h. split)
          (all_set (λ k z. (z ≡ 0 → ⊥) → is_empty os k ≡ true) unchosen j (minus s X) 0 (λ h. em) (λ k h. absurd (h (zeros k))));
      covers = branch_covers s X j own hj;
      zeroth = λ h. absurd (clash (sym h));
      split = ap (λ (z : ℕ). not (eqb z 0)) there ∙ ap not (ne_eqb (only s) 0 ne);
      some = (split_port, omega arith, λ e. ne (sym there ∙ e));
    }

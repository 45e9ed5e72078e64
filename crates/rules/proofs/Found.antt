-- What each search of the router finds, as its code comes to it. Assumes nothing.
use mathlib.Core.Path.{◌≡◌, refl, sym, ap, ◌∙◌}
use mathlib.Core.Bool.{Bool, true, false, cond, ◌&&◌, ◌||◌}
use mathlib.Core.List.{List, [], ◌∷◌}
use Prim.Native.Nat.{ℕ, ◌+◌, ◌^◌, ◌≤◌, ◌<◌}
use native.Mathlib.Omega.{arith}
use borrow.Author.Tests.{lt-ltb, eqb-true, eqb-false, leb-true, ne_eqb}
use lib.Dec.{eqb, ltb, leb}
use lib.ListN.{get_or, length, drop, drop_of_length-le}
use lib.Seq.{drop-cons}
use native.Mathlib.Numerals.{add-one}
use Rattle.std.specs.Prelude.{Option, None, Some}
use Rattle.std.specs.Option.{unwrap_or, option_map}
use Rattle.std.specs.List.{find, count_by}
use Rattle.std.proofs.lemmas.List.Recursion.{is_sum_by}
use Rattle.base.specs.Sizes.{port_count, set_bits, sites_most}
use Rattle.base.specs.Bools.{both, cond_ok, either_way, clash, count}
use Rattle.base.specs.Sums.{sum}
use Rattle.sets.specs.Sets.{has, only, minus, size, lowest}
use Rattle.sets.proofs.Laws.{minus_le}
use Rattle.sets.proofs.LawsSize.{minus_pos}
use Rattle.sets.proofs.LawsLowest.{lowest_lt}
use Rattle.types.specs.declared.Network.{Network}
use Rattle.types.specs.declared.Output.{Output}
use Rattle.types.specs.declared.Connection.TheVariants.{Unicast}
use Rattle.model.specs.Router.{Unserved, first_port, serves, is_empty, is_chosen}
use Rattle.model.specs.Router.{first_chosen, to_own, to_other, branch, route}
use Rattle.rules.specs.Router.{of_port, several}

-- ---- the first port of a list

-- what the method `find` answers of numbers by value
pub same_found : (o : Option ℕ) {f : Option ℕ} → option_map (λ (x : ℕ). x) o ≡ f → o ≡ f
same_found None e = e
same_found (Some x) e = e

pub found_first : (ok : ℕ → Bool) (l : List ℕ) → unwrap_or (find ok l) 0 ≡ first_port ok l
unfolding first_port
found_first ok [] = refl
found_first ok (p ∷ ps) =
    either_way (ok p) (λ e. rw e refl) (λ e. rw e (found_first ok ps))

-- where 0 is no port
pub found_port : (ok : ℕ → Bool) (l : List ℕ) → ok 0 ≡ false → find ok l ≡ of_port (first_port ok l)
unfolding first_port
found_port ok [] z = refl
found_port ok (p ∷ ps) z =
    either_way (ok p) (λ e. rw (e, ne_eqb p 0 (λ h. clash (sym e ∙ ap ok h ∙ z))) refl) (λ e. rw e (found_port ok ps z))

pub no_port : (j : ℕ) → of_port j ≡ None → j ≡ 0
no_port j e = by_test (eqb j 0) refl e
  where
    by_test : (b : Bool) → eqb j 0 ≡ b → cond b None (Some j) ≡ None → j ≡ 0
    by_test true h i = eqb-true j 0 h
    by_test false h i = absurd (cc)

pub some_port : (j p : ℕ) → of_port j ≡ Some p → (j ≡ p) × (0 < j)
some_port j p e = by_test (eqb j 0) refl e
  where
    by_test : (b : Bool) → eqb j 0 ≡ b → cond b None (Some j) ≡ Some p → (j ≡ p) × (0 < j)
    by_test true h i = absurd (cc)
    by_test false h i = let n : j ≡ 0 → ⊥ = eqb-false j 0 h in (cc, omega arith)

-- what the search from place k on finds
module _ (ok : ℕ → Bool) (l : List ℕ) (k : ℕ) (h : k < length l) where
  pub port_hit : ok (get_or l k 0) ≡ true → first_port ok (drop k l) ≡ get_or l k 0
  unfolding first_port
  port_hit e = rw (drop-cons l k 0 h, e)

  pub port_miss : ok (get_or l k 0) ≡ false → first_port ok (drop (k + 1) l) ≡ first_port ok (drop k l)
  unfolding first_port
  port_miss e = rw (drop-cons l k 0 h, e, add-one k)

pub port_none : (ok : ℕ → Bool) (l : List ℕ) (k : ℕ) → length l ≤ k → first_port ok (drop k l) ≡ 0
unfolding first_port
port_none ok l k h = rw (drop_of_length-le l h)

-- a port that serves is one of the four
pub is_port_lem : (os : List Output) (sets : List ℕ) (p : ℕ) → serves os sets p ≡ true → (1 ≤ p) × (p ≤ port_count)
is_port_lem os sets p e =
    let a = both (leb 1 p && leb p port_count) (is_empty os p || is_chosen sets p) e in
    let b = both (leb 1 p) (leb p port_count) a.0 in
    (leb-true 1 p b.0, leb-true p port_count b.1)

-- the first of four ports is one of them, or 0
pub first_chosen_below : (sets : List ℕ) → first_chosen sets ≤ port_count
unfolding first_port
first_chosen_below sets =
    cond_ok at_most (is_chosen sets 1) _ _ (λ e. omega arith)
    (λ e. cond_ok at_most (is_chosen sets 2) _ _ (λ e. omega arith) (λ e. cond_ok at_most (is_chosen sets 3) _ _
    (λ e. omega arith) (λ e. cond_ok at_most (is_chosen sets 4) _ _ (λ e. omega arith) (λ e. omega arith))))
  where
    at_most : ℕ → Type 0
    at_most r = r ≤ port_count

-- how many pass a test, summed
pub counted : (p : ℕ → Bool) (xs : List ℕ) → count_by p xs ≡ sum (λ x. count (p x)) xs
unfolding sum
counted p xs = sym (is_sum_by (sum (λ x. count (p x))) (λ x. cond (p x) 1 0) refl (λ y ys. rw (one_or_none (p y)) refl) xs)
  where
    one_or_none : (b : Bool) → count b ≡ cond b 1 0
    one_or_none true = refl
    one_or_none false = refl

-- ---- the router's cases, as its branches come to them

-- with no way to the others there is no branch
pub no_branch : (s : ℕ) (os : List Output) (X : ℕ) → branch s os X 0 ≡ Unserved
unfolding branch
no_branch s os X = cond_ok (λ c. c ≡ Unserved) (has s X && is_empty os 5) Unserved Unserved (λ e. refl) (λ e. refl)

module _ (n : Network) (s X : ℕ) (os : List Output) where
  pub route_own : eqb X (only s) ≡ true → route n s os X ≡ to_own os X
  unfolding route
  route_own e = rw e

  pub route_single : eqb X (only s) ≡ false → eqb (size X) 1 ≡ true → route n s os X ≡ to_other n s os Unicast X (lowest X)
  unfolding route
  route_single e f = rw (e, f)

  pub route_several : eqb X (only s) ≡ false → eqb (size X) 1 ≡ false → route n s os X ≡ several n s os X
  unfolding route
  route_several e f = rw (e, f)

-- X is {s}, as the code makes {s}
pub own_test : (s X r : ℕ) → s < set_bits → r ≡ cond (ltb s set_bits) (only s) 0 → eqb X r ≡ eqb X (only s)
own_test s X r h e = ap (eqb X) (e ∙ ap (λ b. cond b (only s) 0) (lt-ltb s set_bits h))

-- the lowest target, and the lowest other than s, lie within the network
pub lowest_in : (S X : ℕ) → S ≤ sites_most → 0 < X → X < 2 ^ S → lowest X < S
lowest_in S X l p h = lowest_lt S X (omega arith) p h

pub other_in : (S s X : ℕ) → S ≤ sites_most → s < S → 0 < X → X < 2 ^ S → eqb (size X) 1 ≡ false → lowest (minus s X) < S
other_in S s X l hs p h e =
    lowest_lt S (minus s X) (omega arith) (minus_pos set_bits s X (omega arith) p (eqb-false (size X) 1 e)) (omega (arith, minus_le s X))

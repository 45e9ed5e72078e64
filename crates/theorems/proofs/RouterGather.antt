-- What the router's search and its gathering give: a port that serves, and for every target of Y exactly one output,
-- all of them ports, all of them empty. Assumes nothing of the network: `serves` tests the ports by itself.
use Prim.Native.Nat.{ℕ, zero, suc, ◌+◌, ◌^◌, ◌≤◌, ◌<◌}
use mathlib.Core.Path.{◌≡◌, refl, sym, ap, ◌∙◌}
use mathlib.Core.List.{List, [], ◌∷◌}
use mathlib.Core.Bool.{Bool, true, false, ◌&&◌, ◌||◌}
use mathlib.Core.Logic.{⊎_elim}
use native.Mathlib.Decide.{ℕ_discrete, dec_lt}
use native.Mathlib.Nat.{zero-add, lt_of_lt_of_le}
use native.Mathlib.Omega.{arith}
use borrow.Author.Tests.{eqb-false, eq-eqb, ne_eqb, leb-true, not-true}
use lib.Dec.{eqb, leb}
use lib.ListN.{get_or, length, length-set}
use lib.Pow.{pow_mono}
use Rattle.base.specs.Sizes.{output_count, port_count}
use Rattle.base.specs.Bools.{count, cond_ok, both, either}
use Rattle.base.specs.Lists.{all_set, same_at}
use Rattle.base.specs.Sums.{sum, sum_set}
use Rattle.sets.specs.Sets.{has, bit, plus}
use Rattle.sets.proofs.Laws.{outside, plus_out, plus_within}
use Rattle.sets.proofs.LawsBit.{bit_none, bit_in, bit_out, bit_high, bit_add}
use Rattle.theorems.specs.Names.{Output, Network}
use Rattle.model.specs.Network.{list_of}
use Rattle.model.specs.Router.{unchosen, is_chosen, is_empty, serves, first_port, Gathered, Every, Missing, gets, gather_from, gather}

-- ---- the search

-- a port that is found has what was searched for
pub first_ok : (ok : ℕ → Bool) (l : List ℕ) → (first_port ok l ≡ 0 → ⊥) → ok (first_port ok l) ≡ true
unfolding first_port
first_ok ok [] = λ h. absurd (h refl)
first_ok ok (p ∷ ps) =
    cond_ok (λ (r : ℕ). (r ≡ 0 → ⊥) → ok r ≡ true) (ok p) p (first_port ok ps) (λ e h. e) (λ e. first_ok ok ps)

pub zeros : (j : ℕ) → get_or unchosen j 0 ≡ 0
zeros j = same_at output_count j 0

-- a chosen output
pub chosen_at : (sets : List ℕ) (j : ℕ) → is_chosen sets j ≡ true → get_or sets j 0 ≡ 0 → ⊥
chosen_at sets j h = eqb-false (get_or sets j 0) 0 (not-true (eqb (get_or sets j 0) 0) h)

-- a port that serves is one of the four, and empty if those chosen are
pub served : (os : List Output) (sets : List ℕ) (p : ℕ) → serves os sets p ≡ true
    → ((get_or sets p 0 ≡ 0 → ⊥) → is_empty os p ≡ true) → (1 ≤ p) × (p ≤ port_count) × (is_empty os p ≡ true)
served os sets p h free =
    let w = both (leb 1 p && leb p port_count) (is_empty os p || is_chosen sets p) h in
    let v = both (leb 1 p) (leb p port_count) w.0 in (
      leb-true 1 p v.0,
      leb-true p port_count v.1,
      ⊎_elim (λ e. e) (λ e. free (chosen_at sets p e)) (either (is_empty os p) (is_chosen sets p) w.1),
    )

-- ---- what each step keeps, the gathering keeps

abbrev pub IfEvery : (List ℕ → Type 0) → Gathered → Type 0
IfEvery P (Every sets) = P sets
IfEvery P Missing = Unit {0}

module _ (n : Network) (s : ℕ) (os : List Output) (Y : ℕ) (P : ℕ → List ℕ → Type 0)
    (skip : (t : ℕ) (sets : List ℕ) → has t Y ≡ false → P t sets → P (t + 1) sets)
    (take : (t p : ℕ) (sets : List ℕ) → has t Y ≡ true → serves os sets p ≡ true → P t sets → P (t + 1) (gets sets p t))
  where
    gather_keeps : (k t : ℕ) (sets : List ℕ) → P t sets → IfEvery (P (t + k)) (gather_from n s os Y k t sets)
    unfolding gather_from
    gather_keeps zero t sets h = let e : t + 0 ≡ t = omega arith in rw e h
    gather_keeps (suc k) t sets h =
        let e : t + suc k ≡ t + 1 + k = omega arith in
        let p = first_port (serves os sets) (list_of n s t) in
        rw e (
        cond_ok (IfEvery (P (t + 1 + k))) (has t Y) _ _
        (λ b.
        cond_ok (IfEvery (P (t + 1 + k))) (eqb p 0) Missing _ (λ z. tt)
        (λ z.
        gather_keeps k (t + 1) (gets sets p t)
        (take t p sets b (first_ok (serves os sets) (list_of n s t) (eqb-false p 0 z)) h)))
        (λ b. gather_keeps k (t + 1) sets (skip t sets b h)))

-- ---- the targets below t, each in exactly one of the sets, nobody else in any

pub record Shared (os : List Output) (Y t : ℕ) (sets : List ℕ) : Type 0 where
  pub full : length sets ≡ output_count
  pub ports : (j : ℕ) → (get_or sets j 0 ≡ 0 → ⊥) → (1 ≤ j) × (j ≤ port_count)
  pub free : (j : ℕ) → (get_or sets j 0 ≡ 0 → ⊥) → is_empty os j ≡ true
  pub low : (j : ℕ) → get_or sets j 0 < 2 ^ t
  pub done : (u : ℕ) → u < t → sum (λ z. bit u z) sets ≡ bit u Y
  pub later : (u : ℕ) → t ≤ u → sum (λ z. bit u z) sets ≡ 0

wider : (t X : ℕ) → X < 2 ^ t → X < 2 ^ (t + 1)
wider t X h = lt_of_lt_of_le h (pow_mono (omega arith))

module _ (os : List Output) (Y : ℕ) where
  shared_none : Shared os Y 0 unchosen
  unfolding sum
  shared_none =
      record {
        full = refl;
        ports = λ j h. absurd (h (zeros j));
        free = λ j h. absurd (h (zeros j));
        low = λ j. omega (arith, zeros j);
        done = λ u h. absurd (omega arith);
        later = λ u h. omega (arith, bit_none u);
      }

  shared_skip : (t : ℕ) (sets : List ℕ) → has t Y ≡ false → Shared os Y t sets → Shared os Y (t + 1) sets
  shared_skip t sets b g =
      record {
        full = g.full;
        ports = g.ports;
        free = g.free;
        low = λ j. wider t (get_or sets j 0) (g.low j);
        done = λ u h. at u h (ℕ_discrete u t);
        later = λ u h. g.later u (omega arith);
      }
    where
      at : (u : ℕ) → u < t + 1 → Dec (u ≡ t) → sum (λ z. bit u z) sets ≡ bit u Y
      at u h (yes e) = g.later u (omega arith) ∙ sym (bit_out u Y (rw e b))
      at u h (no e) = g.done u (omega arith)

  shared_take : (t p : ℕ) (sets : List ℕ) → has t Y ≡ true → serves os sets p ≡ true → Shared os Y t sets
      → Shared os Y (t + 1) (gets sets p t)
  shared_take t p sets b sv g =
      record {
        full = length-set sets p (plus t (get_or sets p 0)) ∙ g.full;
        ports =
            all_set (λ j z. (z ≡ 0 → ⊥) → (1 ≤ j) × (j ≤ port_count)) sets p (plus t (get_or sets p 0)) 0 (λ h. (ok.0, ok.1))
            g.ports;
        free =
            all_set (λ j z. (z ≡ 0 → ⊥) → is_empty os j ≡ true) sets p (plus t (get_or sets p 0)) 0 (λ h. ok.2) g.free;
        low =
            all_set (λ j z. z < 2 ^ (t + 1)) sets p (plus t (get_or sets p 0)) 0
            (plus_within (t + 1) t (get_or sets p 0) (omega arith) (wider t (get_or sets p 0) (g.low p)))
            (λ j. wider t (get_or sets j 0) (g.low j));
        done = λ u h. at u h (ℕ_discrete u t);
        later = λ u h. omega (arith, more u, g.later u (omega arith), ap count (ne_eqb u t (omega arith)));
      }
    where
      ok : (1 ≤ p) × (p ≤ port_count) × (is_empty os p ≡ true)
      ok = served os sets p sv (g.free p)

      new : has t (get_or sets p 0) ≡ false
      new = outside t (get_or sets p 0) t (g.low p) (omega arith)

      more : (u : ℕ) → sum (λ z. bit u z) (gets sets p t) ≡ sum (λ z. bit u z) sets + count (eqb u t)
      more u =
          omega (
            arith,
            sum_set (λ z. bit u z) sets p (plus t (get_or sets p 0)) 0 (omega (arith, ok.1, g.full)),
            ap (λ z. bit u z) (plus_out t (get_or sets p 0) new),
            bit_add t u (get_or sets p 0) new,
          )

      at : (u : ℕ) → u < t + 1 → Dec (u ≡ t) → sum (λ z. bit u z) (gets sets p t) ≡ bit u Y
      at u h (yes e) =
          omega (arith, more u, g.later u (omega arith), ap count (eq-eqb u t e), bit_in u Y (rw e b))
      at u h (no e) = omega (arith, more u, g.done u (omega arith), ap count (ne_eqb u t e))

-- where the gathering finds an output for every target
pub gather_shares : (n : Network) (s : ℕ) (os : List Output) (Y : ℕ) → IfEvery (Shared os Y n.sites) (gather n s os Y)
unfolding gather
gather_shares n s os Y =
    rw (zero-add n.sites) at (
    gather_keeps n s os Y (Shared os Y) (shared_skip os Y) (shared_take os Y) n.sites 0 unchosen (shared_none os Y))

-- an output that is no port has no share
pub no_share : (os : List Output) (Y S : ℕ) (sets : List ℕ) → Shared os Y S sets → (j : ℕ) → (1 ≤ j → j ≤ port_count → ⊥)
    → get_or sets j 0 ≡ 0
no_share os Y S sets g j h = go (ℕ_discrete (get_or sets j 0) 0)
  where
    go : Dec (get_or sets j 0 ≡ 0) → get_or sets j 0 ≡ 0
    go (yes e) = e
    go (no e) = let p = g.ports j e in absurd (h p.0 p.1)

-- of a Y within the sites: each is in as many of the sets as in Y
pub share_sum : (os : List Output) (Y S : ℕ) (sets : List ℕ) → Y < 2 ^ S → Shared os Y S sets → (u : ℕ)
    → sum (λ z. bit u z) sets ≡ bit u Y
share_sum os Y S sets h g u = go (dec_lt u S)
  where
    go : Dec (u < S) → sum (λ z. bit u z) sets ≡ bit u Y
    go (yes l) = g.done u l
    go (no l) = g.later u (omega arith) ∙ sym (bit_high S u Y h (omega arith))

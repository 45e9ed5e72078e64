-- What the method `find` of a range of numbers answers: the first at which a test fails. Assumes nothing.
use denote.Param.Members.{Mut}
use denote.Ref.{Bor}
use Rattle.std.specs.Prelude.{◌≡◌, refl, Bool, true, false, not, ⊤, List, ℕ, ◌≤◌, ◌<◌}
use Rattle.std.proofs.Common.{arith}
use Rattle.std.specs.declared.ops.Range.{Range}
use Rattle.std.specs.declared.option.Option.{Option}
use Rattle.std.specs.declared.option.Option.TheVariants.{Some, None}
use Rattle.std.specs.Option.{MatchOption}
use Rattle.std.specs.Fn.{CalledAt}
use Rattle.std.specs.Iterator.{YieldsThen}
use Rattle.std.specs.List.{FoldsTo}
use Rattle.std.proofs.iter.Yields.{nat_range_steps}
use Rattle.std.proofs.lemmas.Iterator.{first_from_Range}
use Rattle.base.specs.All.{all_by}
use Rattle.format.specs.First.{Found}

module _ (p : ℕ → Bool) (n : ℕ) where
  to_found : (r : Option ℕ)
      → MatchOption r ((k : ℕ) → 0 ≤ k → k < n → p k ≡ true)
      (λ i. (0 ≤ i) × (i < n) × (p i ≡ false) × ((k : ℕ) → 0 ≤ k → k < i → p k ≡ true))
      → Found p n r
  to_found None h = all_by p n (λ k l. h k (omega arith) l)
  to_found (Some i) h = record { below = h.1; here = h.2; before = λ k l. h.3 k (omega arith) l }

  -- `(0..n).find(f)`, where each call of f answers whether p fails and changes nothing
  pub found_in_range : {F : Type 0} {g : Mut F (Bor ℕ × Unit {0}) Bool} (u : Range ℕ) (f : F) (r : Option ℕ)
      → (xs : List ℕ) × (j : F) × YieldsThen nat_range_steps (record { start = 0; end = n }) xs r u
      × FoldsTo (λ p x q. CalledAt g p x false q) f xs j × MatchOption r ⊤ (λ x. (h : F) × CalledAt g j x true h)
      → ((x : ℕ) (b : Bool) (q : F) → CalledAt g f x b q → (q ≡ f) × (b ≡ not (p x)))
      → Found p n r
  found_in_range u f r ran gives =
      to_found r (first_from_Range (record { start = 0; end = n }) u f r (λ x. p x ≡ false) (λ x. p x ≡ true) ran
      (λ x q k. not_true (p x) (gives x true q k).1) (λ x q k. let w = gives x false q k in (w.0, not_false (p x) w.1)))
    where
      not_true : (b : Bool) → true ≡ not b → b ≡ false
      not_true false e = refl
      not_true true e = e

      not_false : (b : Bool) → false ≡ not b → b ≡ true
      not_false true e = refl
      not_false false e = e

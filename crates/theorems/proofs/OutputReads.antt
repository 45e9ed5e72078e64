-- What is read of the outputs that `give` and `occupy` leave, and of the marks of chosen outputs. Assumes nothing.
use Prim.Native.Nat.{ℕ, ◌<◌}
use mathlib.Core.Path.{◌≡◌, refl, sym, ◌∙◌}
use mathlib.Core.List.{List, [], ◌∷◌}
use mathlib.Core.Bool.{Bool, true, false, cond}
use native.Mathlib.Decide.{dec_lt}
use native.Mathlib.Omega.{arith}
use lib.ListN.{get_or, length}
use Rattle.base.specs.Sizes.{output_count}
use Rattle.base.specs.Bools.{cond_ok, clash}
use Rattle.base.specs.Lists.{all_set}
use Rattle.base.specs.Over.{over, over_below, over_above, length_over}
use Rattle.theorems.specs.Names.{Terminator, Output}
use Rattle.model.specs.Types.{no_output, no_marks, out_of, mark, out_term}
use Rattle.model.specs.Router.{is_chosen}
use Rattle.model.specs.NetInput.{give, taken, occupy, marks_of}
use Rattle.model.specs.Places.{remote}

-- outputs of which some are changed, by their places
module _ (os : List Output) (full : length os ≡ output_count) (b : ℕ → Bool) (v : ℕ → Output) where
  changed_at : (j : ℕ) → j < output_count
      → out_of (over (λ j. cond (b j) (v j) (out_of os j)) output_count os) j ≡ cond (b j) (v j) (out_of os j)
  changed_at j l = over_below (λ j. cond (b j) (v j) (out_of os j)) output_count os j no_output l (omega arith)

  changed_ok : (P : Output → Type 0) (j : ℕ) → (j < output_count → b j ≡ true → P (v j)) → P (out_of os j)
      → P (out_of (over (λ j. cond (b j) (v j) (out_of os j)) output_count os) j)
  changed_ok P j new old = go (dec_lt j output_count)
    where
      go : Dec (j < output_count) → P (out_of (over (λ j. cond (b j) (v j) (out_of os j)) output_count os) j)
      go (yes l) = rw (changed_at j l) (cond_ok P (b j) (v j) (out_of os j) (new l) (λ e. old))
      go (no l) = rw (over_above (λ j. cond (b j) (v j) (out_of os j)) output_count os j no_output (omega arith)) old

-- terminators given to the marked outputs
module _ (f : ℕ → Terminator) (bs : List Bool) (os : List Output) (full : length os ≡ output_count) where
  pub length_give : length (give f bs os) ≡ output_count
  unfolding give
  length_give = length_over (λ j. cond (mark bs j) (out_term (out_of os j) (f j)) (out_of os j)) output_count os ∙ full

  pub give_at : (j : ℕ) → j < output_count
      → out_of (give f bs os) j ≡ cond (mark bs j) (out_term (out_of os j) (f j)) (out_of os j)
  unfolding give
  give_at j l = changed_at os full (mark bs) (λ j. out_term (out_of os j) (f j)) j l

  -- what holds of the old output, and of the new one where it is marked
  pub give_ok : (P : Output → Type 0) (j : ℕ) → (j < output_count → mark bs j ≡ true → P (out_term (out_of os j) (f j)))
      → P (out_of os j) → P (out_of (give f bs os) j)
  unfolding give
  give_ok P j new old = changed_ok os full (mark bs) (λ j. out_term (out_of os j) (f j)) P j new old

-- the chosen outputs taken for packet q of input i
module _ (q i : ℕ) (sets : List ℕ) (os : List Output) (full : length os ≡ output_count) where
  pub length_occupy : length (occupy q i sets os) ≡ output_count
  unfolding occupy
  length_occupy =
      length_over (λ j. cond (is_chosen sets j) (taken q i (get_or sets j 0)) (out_of os j)) output_count os ∙ full

  pub occupy_at : (j : ℕ) → j < output_count
      → out_of (occupy q i sets os) j ≡ cond (is_chosen sets j) (taken q i (get_or sets j 0)) (out_of os j)
  unfolding occupy
  occupy_at j l = changed_at os full (is_chosen sets) (λ j. taken q i (get_or sets j 0)) j l

  pub occupy_ok : (P : Output → Type 0) (j : ℕ)
      → (j < output_count → is_chosen sets j ≡ true → P (taken q i (get_or sets j 0)))
      → P (out_of os j) → P (out_of (occupy q i sets os) j)
  unfolding occupy
  occupy_ok P j new old = changed_ok os full (is_chosen sets) (λ j. taken q i (get_or sets j 0)) P j new old

-- their marks
pub length_marks : (sets : List ℕ) → length (marks_of sets) ≡ output_count
unfolding marks_of
length_marks sets = length_over (is_chosen sets) output_count no_marks

pub mark_at : (sets : List ℕ) (j : ℕ) → j < output_count → mark (marks_of sets) j ≡ is_chosen sets j
unfolding marks_of
mark_at sets j l = over_below (is_chosen sets) output_count no_marks j false l (omega arith)

-- the marks but that of output 0
pub remote_mark : (bs : List Bool) (j : ℕ) → mark (remote bs) j ≡ true → mark bs j ≡ true
remote_mark bs = all_set (λ j b. b ≡ true → mark bs j ≡ true) bs 0 false false (λ e. absurd (clash (sym e))) (λ j e. e)

pub remote_zero : (bs : List Bool) → mark (remote bs) 0 ≡ false
remote_zero [] = refl
remote_zero (b ∷ bs) = refl

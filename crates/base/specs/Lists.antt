-- Reads of lists after writes: one entry changed, the front taken away, one appended. Reads name the value that stands
-- for every place past the end, so the laws ask no bound where none is needed. Assumes nothing.
use Rattle.std.specs.Prelude.{◌≡◌, refl, List, [], ◌∷◌, ◌++◌, ℕ, zero, suc, ◌≤◌, ◌<◌, get_or, set, drop, length, replicate}
use Rattle.std.proofs.Common.{sym, ap, ◌∙◌, not-suc-le-zero, le_of_suc-le-suc, arith, length-append}
use Rattle.std.proofs.Math.Decide.{dec_lt}
use Rattle.std.proofs.Math.ListN.{get_or-eq_default}

-- ---- one entry written

module _ {A : Type 0} where
  -- a field that the write leaves alone
  pub proj_set : {B : Type 0} (f : A → B) (l : List A) (i j : ℕ) (v d : A) → f v ≡ f (get_or l i d)
      → f (get_or (set l i v) j d) ≡ f (get_or l j d)
  proj_set f [] i j v d h = refl
  proj_set f (x ∷ xs) zero zero v d h = h
  proj_set f (x ∷ xs) zero (suc j) v d h = refl
  proj_set f (x ∷ xs) (suc i) zero v d h = refl
  proj_set f (x ∷ xs) (suc i) (suc j) v d h = proj_set f xs i j v d h

  -- what holds of each entry and of the new one holds of each entry after the write
  pub all_set : (P : ℕ → A → Type 0) (l : List A) (i : ℕ) (v d : A) → P i v → ((j : ℕ) → P j (get_or l j d)) → (j : ℕ)
      → P j (get_or (set l i v) j d)
  all_set P [] i v d h all j = all j
  all_set P (x ∷ xs) zero v d h all zero = h
  all_set P (x ∷ xs) zero v d h all (suc j) = all (suc j)
  all_set P (x ∷ xs) (suc i) v d h all zero = all zero
  all_set P (x ∷ xs) (suc i) v d h all (suc j) = all_set (λ k. P (suc k)) xs i v d h (λ k. all (suc k)) j

  -- the same, where the old entry at i need not have it
  pub all_but : (P : ℕ → A → Type 0) (l : List A) (i : ℕ) (v d : A) → i < length l → P i v
      → ((j : ℕ) → (j ≡ i → ⊥) → P j (get_or l j d)) → (j : ℕ) → P j (get_or (set l i v) j d)
  all_but P [] i v d b h all j = absurd (not-suc-le-zero b)
  all_but P (x ∷ xs) zero v d b h all zero = h
  all_but P (x ∷ xs) zero v d b h all (suc j) = all (suc j) (λ e. omega arith)
  all_but P (x ∷ xs) (suc i) v d b h all zero = all zero (λ e. omega arith)
  all_but P (x ∷ xs) (suc i) v d b h all (suc j) =
      all_but (λ k. P (suc k)) xs i v d (le_of_suc-le-suc b) h (λ k ne. all (suc k) (λ e. ne (omega arith))) j

  -- what relates each entry to itself, and the old one at i to the new one, relates each entry to that after the write
  pub rel_set : (R : A → A → Type 0) (l : List A) (i : ℕ) (v d : A) → ((a : A) → R a a) → R (get_or l i d) v → (j : ℕ)
      → R (get_or l j d) (get_or (set l i v) j d)
  rel_set R [] i v d r h j = r d
  rel_set R (x ∷ xs) zero v d r h zero = h
  rel_set R (x ∷ xs) zero v d r h (suc j) = r (get_or xs j d)
  rel_set R (x ∷ xs) (suc i) v d r h zero = r x
  rel_set R (x ∷ xs) (suc i) v d r h (suc j) = rel_set R xs i v d r h j

  -- two changes of entries, in either order; where they are one entry the changes must commute
  pub modify_swap : (l : List A) (i k : ℕ) (f g : A → A) (d : A) → (i ≡ k → (a : A) → f (g a) ≡ g (f a))
      → set (set l i (f (get_or l i d))) k (g (get_or (set l i (f (get_or l i d))) k d))
      ≡ set (set l k (g (get_or l k d))) i (f (get_or (set l k (g (get_or l k d))) i d))
  modify_swap [] i k f g d h = refl
  modify_swap (x ∷ xs) zero zero f g d h = ap (λ a. a ∷ xs) (sym (h refl x))
  modify_swap (x ∷ xs) zero (suc k) f g d h = refl
  modify_swap (x ∷ xs) (suc i) zero f g d h = refl
  modify_swap (x ∷ xs) (suc i) (suc k) f g d h = ap (λ l. x ∷ l) (modify_swap xs i k f g d (λ e. h (ap suc e)))

  -- ---- other lists

  -- a fact of the entries of an array of b places, and of what is read beyond it
  pub beyond : (P : ℕ → A → Type 0) (l : List A) (d : A) (b : ℕ) → length l ≡ b
      → ((i : ℕ) → i < b → P i (get_or l i d)) → ((i : ℕ) → b ≤ i → P i d) → (i : ℕ) → P i (get_or l i d)
  beyond P l d b len h k i = go (dec_lt i b)
    where
      go : Dec (i < b) → P i (get_or l i d)
      go (yes e) = h i e
      go (no e) = let z : get_or l i d ≡ d = get_or-eq_default l d (omega arith) in rw z (k i (omega arith))

  -- the same value everywhere, and past the end
  pub same_at : (k i : ℕ) (a : A) → get_or (replicate k a) i a ≡ a
  same_at zero i a = refl
  same_at (suc k) zero a = refl
  same_at (suc k) (suc i) a = same_at k i a

  -- the value past the end, appended
  pub append_at : (l : List A) (z : A) (k : ℕ) → get_or (l ++ (z ∷ [])) k z ≡ get_or l k z
  append_at [] z zero = refl
  append_at [] z (suc k) = refl
  append_at (x ∷ xs) z zero = refl
  append_at (x ∷ xs) z (suc k) = append_at xs z k

  -- the front away, what is behind it moved up
  pub pop_at : (l : List A) (z : A) (k : ℕ) → get_or (drop 1 l ++ (z ∷ [])) k z ≡ get_or l (suc k) z
  pop_at [] z k = append_at [] z k
  pop_at (x ∷ xs) z k = append_at xs z k

  pub length_pop : (l : List A) (z : A) (n : ℕ) → length l ≡ suc n → length (drop 1 l ++ (z ∷ [])) ≡ suc n
  length_pop [] z n h = refl ∙ ap suc (let e : 0 ≡ n = omega arith in e)
  length_pop (x ∷ xs) z n h = length-append xs (z ∷ []) ∙ omega arith

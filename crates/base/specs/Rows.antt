-- A list of known length, spelled out. Assumes nothing.
use Rattle.std.specs.Prelude.{◌≡◌, refl, List, [], ◌∷◌, ℕ, zero, suc, length, get_or}
use Rattle.std.proofs.Common.{ap, subst}

-- f 0, f 1, .., n of them: at a numeral n it computes to the list written out
abbrev pub rows : {A : Type 0} → ℕ → (ℕ → A) → List A
rows zero f = []
rows (suc n) f = f 0 ∷ rows n (λ i. f (suc i))

rows_get_d : {A : Type 0} (d : A) (l : List A) → l ≡ rows (length l) (λ i. get_or l i d)
rows_get_d d [] = refl
rows_get_d d (a ∷ l) = ap (λ (k : List _). a ∷ k) (rows_get_d d l)

-- a list of length n is the list of its n entries
pub spelled : {A : Type 0} (n : ℕ) (d : A) (l : List A) → length l ≡ n → l ≡ rows n (λ i. get_or l i d)
spelled n d l e = subst (λ (k : ℕ). l ≡ rows k (λ i. get_or l i d)) e (rows_get_d d l)

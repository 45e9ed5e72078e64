-- Four bytes copied into the book, as four stores. Assumes nothing.
use Prim.Native.Nat.{ℕ, zero, suc, ◌+◌, ◌≤◌}
use mathlib.Core.Path.{◌≡◌, refl, ap}
use mathlib.Core.List.{List, [], ◌∷◌, ◌++◌}
use native.Mathlib.Omega.{arith}
use lib.ListN.{length, take, drop, set}
use borrow.Rule.Slice.PartMut.{put_mid}

module _ (x y z w : ℕ) where
  four : (a : ℕ) (b : List ℕ) → a + 4 ≤ length b
      → take a b ++ (x ∷ y ∷ z ∷ w ∷ drop 4 (drop a b)) ≡ set (set (set (set b a x) (suc a) y) (suc (suc a)) z) (suc (suc (suc a))) w
  four zero [] h = absurd (omega arith)
  four zero (p ∷ []) h = absurd (omega arith)
  four zero (p ∷ q ∷ []) h = absurd (omega arith)
  four zero (p ∷ q ∷ r ∷ []) h = absurd (omega arith)
  four zero (p ∷ q ∷ r ∷ s ∷ b) h = refl
  four (suc a) [] h = absurd (omega arith)
  four (suc a) (p ∷ b) h = ap (λ (l : List ℕ). p ∷ l) (four a b (omega arith))

  pub copied : (b : List ℕ) (a k : ℕ) → k ≡ 4 → a + 4 ≤ length b
      → put_mid a k b (x ∷ y ∷ z ∷ w ∷ []) ≡ set (set (set (set b a x) (a + 1) y) (a + 2) z) (a + 3) w
  copied b a k e h =
      let one : a + 1 ≡ suc a = omega arith in
      let two : a + 2 ≡ suc (suc a) = omega arith in
      let three : a + 3 ≡ suc (suc (suc a)) = omega arith in
      rw (e, one, two, three) (four a b h)

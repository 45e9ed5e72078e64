-- A search through the routes row by row is one through them by number. Assumes nothing.
use mathlib.Core.Path.{◌≡◌, refl, sym, ap, ap₂, ◌∙◌}
use mathlib.Core.Bool.{Bool, true, false}
use Prim.Native.Nat.{ℕ, suc, ◌+◌, ◌*◌, ◌/◌, ◌%◌, ◌≤◌, ◌<◌}
use native.Mathlib.Nat.{le_refl, suc-mul, mod-lt, div-add-mod', div-lt_iff_lt-mul}
use native.Mathlib.Decide.{dec_lt}
use native.Mathlib.Omega.{arith}
use lib.Arith.{digits_div, digits_mod}
use Rattle.base.specs.All.{all, all_at, all_by}
use Rattle.base.specs.Flat.{place_below}
use Rattle.types.specs.declared.Network.{Network}
use Rattle.model.specs.Network.{route_ok, routes_ok}
use Rattle.format.specs.First.{Fails}
use Rattle.format.specs.Faults.{numbered_ok}
use Rattle.faults.proofs.Numbers.{row_below, rest_below}

-- ---- routes by number

-- route s x S + t is that from site s to site t
pub route_numbered : (n : Network) (s t : ℕ) → t < n.sites → numbered_ok n (s * n.sites + t) ≡ route_ok n s t
route_numbered n s t h = ap₂ (λ (a c : ℕ). route_ok n a c) (digits_div s h) (digits_mod s h)

same_test : (a c : Bool) → (a ≡ true → c ≡ true) → (c ≡ true → a ≡ true) → a ≡ c
same_test true c h k = sym (h refl)
same_test false true h k = k refl
same_test false false h k = refl

-- all of them are the model's routes
pub routes_numbered : (n : Network) → all (numbered_ok n) (n.sites * n.sites) ≡ routes_ok n
routes_numbered n =
    let S = n.sites in
    same_test (all (numbered_ok n) (S * S)) (routes_ok n)
    (λ h.
    all_by (λ s. all (route_ok n s) S) S
    (λ s ls.
    all_by (route_ok n s) S
    (λ t lt.
    sym (route_numbered n s t lt)
    ∙ all_at (numbered_ok n) (s * S + t) (S * S) (place_below s t S S ls lt (le_refl S)) h)))
    (λ h.
    all_by (numbered_ok n) (S * S)
    (λ k l.
    all_at (route_ok n (k / S)) (k % S) S (rest_below S k l)
    (all_at (λ s. all (route_ok n s) S) (k / S) S (row_below S k l) h)))

-- ---- row by row

-- a number i before place t of row s is in an earlier row, or in row s before t
row_or_rest : (S s t i : ℕ) → t < S → i < s * S + t → i / S ≤ s
row_or_rest S s t i l h =
    let some : 0 < S = omega arith in
    let d : i / S < suc s = (div-lt_iff_lt-mul some).1 (omega (arith, suc-mul s S)) in
    omega arith

rest_before : (S s t i : ℕ) → i < s * S + t → i / S ≡ s → i % S < t
rest_before S s t i h q =
    let m : i ≡ s * S + i % S = sym (div-add-mod' i S) ∙ ap (λ (k : ℕ). k * S + i % S) q in
    omega arith

module _ (n : Network) (s : ℕ) (rows : all (λ k. all (route_ok n k) n.sites) s ≡ true) where
  -- the rows before s pass, and so does row s before place t
  earlier : (t i : ℕ) → t < n.sites → ((j : ℕ) → j < t → route_ok n s j ≡ true) → i < s * n.sites + t
      → numbered_ok n i ≡ true
  earlier t i l f h = go (dec_lt (i / n.sites) s)
    where
      go : Dec (i / n.sites < s) → numbered_ok n i ≡ true
      go (yes e) =
          all_at (route_ok n (i / n.sites)) (i % n.sites) n.sites (mod-lt i (omega arith))
          (all_at (λ k. all (route_ok n k) n.sites) (i / n.sites) s e rows)
      go (no e) =
          let q : i / n.sites ≡ s = omega (arith, row_or_rest n.sites s t i l h) in
          ap (λ (k : ℕ). route_ok n k (i % n.sites)) q ∙ f (i % n.sites) (rest_before n.sites s t i h q)

  -- t is the first that fails in row s
  found : (t : ℕ) → s < n.sites → Fails (route_ok n s) n.sites t → Fails (numbered_ok n) (n.sites * n.sites) (s * n.sites + t)
  found t ls f =
      record {
        below = place_below s t n.sites n.sites ls f.below (le_refl n.sites);
        here = route_numbered n s t f.below ∙ f.here;
        before = λ i h. earlier t i f.below f.before h;
      }

-- with S as the code has it
module _ (n : Network) (S s : ℕ) (eS : S ≡ n.sites) (rows : all (λ k. all (route_ok n k) S) s ≡ true) where
  pub row_found : (t : ℕ) → s < S → Fails (route_ok n s) S t → Fails (numbered_ok n) (S * S) (s * S + t)
  row_found t ls f = rw eS (found n s (rw eS at rows) t (rw eS at ls) (rw eS at f))

  pub rows_passed : s ≡ S → all (numbered_ok n) (S * S) ≡ true
  rows_passed e =
      let all-rows : all (λ k. all (route_ok n k) n.sites) n.sites ≡ true = rw (e, eS) at rows in
      rw eS (routes_numbered n ∙ all-rows)

-- Bytes put into a list from a place on; what stands before and behind them stays. Assumes nothing.
use Rattle.std.specs.Prelude.{◌≡◌, List, [], ◌++◌, ℕ, ◌+◌, ◌≤◌, length, take, drop}
use Rattle.std.proofs.Common.{sym, ap, ap₂, ◌∙◌, append_assoc, append-nil, add-zero, zero-add, arith, length-append, take-append-drop, length-take-le, take_at, drop-drop}
use Rattle.std.proofs.Math.Seq.{drop-append-add}
use Rattle.base.specs.Answers.{at_front}

-- the list with the bytes xs from place p on
unfoldable pub put : List ℕ → ℕ → List ℕ → List ℕ
put out p xs = take p out ++ xs ++ drop (p + length xs) out

pub put_none : (out : List ℕ) (p : ℕ) → put out p [] ≡ out
unfolding put
put_none out p =
    ap (λ (k : ℕ). take p out ++ [] ++ drop k out) (add-zero p)
    ∙ ap (λ (l : List ℕ). l ++ drop p out) (append-nil (take p out))
    ∙ take-append-drop p out

-- from place 0 on: at the front
pub put_front : (out xs : List ℕ) → put out 0 xs ≡ at_front xs out
unfolding put at_front
put_front out xs = ap (λ (k : ℕ). xs ++ drop k out) (zero-add (length xs))

-- one part behind another
pub put_append : (out a : List ℕ) (p q : ℕ) (xs ys : List ℕ) → p ≤ length out → a ≡ put out p xs → q ≡ p + length xs
    → put a q ys ≡ put out p (xs ++ ys)
unfolding put
put_append out a p q xs ys h e f =
    let x = take p out ++ xs in
    let d = drop (p + length xs) out in
    let lx : length x ≡ q = length-append (take p out) xs ∙ omega (arith, length-take-le p out h) in
    let t : take q (x ++ d) ≡ x = take_at x d q lx in
    let n : p + length xs + length ys ≡ p + length (xs ++ ys) = omega (arith, length-append xs ys) in
    let u : drop (q + length ys) (x ++ d) ≡ drop (p + length (xs ++ ys)) out
    = ap (λ (k : ℕ). drop (k + length ys) (x ++ d)) (sym lx)
    ∙ drop-append-add x d (length ys)
    ∙ drop-drop (length ys) (p + length xs) out
    ∙ ap (λ (k : ℕ). drop k out) n in
    rw e (ap₂ (λ (l m : List ℕ). l ++ ys ++ m) t u ∙ ap (λ (l : List ℕ). l ++ drop (p + length (xs ++ ys)) out)
    (append_assoc (take p out) xs ys))

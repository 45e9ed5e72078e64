use mathlib.Core.Path.{◌≡◌, ap, ◌∙◌}
use Prim.Native.Nat.{ℕ, ◌+◌, ◌*◌}
use Rattle.layout.specs.Layout.{arrived_from, arrived_place}
use Rattle.layout.specs.Words.{fields_at}
use native.Mathlib.Omega.{arith}
use Rattle.layout.proofs.Peeked.{lacks_peeked}
use Rattle.words.proofs.load.front_lacks.Goals as goal

pub returns : goal.returns
returns c =
    let a = c.args in
    let e : arrived_from + 8 * a.q ≡ arrived_place a.q 0 = omega arith in
    lacks_peeked _ _ c.requires.0 a.q 0 _ c.requires.1 (omega arith)
    (c.fields_at.ensures ∙ ap (λ (k : ℕ). fields_at a.words.now a.s k) e)

-- `latency::uncontended` meets its contract. Assumes nothing.
use mathlib.Core.Path.{◌≡◌, refl, sym, ◌∙◌}
use mathlib.Core.Bool.{Bool, true}
use Prim.Native.Nat.{ℕ, ◌≤◌}
use native.Mathlib.Omega.{arith}
use Rattle.latency.specs.Latency.{argument_most, arguments_ok, ceiling, latencies}
use Rattle.latency.proofs.Limits.{Arguments, arguments, ceiling_most}
use Rattle.latency.proofs.Compared.{by_cycles_lem}
use Rattle.latency.proofs.uncontended.Goals as goal

-- cycles of an argument are no more than the largest one
few : (x W c : ℕ) → c ≡ ceiling x W → 1 ≤ W → x ≤ argument_most → c ≤ argument_most
few x W c e some most = omega (arith, e, ceiling_most x W some, most)

-- what the arguments are, where they pass the test
known : (t L D n W : ℕ) {r : Bool} → r ≡ arguments_ok t L D n W → r ≡ true → Arguments t L D n W
known t L D n W e h = arguments t L D n W (sym e ∙ h)

pub ceiling-requires : goal.ceiling-requires
ceiling-requires c = let a = c.args in let k = known a.t a.l a.d a.n a.w c.are_arguments.ensures c.if-not-are_arguments.false in (k.w_some, k.t_most)

pub ceiling-requires-2 : goal.ceiling-requires-2
ceiling-requires-2 c = let a = c.args in let k = known a.t a.l a.d a.n a.w c.are_arguments.ensures c.if-not-are_arguments.false in (k.w_some, k.l_most)

pub by_cycles-requires : goal.by_cycles-requires
by_cycles-requires c =
    let a = c.args in
    let k = known a.t a.l a.d a.n a.w c.are_arguments.ensures c.if-not-are_arguments.false in (
      few a.t a.w _ c.ceiling.ensures k.w_some k.t_most,
      few a.l a.w _ c.ceiling-2.ensures k.w_some k.l_most,
      k.d_most,
      k.n_some,
      k.n_most,
    )

pub returns-then-not-are_arguments : goal.returns-then-not-are_arguments
unfolding latencies
returns-then-not-are_arguments c = rw (← c.are_arguments.ensures, c.if-not-are_arguments.true) refl

pub returns : goal.returns
returns c =
    let a = c.args in
    c.by_cycles.ensures ∙ rw (c.ceiling-2.ensures, c.ceiling.ensures) refl
    ∙ sym (by_cycles_lem a.t a.l a.d a.n a.w (sym c.are_arguments.ensures ∙ c.if-not-are_arguments.false))

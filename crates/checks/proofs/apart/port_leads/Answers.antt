-- `apart::port_leads` meets its contract: the channel is that of the array, and 0 behind its end. Assumes nothing.
use mathlib.Core.Path.{◌≡◌, sym, ap, ◌∙◌}
use Prim.Native.Nat.{ℕ, ◌+◌, ◌*◌}
use lib.ListN.{length, get_or-eq_default}
use native.Mathlib.Omega.{arith}
use Rattle.base.specs.Sizes.{sites_most, port_count}
use Rattle.checks.specs.Apart.{ends_at}
use borrow.Author.Rules.{rules}
use Rattle.checks.proofs.apart.port_leads.Goals as goal

pub returns : goal.returns
returns c =
    let a = c.args in
    let l : length a.channels ≡ port_count * sites_most = search rules in
    let e = get_or-eq_default a.channels 0 {n = port_count * a.s + a.j} (omega arith) in
    c.ends_at-2.ensures ∙ sym (ap (λ (x : ℕ). ends_at x a.u) e)

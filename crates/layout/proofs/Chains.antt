-- Stores one after the other: at one site, or at another that may be the same. Assumes what each law names.
use mathlib.Core.Path.{◌≡◌}
use mathlib.Core.List.{List}
use Prim.Native.Nat.{ℕ, suc, ◌+◌, ◌/◌, ◌%◌, ◌<◌}
use native.Mathlib.Numerals.{add-one}
use Rattle.base.specs.Sizes.{sites_most}
use Rattle.types.specs.declared.Input.{Input}
use Rattle.types.specs.declared.Output.{Output}
use Rattle.types.specs.declared.OutQueue.{OutQueue}
use Rattle.types.specs.declared.Site.{Site}
use Rattle.model.specs.Types.{site_at, set_site, set_in, set_out, with_out_queue}
use Rattle.model.specs.Steps.{set_far}
use Rattle.layout.specs.Layout.{end_site, end_input}
use Rattle.layout.specs.Words.{sites_of}
use Rattle.layout.specs.Stored.{Stored, leaving_count}
use Rattle.layout.proofs.Chained.{then_own, then_far}

module _ (c d e : List ℕ) where
  -- a second store at one site, for the places that rules change
  module _ (s : ℕ) (x : Site) (h : s < sites_most) (p : Stored c d (set_site (sites_of c) s x)) where
    pub then_input : (i : ℕ) (y : Input) → Stored d e (set_site (sites_of d) s (set_in (site_at (sites_of d) s) i y))
        → Stored c e (set_site (sites_of c) s (set_in x i y))
    then_input i y q = then_own c d e s x (λ z. set_in z i y) h p q

    pub then_output : (j : ℕ) (o : Output) → Stored d e (set_site (sites_of d) s (set_out (site_at (sites_of d) s) j o))
        → Stored c e (set_site (sites_of c) s (set_out x j o))
    then_output j o q = then_own c d e s x (λ z. set_out z j o) h p q

    pub then_out_queue : (oq : OutQueue) → Stored d e (set_site (sites_of d) s (with_out_queue (site_at (sites_of d) s) oq))
        → Stored c e (set_site (sites_of c) s (with_out_queue x oq))
    then_out_queue oq q = then_own c d e s x (λ z. with_out_queue z oq) h p q

    pub then_out_count : (m : ℕ) → Stored d e (set_site (sites_of d) s (leaving_count (site_at (sites_of d) s) m))
        → Stored c e (set_site (sites_of c) s (leaving_count x m))
    then_out_count m q = then_own c d e s x (λ z. leaving_count z m) h p q

  -- an output, then the input at the end of its channel: at another site, or at the same
  pub passed_by_lem : (s j b byte : ℕ) (o : Output) (y : Input) → b ≡ byte
      → Stored c d (set_site (sites_of c) s (set_out (site_at (sites_of c) s) (j + 1) o))
      → Stored d e (set_site (sites_of d) (end_site b) (set_in (site_at (sites_of d) (end_site b)) (end_input b) y))
      → Stored c e (set_far (set_site (sites_of c) s (set_out (site_at (sites_of c) s) (suc j) o)) byte y)
  passed_by_lem s j b byte o y f p q =
      rw (← f, ← add-one j, ← add-one (b % 4))
      (then_far c d e (set_site (sites_of c) s (set_out (site_at (sites_of c) s) (j + 1) o)) (b / 4) (λ z. set_in z (b % 4 + 1) y) p q)

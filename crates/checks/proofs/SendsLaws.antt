-- The test of a send after the last one's draw number is the model's test of it. Assumes nothing.
use mathlib.Core.Path.{◌≡◌, refl, sym, ap}
use mathlib.Core.Bool.{Bool, true, false, cond, ◌&&◌, ◌||◌}
use Prim.Native.Nat.{ℕ, ◌+◌, ◌-◌}
use native.Mathlib.Omega.{arith}
use borrow.Author.Tests.{ne_eqb, le-leb}
use lib.Dec.{eqb, ltb, leb}
use Rattle.base.specs.All.{all, all_same}
use Rattle.sets.specs.Sets.{targets}
use Rattle.types.specs.declared.StoredSend.{StoredSend}
use Rattle.types.specs.declared.Run.{Run}
use Rattle.model.specs.Types.{send_at}
use Rattle.model.specs.Runs.{send_ok, sends_ok}
use Rattle.checks.specs.Sends.{draw_before, send_in}

pub draw_next : (f : ℕ → StoredSend) (k : ℕ) → (f k).draw ≡ draw_before f (k + 1)
draw_next f k =
    let e : k + 1 - 1 ≡ k = omega arith in
    sym (rw (ne_eqb (k + 1) 0 (λ q. omega arith), e) refl)

not_falling : (f : ℕ → StoredSend) (k d : ℕ) → leb (draw_before f k) d ≡ eqb k 0 || leb (f (k - 1)).draw d
not_falling f k d = go (eqb k 0)
  where
    go : (b : Bool) → leb (cond b 0 (f (k - 1)).draw) d ≡ b || leb (f (k - 1)).draw d
    go true = le-leb 0 d (omega arith)
    go false = refl

pub send_in_lem : (r : Run) (k : ℕ) → send_in r.network.sites r.draws (send_at r) k ≡ send_ok r k
send_in_lem r k =
    ap
    (λ (b : Bool).
    ltb (send_at r k).site r.network.sites
    && targets r.network.sites (send_at r k).set
    && leb (send_at r k).draw r.draws
    && b)
    (not_falling (send_at r) k (send_at r k).draw)

-- the sends of a run
pub sends_in : (r : Run) → all (send_in r.network.sites r.draws (send_at r)) r.count ≡ sends_ok r
sends_in r = all_same (send_in r.network.sites r.draws (send_at r)) (send_ok r) r.count (λ k h. send_in_lem r k)

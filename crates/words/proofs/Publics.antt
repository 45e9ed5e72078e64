-- The refusals that RUN and SEND on any lent words share, and what is known where none of them is given. Assumes nothing.
use mathlib.Core.Path.{◌≡◌, refl, sym, ap, ◌∙◌}
use mathlib.Core.List.{List}
use mathlib.Core.Bool.{Bool, true, false, cond, ◌&&◌}
use Prim.Native.Nat.{ℕ, ◌<◌, ◌≤◌}
use native.Mathlib.Omega.{arith}
use borrow.Author.Tests.{eqb-true, eqb-false, eq-eqb, ne_eqb}
use lib.Dec.{eqb}
use lib.ListN.{length}
use Rattle.base.specs.Sizes.{sites_most, queue_room}
use Rattle.base.specs.Bools.{both, first_of}
use Rattle.base.specs.All.{all}
use Rattle.types.specs.declared.State.{State}
use Rattle.types.specs.declared.Network.{Network}
use Rattle.model.specs.Types.{site_at}
use Rattle.model.specs.Network.{network_refusal}
use Rattle.model.specs.Range.{place_ok, in_range}
use Rattle.theorems.proofs.Networks.{valid_ok}
use Rattle.std.specs.Array.{IsWholeChunk}
use Rattle.layout.specs.Layout.{word_count}
use Rattle.layout.specs.Words.{sites_of, state_of, canonical, is_state}
use Rattle.words.specs.Events.{RunAsks}
use Rattle.layout.specs.Public.{shared_refusal}
use Rattle.words.proofs.RunLaws.{run_asks}

-- ---- in range

-- the test of all sites, k being the counter
pub range_found : (n : Network) (k : ℕ) (c : List ℕ) (ok : Bool) → k ≡ (state_of c).counter
    → ok ≡ all (λ t. place_ok n.edition n.sites n.tries n.depth k t (site_at (sites_of c) t)) sites_most → ok ≡ in_range n (state_of c)
unfolding in_range
range_found n k c ok e f = rw (← e) f

-- as many words as a state has, and another number
pub sized_state : (c : List ℕ) → length c ≡ word_count → is_state c ≡ canonical c
sized_state c h = rw (eq-eqb (length c) word_count h) refl

pub unsized_state : (c : List ℕ) → (length c ≡ word_count → ⊥) → is_state c ≡ false
unsized_state c h = rw (ne_eqb (length c) word_count h) refl

-- lent words of the right number, as the array that they are
pub whole_state : (c d : List ℕ) → IsWholeChunk c d word_count → is_state c ≡ canonical d
whole_state c d w = sized_state c w.long ∙ ap canonical (sym w.same)

sized : (c : List ℕ) → is_state c ≡ true → length c ≡ word_count
sized c h = eqb-true (length c) word_count (both (eqb (length c) word_count) (canonical c) h).0

-- ---- the refusals that both share

module _ (n : Network) (c : List ℕ) where
  abbrev st : State
  st = state_of c

  abbrev fits : Bool
  fits = is_state c && in_range n st

  pub shared_network : (k : ℕ) → k ≡ network_refusal n → (k ≡ 0 → ⊥) → k ≡ shared_refusal n c
  unfolding shared_refusal
  shared_network k e ne = rw (← e, ne_eqb k 0 ne) refl

  pub shared_fit : (k : ℕ) (a b : Bool) → length c ≡ word_count → k ≡ network_refusal n → k ≡ 0 → a ≡ canonical c → b ≡ in_range n st
      → cond (a && b) 0 13 ≡ shared_refusal n c
  unfolding shared_refusal
  shared_fit k a b l e z f g = rw (← e, z, sized_state c l, ← f, ← g) refl

  -- what is known where none of them is given
  pub record Fit : Type 0 where
    pub network : network_refusal n ≡ 0
    pub size : length c ≡ word_count
    pub form : canonical c ≡ true
    pub state : is_state c ≡ true
    pub range : in_range n st ≡ true

  pub fit : shared_refusal n c ≡ 0 → Fit
  unfolding shared_refusal
  fit h = go (eqb (network_refusal n) 0) refl h
    where
      go : (b : Bool) → eqb (network_refusal n) 0 ≡ b → cond b (cond fits 0 13) (network_refusal n) ≡ 0 → Fit
      go true e k =
          let f = both (is_state c) (in_range n st) (first_of fits 0 13 0 (λ z. omega arith) k).0 in
          let g = both (eqb (length c) word_count) (canonical c) f.0 in
          record { network = eqb-true (network_refusal n) 0 e; size = sized c f.0; form = g.1; state = f.0; range = f.1 }
      go false e k = absurd (eqb-false (network_refusal n) 0 e k)

-- ---- what RUN in place asks

-- what SEND in place asks
pub sendable : (n : Network) (c : List ℕ) → shared_refusal n c ≡ 0 → (n.sites ≤ sites_most) × (n.depth ≤ queue_room)
sendable n c none = let ok = fit n c none in let val = valid_ok n ok.network in (val.few, val.deep)

pub runnable : (n : Network) (c : List ℕ) (s : ℕ) → shared_refusal n c ≡ 0 → s < n.sites → RunAsks n c s
runnable n c s none hs =
    let ok = fit n c none in run_asks n c s (valid_ok n ok.network) ok.range hs

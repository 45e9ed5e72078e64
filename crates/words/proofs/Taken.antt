-- What SEND has stored: the new entry, the count, the counter's word. Assumes what each law names.
use mathlib.Core.Path.{◌≡◌, refl, sym, ap, ◌∙◌}
use mathlib.Core.List.{List}
use mathlib.Core.Bool.{false}
use Prim.Native.Nat.{ℕ, ◌≤◌}
use native.Mathlib.Omega.{arith}
use borrow.Author.Tests.{ne_eqb}
use lib.ListN.{length, get_or-eq_default}
use Rattle.base.specs.Sizes.{sites_most}
use Rattle.types.specs.declared.Site.{Site}
use Rattle.types.specs.declared.State.{State}
use Rattle.types.specs.declared.Network.{Network}
use Rattle.types.specs.declared.Sent.TheVariants.{the_data as Sent, Refused}
use Rattle.model.specs.Types.{site_d, set_site, with_out_queue, push_out}
use Rattle.model.specs.Steps.{enqueue}
use Rattle.model.specs.Events.{send_fault_by, sends}
use Rattle.model.specs.Runs.{try_send}
use Rattle.layout.specs.Layout.{word_count}
use Rattle.layout.specs.Words.{sites_of, state_of}
use Rattle.layout.specs.Stored.{Stored, Counted}
use Rattle.words.specs.Events.{Took, tried, site_in}
use Rattle.layout.proofs.Decoded.{all_sites}

-- what SEND does is said of a network's sites and depth alone
pub tried_is : (n : Network) (st : State) (s X : ℕ) → tried n.sites n.depth st s X ≡ try_send n st s X
unfolding tried
tried_is n st s X = refl

-- where there is no site there is no entry
pub no_entries : (c : List ℕ) (s : ℕ) → sites_most ≤ s → 0 ≡ (site_in c s).outgoing.count
no_entries c s h = sym (ap (λ (x : Site). x.outgoing.count) (get_or-eq_default (sites_of c) site_d {n = s} (omega (arith, all_sites c))))

-- SEND's own refusal on the words c
abbrev fault : List ℕ → ℕ → ℕ → ℕ → ℕ → ℕ
fault c S D s X = send_fault_by S D (state_of c).counter (site_in c s).outgoing.count s X

module _ (c d : List ℕ) where
  -- the packet, then the counter's word
  pub counted : (e : List ℕ) (s q X k : ℕ)
      → Stored c d (set_site (sites_of c) s (with_out_queue (site_in c s) (push_out (site_in c s).outgoing (record { set = X; packet = q; started = false }))))
      → Counted d e (sites_of d) k → Counted c e (enqueue (sites_of c) s q X) k
  unfolding enqueue
  counted e s q X k p w =
      record { size = w.size; sites = w.sites ∙ p.sites; counter = w.counter; kept = λ ok. w.kept (p.kept ok) }

  pub took_accepted : (S D s X f : ℕ) (r : Sent) → f ≡ fault c S D s X → f ≡ 0 → Took c d r (sends (state_of c) s X)
      → Took c d r (tried S D (state_of c) s X)
  unfolding tried
  took_accepted S D s X f r e z p = rw (← e, z) p

-- refused: nothing is written
pub took_refused : (c : List ℕ) (S D s X f : ℕ) → length c ≡ word_count → f ≡ fault c S D s X
    → (f ≡ 0 → ⊥) → Took c c (Refused f) (tried S D (state_of c) s X)
unfolding tried
took_refused c S D s X f h e ne =
    rw (← e, ne_eqb f 0 ne) (record { answer = refl; size = h; state = refl; kept = λ ok. ok })

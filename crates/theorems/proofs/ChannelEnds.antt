-- The two ends of a channel, each changed by itself: an input that receives, an output whose head is marked as taken.
-- Assumes that the places are there: sites below 16, ports 1 to 4.
use Prim.Native.Nat.{ℕ, suc, ◌+◌, ◌<◌}
use mathlib.Core.Path.{◌≡◌, refl, sym, ap, ◌∙◌, subst₂}
use mathlib.Core.List.{List}
use mathlib.Core.Bool.{true}
use native.Mathlib.Omega.{arith}
use native.Mathlib.Decide.{ℕ_discrete}
use lib.ListN.{length, length-set}
use lib.Seq.{get_or-set_same, get_or-set_other}
use Rattle.base.specs.Sizes.{sites_most, input_count, output_count, port_count}
use Rattle.base.specs.Lists.{proj_set, all_set}
use Rattle.base.specs.Sums.{sum_set}
use Rattle.theorems.specs.Names.{Received, Input, Output, Site, Network}
use Rattle.model.specs.Types.{input_d, site_d, no_output, site_at, in_at, out_at, out_head, set_site, set_in, set_out}
use Rattle.model.specs.Network.{channel, joined, end_site, end_port}
use Rattle.types.specs.Phases.{listening, as_terminator}
use Rattle.model.specs.Types.{received}
use Rattle.model.specs.Steps.{far_end}
use Rattle.model.specs.Owing.{owes_as, owes_input, owes_output, owed}
use Rattle.theorems.proofs.Invariant.{tag_out, claim, due, Conn, SiteOk, Link, Inv, Kept, inv_set, owed_set}
use Rattle.theorems.proofs.ConnectionLaws.{listening_owes, received_owes, received_conn}
use Rattle.theorems.proofs.OutputLaws.{head_ok}

-- ---- reads of the sites after a write at one place

-- a read of entry k' at site u', where site u became x, which differs in its entry k at most
other_at : {A : Type 0} (f : Site → A) (st : List Site) (u k u' k' : ℕ) (x : Site) → (u' ≡ u → k' ≡ k → ⊥)
    → ((k' ≡ k → ⊥) → f x ≡ f (site_at st u)) → f (site_at (set_site st u x) u') ≡ f (site_at st u')
other_at f st u k u' k' x ne h = go (ℕ_discrete k' k)
  where
    go : Dec (k' ≡ k) → f (site_at (set_site st u x) u') ≡ f (site_at st u')
    go (yes e) = ap f (get_or-set_other st u u' x site_d (λ a. ne a e))
    go (no e) = proj_set f st u u' x site_d (h e)

pub in_other : (st : List Site) (u k u' k' : ℕ) (y : Input) → (u' ≡ u → k' ≡ k → ⊥)
    → in_at (site_at (set_site st u (set_in (site_at st u) k y)) u') k' ≡ in_at (site_at st u') k'
in_other st u k u' k' y ne =
    other_at (λ (x : Site). in_at x k') st u k u' k' _ ne (get_or-set_other (site_at st u).inputs k k' y input_d)

out_other : (st : List Site) (u k u' k' : ℕ) (o : Output) → (u' ≡ u → k' ≡ k → ⊥)
    → out_at (site_at (set_site st u (set_out (site_at st u) k o)) u') k' ≡ out_at (site_at st u') k'
out_other st u k u' k' o ne =
    other_at (λ (x : Site). out_at x k') st u k u' k' _ ne (get_or-set_other (site_at st u).outputs k k' o no_output)

module _ (n : Network) (st : List Site) (inv : Inv n st) (s : ℕ) (hs : s < sites_most) where
  pub in_same : (k : ℕ) (y : Input) → k < input_count → in_at (site_at (set_site st s (set_in (site_at st s) k y)) s) k ≡ y
  in_same k y hk =
      ap (λ (x : Site). in_at x k) (get_or-set_same st s _ site_d (omega (arith, inv.all_sites)))
      ∙ get_or-set_same (site_at st s).inputs k y input_d (omega (arith, (inv.site s hs).ins))

  pub out_same : (j : ℕ) (o : Output) → j < output_count
      → out_at (site_at (set_site st s (set_out (site_at st s) j o)) s) j ≡ o
  out_same j o hj =
      ap (λ (x : Site). out_at x j) (get_or-set_same st s _ site_d (omega (arith, inv.all_sites)))
      ∙ get_or-set_same (site_at st s).outputs j o no_output (omega (arith, (inv.site s hs).outs))

-- ---- an input that listens receives; no output with its head taken may feed it any more

module _ (n : Network) (st : List Site) (u k : ℕ) (r : Received) (inv : Inv n st) (hu : u < sites_most)
    (hk : k < port_count) (hl : listening (in_at (site_at st u) (suc k)).phase ≡ true) where
  abbrev far : Input
  far = in_at (site_at st u) (suc k)

  abbrev told : Site
  told = set_in (site_at st u) (suc k) (received r far)

  told_ok : SiteOk u told
  told_ok =
      let x = site_at st u in
      let ok = inv.site u hu in
      let y = received r far in
      record {
        ins = length-set x.inputs (suc k) y ∙ ok.ins;
        outs = ok.outs;
        leaving = rw (get_or-set_other x.inputs (suc k) 0 y input_d (λ e. omega arith)) ok.leaving;
        queues = ok.queues;
        landing = ok.landing;
        conn =
            all_set (λ i z. Conn u i z (out_at x)) x.inputs (suc k) y input_d
            (received_conn far hl r u (suc k) (out_at x) (ok.conn (suc k))) ok.conn;
        quiet = ok.quiet;
      }

  pub told_inv : ((s j : ℕ) → s < n.sites → j < port_count → joined n s (suc j) ≡ true
      → due (out_at (site_at st s) (suc j)) ≡ true → end_site (channel n s (suc j)) ≡ u → end_port (channel n s (suc j)) ≡ suc k → ⊥)
      → Inv n (set_site st u told)
  told_inv alone =
      inv_set n st u told inv told_ok
      (λ s j hs hj hb.
      let b = channel n s (suc j) in
      rw (proj_set (λ (x : Site). out_at x (suc j)) st u s told site_d refl)
      (λ hh.
      let ne : end_site b ≡ u → end_port b ≡ suc k → ⊥ = λ a c. alone s j hs hj hb hh a c in
      rw (in_other st u (suc k) (end_site b) (end_port b) (received r far) ne) (inv.link s j hs hj hb hh)))

  pub told_owed : (p t : ℕ)
      → owed (set_site st u told) p t ≡ owed st p t + owes_as (as_terminator r) u p t far.packet far.set
  told_owed p t =
      let len : suc k < length (site_at st u).inputs = omega (arith, (inv.site u hu).ins) in
      omega (
        arith,
        owed_set n st u told inv p t hu,
        sum_set (owes_input u p t) (site_at st u).inputs (suc k) (received r far) input_d len,
        listening_owes far hl u p t,
        received_owes far hl r u p t,
      )

-- ---- a head is marked as taken; the input at the end waits for it

module _ (n : Network) (st : List Site) (s j : ℕ) (inv : Inv n st) (hs : s < sites_most) (hj : j < port_count) where
  abbrev o : Output
  o = out_at (site_at st s) (suc j)

  abbrev headed : Site
  headed = set_out (site_at st s) (suc j) (out_head o)

  headed_link : claim (far_end st (channel n s (suc j))) ≡ tag_out o → Link n (set_site st s headed)
  headed_link hc s' j' hs' hj' hb' =
      let b = channel n s' (suc j') in
      rw (proj_set (λ (x : Site). in_at x (end_port b)) st s (end_site b) headed site_d refl)
      (go (ℕ_discrete s' s) (ℕ_discrete j' j))
    where
      Goal : ℕ → ℕ → Type 0
      Goal a c =
          due (out_at (site_at (set_site st s headed) a) (suc c)) ≡ true
          → claim (far_end st (channel n a (suc c))) ≡ tag_out (out_at (site_at (set_site st s headed) a) (suc c))

      other : (s' ≡ s → suc j' ≡ suc j → ⊥) → Goal s' j'
      other ne = rw (out_other st s (suc j) s' (suc j') (out_head o) ne) (inv.link s' j' hs' hj' hb')

      same : Goal s j
      same h = hc ∙ sym (ap tag_out (out_same n st inv s hs (suc j) (out_head o) (omega arith)))

      go : Dec (s' ≡ s) → Dec (j' ≡ j) → Goal s' j'
      go (yes a) (yes c) = subst₂ Goal (sym a) (sym c) same
      go (no a) d = other (λ e f. a e)
      go (yes a) (no c) = other (λ e f. c (omega arith))

  pub headed_kept : claim (far_end st (channel n s (suc j))) ≡ tag_out o → Kept n st (set_site st s headed) (λ p t. 0)
  headed_kept hc =
      let len : suc j < length (site_at st s).outputs = omega (arith, (inv.site s hs).outs) in
      record {
        inv =
            inv_set n st s headed inv (head_ok s (site_at st s) j (out_head o) (inv.site s hs) hj refl) (headed_link hc);
        total =
            λ p t.
            omega (
              arith,
              owed_set n st s headed inv p t hs,
              sum_set (owes_output s p t) (site_at st s).outputs (suc j) (out_head o) no_output len,
            );
      }

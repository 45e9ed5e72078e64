-- The rules of net-outputs 1 to 4, which change an output and the input at the end of its channel, keep the invariant
-- and what is owed. Assumes a valid network.
use Prim.Native.Nat.{ℕ, suc, ◌<◌, ◌%◌}
use mathlib.Core.Path.{◌≡◌, refl, sym, ap, ◌∙◌, subst, subst₂}
use mathlib.Core.List.{List}
use mathlib.Core.Bool.{true, false, ◌&&◌}
use native.Mathlib.Omega.{arith}
use lib.Seq.{set-get_or}
use Rattle.base.specs.Sizes.{sites_most, port_count}
use Rattle.base.specs.Bools.{clash, cond_ok, both}
use Rattle.base.specs.Lists.{proj_set, modify_swap}
use Rattle.theorems.specs.Names.{Received, got_end, got_abort, Terminator, t_none, t_end, t_abort, t_keep, Free, Input, Output}
use Rattle.theorems.specs.Names.{Site, Network}
use Rattle.model.specs.Types.{input_d, site_d, no_output, site_at, in_at, out_at, out_head, out_closing, with_inputs, set_site, set_in, set_out}
use Rattle.model.specs.Network.{holds, channel, joined, end_site, end_port}
use Rattle.types.specs.Phases.{is_free, listening, is_none, as_terminator}
use Rattle.model.specs.Types.{received}
use Rattle.model.specs.NetInput.{Turn}
use Rattle.model.specs.Places.{seeking, head_on, delivered, term_on, deliver, give_up, channel_output}
use Rattle.model.specs.Steps.{far_end, set_far, pass_turn, patch}
use Rattle.model.specs.Owing.{owes_as, owes_output}
use Rattle.theorems.proofs.Networks.{Valid}
use Rattle.theorems.proofs.Invariant.{tag_out, claim, due, closing_idle, Fed, Inv, Kept, StepOk, good_kept, still}
use Rattle.theorems.proofs.ConnectionLaws.{tag_owes, no_claim, phase_owes, phase_claim, in_good, listening_claim, free_is}
use Rattle.theorems.proofs.OutputLaws.{unfed_term, unfed_closing, gone_good}
use Rattle.theorems.proofs.ChannelEnds.{in_same, out_same, told_inv, told_owed, headed_kept}

-- what end and abort owe does not depend on the site
terminator_site : (r : Received) (s u p t q X : ℕ)
    → owes_as (as_terminator r) s p t q X ≡ owes_as (as_terminator r) u p t q X
terminator_site got_end s u p t q X = refl
terminator_site got_abort s u p t q X = refl

terminator_some : (r : Received) → is_none (as_terminator r) ≡ false
terminator_some got_end = refl
terminator_some got_abort = refl

-- an input written back as it was
far_set : (st : List Site) (b : ℕ) → set_far st b (far_end st b) ≡ st
far_set st b =
    let x = site_at st (end_site b) in
    ap (λ ys. set_site st (end_site b) (with_inputs x ys)) (set-get_or x.inputs (end_port b) input_d)
    ∙ set-get_or st (end_site b) site_d

-- what delivery leaves, in any edition: no terminator, and none to come
delivered_ok : (edition : ℕ) (o : Output) → ((delivered edition o).terminator ≡ t_none) × (due (delivered edition o) ≡ false)
delivered_ok edition o =
    cond_ok (λ (v : Output). (v.terminator ≡ t_none) × (due v ≡ false)) (holds edition) (out_closing o) no_output
    (λ h. (refl, refl)) (λ h. (refl, refl))

module _ (n : Network) (val : Valid n) (st : List Site) (inv : Inv n st) (s j : ℕ) (hs : s < n.sites)
    (hj : j < port_count) where
  abbrev b : ℕ
  b = channel n s (suc j)

  abbrev x : Site
  x = site_at st s

  abbrev o : Output
  o = out_at x (suc j)

  -- the input at the end, whatever becomes of the output
  far_same : (v : Output) → far_end (set_site st s (set_out x (suc j) v)) b ≡ far_end st b
  far_same v = proj_set (λ (z : Site). in_at z (end_port b)) st s (end_site b) (set_out x (suc j) v) site_d refl

  s16 : s < sites_most
  s16 = omega (arith, val.few)

  module _ (hb : joined n s (suc j) ≡ true) where
    u16 : end_site b < sites_most
    u16 = omega (arith, val.ends s j hs hj hb, val.few)

    -- the terminator delivered: first the output becomes v, then the input is told
    term_kept : (r : Received) (v : Output) → due o ≡ true → o.terminator ≡ as_terminator r
        → listening (far_end st b).phase ≡ true → v.terminator ≡ t_none → due v ≡ false
        → Kept n st (set_far (set_site st s (set_out x (suc j) v)) b (received r (far_end st b))) (λ p t. 0)
    term_kept r v hh hk hl bare none =
        let u = end_site b in
        let y = far_end st b in
        let x₁ = set_out x (suc j) v in
        let st₁ = set_site st s x₁ in
        let unfed : (i : ℕ) → Fed i o → ⊥ = λ i. unfed_term (ap is_none hk ∙ terminator_some r) in
        let gone =
        good_kept n st s x₁ inv (λ p t. owes_output s p t o) s16
        (gone_good s x j v (inv.site s s16) hj unfed bare none) in
        let alone : (s' j' : ℕ) → s' < n.sites → j' < port_count → joined n s' (suc j') ≡ true
        → due (out_at (site_at st₁ s') (suc j')) ≡ true → end_site (channel n s' (suc j')) ≡ u
        → end_port (channel n s' (suc j')) ≡ end_port b → ⊥ =
        λ s' j' hs' hj' hb' hh' eu ek.
        let e = val.apart s j s' j' hs hj hs' hj' hb (omega arith) in
        let h : due (out_at (site_at st₁ s) (suc j)) ≡ true =
        subst₂ (λ a c. due (out_at (site_at st₁ a) (suc c)) ≡ true) (sym e.0) (sym e.1) hh' in
        clash (sym h ∙ ap due (out_same n st inv s s16 (suc j) v (omega arith)) ∙ none) in
        let k : b % port_count < port_count = omega arith in
        let l : listening (far_end st₁ b).phase ≡ true = rw (far_same v) hl in
        subst (λ (z : Input). Kept n st (set_far st₁ b (received r z)) (λ p t. 0)) (far_same v)
        (record {
          inv = told_inv n st₁ u (b % port_count) r gone.inv u16 k l alone;
          total =
              λ p t.
              omega (
                arith,
                gone.total p t,
                told_owed n st₁ u (b % port_count) r gone.inv u16 k l p t,
                ap (λ (k : Terminator). owes_as k s p t o.packet o.set) hk,
                terminator_site r s u p t o.packet o.set,
                ap (λ (z : Input). owes_as (as_terminator r) u p t z.packet z.set) (far_same v),
                tag_owes (as_terminator r) u p t (sym (listening_claim y hl) ∙ inv.link s j hs hj hb hh),
              );
        })

    -- the head passed on: first the input, then the output's mark
    head_kept : is_free (far_end st b).phase ≡ true
        → let st₁ = set_far st b (seeking o.packet o.set) in
        Kept n st (set_site st₁ s (set_out (site_at st₁ s) (suc j) (out_head (out_at (site_at st₁ s) (suc j))))) (λ p t. 0)
    head_kept hf =
        let u = end_site b in
        let k = end_port b in
        let y = far_end st b in
        let v = seeking o.packet o.set in
        let x₁ = set_in (site_at st u) k v in
        let fr = free_is y.phase hf in
        let sought =
        good_kept n st u x₁ inv (λ p t. 0) u16
        (in_good u (site_at st u) k (inv.site u u16) (omega arith) v (no_claim y v (phase_claim y Free fr)) tt
        (λ p t. sym (phase_owes y Free fr u p t))) in
        let same : out_at (site_at (set_far st b v) s) (suc j) ≡ o =
        proj_set (λ (z : Site). out_at z (suc j)) st u s x₁ site_d refl in
        let headed =
        headed_kept n (set_far st b v) s j sought.inv s16 hj
        (ap claim (in_same n st inv u u16 k v (omega arith)) ∙ sym (ap tag_out same)) in
        record { inv = headed.inv; total = λ p t. omega (arith, sought.total p t, headed.total p t) }

  -- the rules; y is the input at the end of the channel, if there is one
  module _ (y : Input) (ye : joined n s (suc j) ≡ true → y ≡ far_end st b) where
    abbrev TurnOk : Turn Output Input → Type 0
    TurnOk r = StepOk n st (patch n st s (pass_turn x (suc j) r))

    term_on_ok : (r : Received) → due o ≡ true → o.terminator ≡ as_terminator r
        → TurnOk (term_on n.edition (joined n s (suc j)) o y r)
    term_on_ok r hh hk =
        cond_ok TurnOk (joined n s (suc j) && listening y.phase) _ _
        (λ h.
        let w = both (joined n s (suc j)) (listening y.phase) h in
        let e = ye w.0 in
        let l : listening (far_end st b).phase ≡ true = rw (← e) w.1 in
        let v = delivered n.edition o in
        let d = delivered_ok n.edition o in
        subst (λ (z : Input). Kept n st (set_far (set_site st s (set_out x (suc j) v)) b (received r z)) (λ p t. 0))
        (sym e) (term_kept w.0 r v hh hk l d.0 d.1))
        (λ h. still n st inv)

    head_on_ok : TurnOk (head_on (joined n s (suc j)) o y)
    head_on_ok =
        cond_ok TurnOk (joined n s (suc j) && is_free y.phase) _ _
        (λ h.
        let w = both (joined n s (suc j)) (is_free y.phase) h in
        let v = seeking o.packet o.set in
        subst (λ (l : List Site). Kept n st l (λ p t. 0))
        (sym
        (modify_swap st s (end_site b) (λ z. set_out z (suc j) (out_head (out_at z (suc j))))
        (λ z. set_in z (end_port b) v) site_d (λ e a. refl)))
        (head_kept w.0 (rw (← ye w.0) w.1)))
        (λ h. still n st inv)

    deliver_ok : (k : Terminator) → due o ≡ true → o.terminator ≡ k
        → TurnOk (deliver n.edition (joined n s (suc j)) o y k)
    unfolding deliver
    deliver_ok t_none hh e = still n st inv
    deliver_ok t_end hh e = term_on_ok got_end hh e
    deliver_ok t_abort hh e = term_on_ok got_abort hh e
    deliver_ok t_keep hh e = still n st inv

    -- a closing output, which no input feeds and which owes nothing, is emptied; the input stays as it is
    give_up_ok : o.closing ≡ true → TurnOk (give_up (joined n s (suc j)) y)
    give_up_ok c =
        cond_ok TurnOk (joined n s (suc j) && is_free y.phase) _ _
        (λ h.
        let st₁ = set_site st s (set_out x (suc j) no_output) in
        let e = ye (both (joined n s (suc j)) (is_free y.phase) h).0 ∙ sym (far_same no_output) in
        let gone =
        good_kept n st s _ inv (λ p t. owes_output s p t o) s16
        (gone_good s x j no_output (inv.site s s16) hj (λ i. unfed_closing c) refl refl) in
        let none = (inv.site s s16).quiet (suc j) (closing_idle o c) in
        subst (λ (l : List Site). Kept n st l (λ p t. 0)) (sym (ap (set_far st₁ b) e ∙ far_set st₁ b))
        (record {
          inv = gone.inv;
          total =
              λ p t. omega (arith, gone.total p t, ap (λ (k : Terminator). owes_as k s p t o.packet o.set) none);
        }))
        (λ h. still n st inv)

    pub channel_output_ok : TurnOk (channel_output n.edition (joined n s (suc j)) o y)
    unfolding channel_output
    channel_output_ok =
        cond_ok TurnOk o.used _ _
        (λ a.
        cond_ok TurnOk o.head _ _
        (λ h. cond_ok TurnOk o.closing _ _ give_up_ok (λ c. deliver_ok o.terminator (rw (a, h, c) refl) refl))
        (λ h. head_on_ok))
        (λ a. still n st inv)

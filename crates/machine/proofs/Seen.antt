-- RUN looks at the inputs at the ends of its own channels alone, and what it passes on goes to one of them. Assumes nothing.
use Prim.Native.Nat.{ℕ, zero, suc, ◌-◌, ◌/◌, ◌%◌, ◌<◌, ◌*◌}
use mathlib.Core.Path.{◌≡◌, refl, sym, ap, ap₂, ◌∙◌}
use mathlib.Core.List.{List}
use mathlib.Core.Bool.{Bool, true, false, cond, ◌&&◌, ◌||◌}
use native.Mathlib.Omega.{arith}
use native.Mathlib.Decide.{dec_lt}
use borrow.Author.Tests.{ltb-true, le-leb, eq-eqb, ne_eqb}
use lib.Dec.{eqb, ltb, leb}
use Rattle.base.specs.Sizes.{output_count, split_port, port_count, sites_most}
use Rattle.base.specs.Bools.{cond_ok, implies, either_way}
use Rattle.base.specs.All.{all_same}
use Rattle.types.specs.declared.Phase.TheVariants.{the_data as Phase, Free, Seek, Open, Wait, Done, Last, Abort as Aborted, FinAbort}
use Rattle.types.specs.declared.Input.{Input}
use Rattle.types.specs.declared.Output.{Output}
use Rattle.types.specs.declared.Site.{Site}
use Rattle.types.specs.declared.Network.{Network}
use Rattle.model.specs.Types.{no_input, site_at, in_at, out_at, queue_at, queue_port, is_local, mark, out_of, carries, set_in, set_out, set_queue, with_out_queue}
use Rattle.model.specs.Network.{joined, channel, is_channel, end_port}
use Rattle.types.specs.Phases.{listening}
use Rattle.model.specs.NetInput.{Turn, Stay, To, all_ready, hears, ready, in_state, net_input}
use Rattle.model.specs.Places.{Work, Rest, Cleared, Service, local_output, channel_output, out_queue, operator, timeout}
use Rattle.model.specs.Steps.{Act, own_turn, pass_turn, work_done, operator_at, local_at, set_both, net_output, act, far_end, ends}
use Rattle.theorems.proofs.Networks.{Valid}
use Rattle.theorems.proofs.Editions.{unjoined}
use Rattle.machine.specs.Step.{of_act, EndsWithin, Passable, far_at, four_ends}

-- ---- two ways to see the far ends that agree on the channels that there are

module _ (n : Network) (s : ℕ) (x : Site) (f g : ℕ → Input)
    (same : (j : ℕ) → j < 4 → joined n s (suc j) ≡ true → f (suc j) ≡ g (suc j)) where
  hears_same : (j : ℕ) → j < output_count → hears (joined n s) f j ≡ hears (joined n s) g j
  unfolding hears
  hears_same zero h = refl
  hears_same (suc j) h = go (dec_lt j port_count) (joined n s (suc j)) refl
    where
      go : Dec (j < port_count) → (b : Bool) → joined n s (suc j) ≡ b
          → (is_local (suc j) || b && listening (f (suc j)).phase) ≡ (is_local (suc j) || b && listening (g (suc j)).phase)
      go (yes l) true e = ap (λ (y : Input). is_local (suc j) || listening y.phase) (same j l e)
      go d false e = refl
      go (no l) true e = let z : suc j ≡ split_port = omega arith in rw (ne_eqb (suc j) 0 (λ e. omega arith), eq-eqb (suc j) split_port z) refl

  ready_same : (os : List Output) (j : ℕ) → j < output_count → ready (joined n s) f os j ≡ ready (joined n s) g os j
  ready_same os j h = ap (λ (b : Bool). carries (out_of os j) && (out_of os j).head && b) (hears_same j h)

  -- readiness as the rules see it
  abbrev by : (ℕ → Input) → List Output → ℕ → Bool
  by far os = ready (joined n s) far os

  all_same_ready : (os : List Output) (bs : List Bool) → all_ready (by f os) bs ≡ all_ready (by g os) bs
  all_same_ready os bs =
      all_same (λ j. implies (mark bs j) (by f os j)) (λ j. implies (mark bs j) (by g os j)) output_count
      (λ j h. ap (λ (b : Bool). implies (mark bs j) b) (ready_same os j h))

  state_same : (i : ℕ) (y : Input) (os : List Output) (ph : Phase) → in_state n s i y os (by f os) ph ≡ in_state n s i y os (by g os) ph
  unfolding in_state
  state_same i y os Free = refl
  state_same i y os Seek = refl
  state_same i y os (Open c) = rw (all_same_ready os y.outputs) refl
  state_same i y os (Wait c) = rw (all_same_ready os y.outputs) refl
  state_same i y os (Done c r) = rw (all_same_ready os y.outputs) refl
  state_same i y os (Last c r) = rw (all_same_ready os y.outputs) refl
  state_same i y os (Aborted c) = refl
  state_same i y os (FinAbort c r) = rw (ready_same os 0 (omega arith)) refl

  output_same : (j : ℕ) → j < 5 → net_output n s x f j ≡ net_output n s x g j
  unfolding net_output
  output_same zero h = refl
  output_same (suc j) h = ap (pass_turn x (suc j)) (go (joined n s (suc j)) refl)
    where
      o : Output
      o = out_at x (suc j)

      go : (b : Bool) → joined n s (suc j) ≡ b → channel_output n.edition b o (f (suc j)) ≡ channel_output n.edition b o (g (suc j))
      go true e = ap (channel_output n.edition true o) (same j (omega arith) e)
      go false e = unjoined n.edition o (f (suc j)) ∙ sym (unjoined n.edition o (g (suc j)))

  pub act_same : (code : ℕ) → act n s x f code ≡ act n s x g code
  unfolding act
  act_same code =
      ap₂ (λ (a b : Act). cond (ltb code 5) a b) (ap (own_turn (set_both x code)) (state_same code (in_at x code) x.outputs (in_at x code).phase))
      (either_way (ltb code 10) (λ h. rw h (outs (ltb-true code 10 h))) (λ h. rw h refl))
    where
      outs : code < 10 → net_output n s x f (code - 5) ≡ net_output n s x g (code - 5)
      outs h = output_same (code - 5) (omega arith)

-- the four ends as an array
pub four_at : (f : ℕ → Input) (j : ℕ) → j < 4 → far_at (four_ends f) (suc j) ≡ f (suc j)
four_at f zero h = refl
four_at f (suc zero) h = refl
four_at f (suc (suc zero)) h = refl
four_at f (suc (suc (suc zero))) h = refl
four_at f (suc (suc (suc (suc j)))) h = absurd (omega arith)

-- ---- what is passed on goes along a channel of the network

module _ (n : Network) (val : Valid n) (s : ℕ) (x : Site) (hs : s < n.sites) where
  abbrev PassOk : Act → Type 0
  PassOk a = Passable (of_act n s a)

  own_ok : {A B : Type 0} (f : A → B → Site) (t : Turn A B) → PassOk (own_turn f t)
  own_ok f Stay = tt
  own_ok f (To a b) = tt

  work_ok : (m : ℕ) (w : Work) → PassOk (work_done x m w)
  work_ok m Rest = tt
  work_ok m (Cleared a b) = tt
  work_ok m (Service a b q) = tt

  operator_ok : (m : ℕ) → PassOk (operator_at n.depth s x m)
  operator_ok m = work_ok m (operator n.depth s (queue_at x m) x.outgoing)

  local_ok : (m : ℕ) → PassOk (local_at n.depth x m)
  local_ok m =
      own_ok (λ o q. set_out (set_queue x m q) (queue_port m) o) (local_output n.depth (out_at x (queue_port m)) (queue_at x m))

  along : (j : ℕ) (t : Turn Output Input) → channel n s (suc j) < port_count * sites_most → PassOk (pass_turn x (suc j) t)
  along j Stay l = tt
  along j (To o y) l = l

  channel_ok_lem : (j : ℕ) (o : Output) (y : Input) → j < 4 → PassOk (pass_turn x (suc j) (channel_output n.edition (joined n s (suc j)) o y))
  channel_ok_lem j o y hj = go (joined n s (suc j)) refl
    where
      go : (b : Bool) → joined n s (suc j) ≡ b → PassOk (pass_turn x (suc j) (channel_output n.edition b o y))
      go true e = along j (channel_output n.edition true o y) (omega (arith, val.ends s j hs hj e, val.few))
      go false e = rw (unjoined n.edition o y) tt

  output_ok_lem : (far : ℕ → Input) (j : ℕ) → j < 5 → PassOk (net_output n s x far j)
  unfolding net_output
  output_ok_lem far zero h = local_ok 0
  output_ok_lem far (suc j) h = channel_ok_lem j (out_at x (suc j)) (far (suc j)) (omega arith)

  pub act_passable : (far : ℕ → Input) (code : ℕ) → PassOk (act n s x far code)
  unfolding act
  act_passable far code =
      cond_ok PassOk (ltb code 5) _ _
      (λ h. own_ok (set_both x code) (net_input n s code (in_at x code) x.outputs (ready (joined n s) far x.outputs)))
      (λ h.
      cond_ok PassOk (ltb code 10) _ _ (λ h. output_ok_lem far (code - 5) (omega (arith, ltb-true code 10 h)))
      (λ h.
      cond_ok PassOk (eqb code 10) _ _ (λ h. own_ok (λ q y. set_in (with_out_queue x q) 0 y) (out_queue x.outgoing (in_at x 0)))
      (λ h.
      cond_ok PassOk (eqb code 11) _ _ (λ h. operator_ok 0)
      (λ h.
      let i = (out_at x 0).input in
      cond_ok PassOk (eqb code 12) _ _ (λ h. own_ok (set_both x i) (timeout n.edition (queue_at x 0) x.outputs (in_at x i)))
      (λ h.
      cond_ok PassOk (eqb code 13) _ _ (λ h. local_ok 1)
      (λ h. cond_ok PassOk (eqb code 14) _ _ (λ h. operator_ok 1) (λ h. tt)))))))

-- the channels of a valid network end within the sites
pub valid_ends : (n : Network) → Valid n → (s : ℕ) → s < n.sites → EndsWithin n s
valid_ends n val s hs j hj e = omega (arith, val.ends s j hs hj e, val.few)

-- ---- the far ends as the code reads them

-- y is read by the channel b from the site u at its end
pub end_seen : (n : Network) (xs : List Site) (s : ℕ) → EndsWithin n s → (j : ℕ) → j < 4 → {b : ℕ} → b ≡ channel n s (suc j)
    → {u : ℕ} → u ≡ b / port_count % sites_most → {y : Input} → y ≡ cond (is_channel b) (in_at (site_at xs u) (end_port b)) no_input → y ≡ ends n xs s (suc j)
end_seen n xs s within j hj {b = b} e {u = u} eu ey = ey ∙ go (is_channel b) refl ∙ ap by_channel e
  where
    by_channel : ℕ → Input
    by_channel b = cond (leb (suc j) port_count && is_channel b) (far_end xs b) no_input

    go : (t : Bool) → is_channel b ≡ t → cond t (in_at (site_at xs u) (end_port b)) no_input ≡ by_channel b
    go true t =
        let low : b < port_count * sites_most = omega (arith, e, within j hj (ap is_channel (sym e) ∙ t)) in
        let there : u ≡ b / 4 = omega (arith, eu, low) in
        rw (le-leb (suc j) 4 (omega arith), t) (ap (λ (u : ℕ). in_at (site_at xs u) (end_port b)) there)
    go false t = rw (le-leb (suc j) 4 (omega arith), t) refl

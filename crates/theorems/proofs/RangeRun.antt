-- RUN keeps the sites in range, and its answer tells whether they changed; SEND keeps them in range, the counter one
-- higher. Assumes a valid network, sites in range, and a site of the network.
use Prim.Native.Nat.{ℕ, zero, suc, ◌+◌, ◌^◌, ◌≤◌, ◌<◌}
use mathlib.Core.Path.{◌≡◌, refl, sym, ap, ◌∙◌, subst}
use mathlib.Core.List.{List}
use mathlib.Core.Bool.{false}
use native.Mathlib.Omega.{arith}
use borrow.Author.Tests.{le-leb}
use lib.ListN.{get_or, length}
use lib.Seq.{get_or-set_same}
use Rattle.base.specs.Sizes.{port_count, queue_room}
use Rattle.base.specs.Bools.{clash}
use Rattle.base.specs.Lists.{proj_set}
use Rattle.theorems.specs.Names.{Input, Site, Network, Ran, Nothing, Changed, Serviced, RunRefused}
use Rattle.model.specs.Types.{input_d, no_out_entry, site_d, site_at, in_at, out_at}
use Rattle.model.specs.Types.{set_in, set_site}
use Rattle.model.specs.Network.{channel, end_site, end_port}
use Rattle.model.specs.Range.{zero_out_entry}
use Rattle.model.specs.Steps.{set_far, Act, Idle, Own, Serve, Pass, act, ends}
use Rattle.model.specs.Steps.{Stepped, patch, run, enqueue}
use Rattle.theorems.proofs.Networks.{Valid}
use Rattle.theorems.proofs.RangeTests.{Tagged, InputIn}
use Rattle.theorems.proofs.RangeQueues.{OutEntryIn, InEntryIn, queue_push, queue_map}
use Rattle.theorems.proofs.RangeSites.{SiteIn, SitesIn, in_set, outgoing_set, sites_set}
use Rattle.theorems.proofs.RangeActs.{SiteTo, PassTo, ActIn, act_in}

-- ---- what RUN writes, and what its answer tells of the sites st before and st' after

abbrev pub Told : ℕ → ℕ → List Site → List Site → Ran → Type 0
Told s k st st' Nothing = st' ≡ st
Told s k st st' Changed = st' ≡ st → ⊥
Told s k st st' (Serviced q u) = (st' ≡ st → ⊥) × (q < k) × (u ≡ s)
Told s k st st' (RunRefused r) = ⊥

pub record StepIn (n : Network) (s k : ℕ) (st : List Site) (r : Stepped) : Type 0 where
  pub range : SitesIn n k r.sites
  pub told : Told s k st r.sites r.answer

module _ (n : Network) (val : Valid n) (k : ℕ) (st : List Site) (h : SitesIn n k st) (s : ℕ) (hs : s < n.sites) where
  room : s < length st
  room = omega (arith, h.all_sites, val.few)

  own_range : (x : Site) → SiteTo n k (site_at st s) x → SitesIn n k (set_site st s x)
  own_range x g = sites_set n k st s x h hs g.inn

  own_moved : (x : Site) → SiteTo n k (site_at st s) x → set_site st s x ≡ st → ⊥
  own_moved x g e = g.moved (sym (get_or-set_same st s x site_d room) ∙ ap (λ l. site_at l s) e)

  -- over channel j + 1
  module _ (x : Site) (j : ℕ) (y : Input) (hj : j < port_count)
      (g : PassTo n s k (site_at st s) x j (ends n st s (suc j)) y) where
    abbrev b : ℕ
    b = channel n s (suc j)

    abbrev st₁ : List Site
    st₁ = set_site st s x

    end_below : end_site b < n.sites
    end_below = omega (arith, val.ends s j hs hj g.there)

    -- the input at its end, which the own site's change leaves
    same_end : in_at (site_at st₁ (end_site b)) (end_port b) ≡ ends n st s (suc j)
    same_end =
        ap (λ l. get_or l (end_port b) input_d)
        (proj_set (λ (w : Site). w.inputs) st s (end_site b) x site_d g.inputs)
        ∙ rw (le-leb (suc j) port_count hj, g.there) refl

    pass_range : SitesIn n k (set_far st₁ b y)
    pass_range =
        let h₁ = sites_set n k st s x h hs g.inn in
        let z = site_at st₁ (end_site b) in
        let ok = h₁.inside (end_site b) end_below in
        let p = end_port b in
        sites_set n k st₁ (end_site b) (set_in z p y) h₁ end_below
        (in_set n k z ok p y
        (g.far p (out_at z) (subst (λ (w : Input). InputIn n k p (out_at z) w) same_end (ok.ins p))))

    pass_moved : set_far st₁ b y ≡ st → ⊥
    pass_moved e =
        let z = site_at st₁ (end_site b) in
        let u = proj_set (λ (w : Site). w.outputs) st₁ (end_site b) s (set_in z (end_port b) y) site_d refl in
        g.moved
        (sym (u ∙ ap (λ (w : Site). w.outputs) (get_or-set_same st s x site_d room)) ∙ ap (λ l. (site_at l s).outputs) e)

  patch_in : (a : Act) → ActIn n s k (site_at st s) (ends n st s) a → StepIn n s k st (patch n st s a)
  patch_in Idle g = record { range = h; told = refl }
  patch_in (Own x) g = record { range = own_range x g; told = own_moved x g }
  patch_in (Serve x q) g = record { range = own_range x g.0; told = (own_moved x g.0, g.1, refl) }
  patch_in (Pass x zero y) g = absurd g
  patch_in (Pass x (suc j) y) g = record { range = pass_range x j y g.0 g.1; told = pass_moved x j y g.0 g.1 }

  pub run_in : (code : ℕ) → StepIn n s k st (run n st s code)
  unfolding run
  run_in code =
      patch_in (act n s (site_at st s) (ends n st s) code)
      (act_in n val s hs k (site_at st s) (h.inside s hs) (ends n st s) code)

-- ---- SEND

module _ (n : Network) (k : ℕ) where
  tag_more : {q z : ℕ} → Tagged n k q z → Tagged n (k + 1) q z
  tag_more t = record { under = omega (arith, t.under); some = t.some; within = t.within }

  site_more : (x : Site) → SiteIn n k x → SiteIn n (k + 1) x
  site_more x h =
      record {
        inputs = h.inputs;
        outputs = h.outputs;
        ins =
            λ i.
            let y = h.ins i in
            record {
              full = y.full;
              tries = y.tries;
              blank = y.blank;
              tagged = λ e. tag_more (y.tagged e);
              marks = y.marks;
              fed = y.fed;
              zeroth = y.zeroth;
              sole = y.sole;
              parted = y.parted;
              kind = y.kind;
            };
        outs =
            λ j.
            let o = h.outs j in
            record {
              tagged = λ e. tag_more (o.tagged e);
              from = o.from;
              keep = o.keep;
              closing = o.closing;
              split = o.split;
              blank = o.blank;
            };
        outgoing = queue_map _ _ _ (OutEntryIn n (k + 1)) (λ m d u. (tag_more u.0, u.1)) h.outgoing;
        incoming = h.incoming;
        queues = λ m l. queue_map _ _ _ (InEntryIn n (k + 1)) (λ i d u. tag_more u) (h.queues m l);
      }

  pub send_in_lem : (st : List Site) → n.depth ≤ queue_room → SitesIn n k st → (s X : ℕ) → s < n.sites → 0 < X
      → X < 2 ^ n.sites → (site_at st s).outgoing.count < n.depth → SitesIn n (k + 1) (enqueue st s k X)
  unfolding enqueue
  send_in_lem st deep h s X hs pos hX free =
      let up : SitesIn n (k + 1) st =
      record { all_sites = h.all_sites; inside = λ u l. site_more (site_at st u) (h.inside u l); outside = h.outside } in
      let ok = up.inside s hs in
      sites_set n (k + 1) st s _ up hs
      (outgoing_set n (k + 1) (site_at st s) ok _
      (queue_push (OutEntryIn n (k + 1)) zero_out_entry no_out_entry (record { set = X; packet = k; started = false }) free
      deep
      (record { under = omega arith; some = pos; within = hX }, λ e. absurd (clash (sym e))) ok.outgoing))

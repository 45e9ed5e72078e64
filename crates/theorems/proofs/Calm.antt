-- Document 02, L10: "Show that from an empty start a received abort never arises." Edition 3 makes no abort: the router chooses no
-- connection 3 or 4, and timeouts do nothing. So after any events from the empty state no place holds one. Assumes nothing of the
-- network but its edition.
use Prim.Native.Nat.{ℕ, zero, suc}
use mathlib.Core.Path.{◌≡◌, refl, sym, ap, ◌∙◌}
use mathlib.Core.List.{List, [], ◌∷◌}
use mathlib.Core.Bool.{true, ◌&&◌}
use lib.Dec.{eqb, leb}
use lib.ListN.{get_or, replicate}
use Rattle.base.specs.Sizes.{sites_most, input_count, output_count, port_count, in_queue_count, queue_room}
use Rattle.base.specs.Bools.{clash, cond_ok}
use Rattle.base.specs.Lists.{all_set, same_at}
use Rattle.draws.specs.Draws.{restricted}
use Rattle.theorems.specs.Names.{t_abort, Input, Output, InEntry, Site, State, Network, AfterSend, AfterRun}
use Rattle.model.specs.Types.{no_input, no_output, no_in_entry, no_in_queue, no_site, no_state, input_d, in_queue_d, site_d, site_at, in_at, set_site}
use Rattle.types.specs.Phases.{held}
use Rattle.model.specs.Network.{channel, joined, end_site, end_port}
use Rattle.model.specs.Steps.{far_end, Act, Idle, Own, Serve, Pass, act, ends, patch, run, enqueue}
use Rattle.model.specs.Events.{Event, Send, Run, run_refusal, send_refusal, ran, sent, after, final}
use Rattle.theorems.proofs.CalmPlaces.{calm, mild, CalmQueue, CalmSite, CalmSites, Calm, set_in_lem, calm_held}
use Rattle.theorems.proofs.CalmRules.{CalmAct, act_calm}

-- ---- the sites

site_set : (xs : List Site) (s : ℕ) (x : Site) → CalmSites xs → CalmSite x → CalmSites (set_site xs s x)
site_set xs s x h k = all_set (λ t v. CalmSite v) xs s x site_d k h

patch_calm : (n : Network) (xs : List Site) (s : ℕ) (a : Act) → CalmSites xs → CalmAct a → CalmSites (patch n xs s a).sites
patch_calm n xs s Idle h k = h
patch_calm n xs s (Own x) h k = site_set xs s x h k
patch_calm n xs s (Serve x q) h k = site_set xs s x h k
patch_calm n xs s (Pass x j y) h k =
    let own = site_set xs s x h k.0 in
    let b = channel n s j in
    site_set (set_site xs s x) (end_site b) _ own (set_in_lem (own (end_site b)) (end_port b) y k.1)

ends_calm : (n : Network) (xs : List Site) (s : ℕ) → CalmSites xs → (j : ℕ) → calm (ends n xs s j).phase ≡ true
ends_calm n xs s h j =
    cond_ok (λ (y : Input). calm y.phase ≡ true) (leb j port_count && joined n s j) (far_end xs (channel n s j)) no_input
    (λ a. (h (end_site (channel n s j))).inputs (end_port (channel n s j))) (λ a. refl)

-- ---- events

event_calm : (n : Network) → restricted n.edition ≡ true → (st : State) → Calm st → (v : Event) → Calm (after n st v)
unfolding ran sent run enqueue
event_calm n e st h (Run s code) =
    cond_ok (λ (w : AfterRun). Calm w.state) (eqb (run_refusal n st s code) 0) _ _
    (λ a.
    patch_calm n st.sites s (act n s (site_at st.sites s) (ends n st.sites s) code) h
    (act_calm n e s (site_at st.sites s) (h s) (ends n st.sites s) (ends_calm n st.sites s h) code))
    (λ a. h)
event_calm n e st h (Send s X) =
    cond_ok (λ (w : AfterSend). Calm w.state) (eqb (send_refusal n st s X) 0) _ _ (λ a. site_set st.sites s _ h (h s)) (λ a. h)

pub calm_kept : (n : Network) → restricted n.edition ≡ true → (es : List Event) (st : State) → Calm st → Calm (final n st es)
unfolding final
calm_kept n e [] st h = h
calm_kept n e (v ∷ es) st h = calm_kept n e es (after n st v) (event_calm n e st h v)

empty_calm : Calm no_state
empty_calm = go sites_most
  where
    input : (k i : ℕ) → calm (get_or (replicate k no_input) i input_d).phase ≡ true
    input zero i = refl
    input (suc k) zero = refl
    input (suc k) (suc i) = input k i

    queue : (k m : ℕ) → CalmQueue (get_or (replicate k no_in_queue) m in_queue_d)
    queue zero m a = refl
    queue (suc k) zero a = ap (λ (v : InEntry). mild v.terminator) (same_at queue_room a no_in_entry)
    queue (suc k) (suc m) a = queue k m a

    site : CalmSite no_site
    site =
        record {
          inputs = input input_count;
          outputs = λ j. ap (λ (o : Output). mild o.terminator) (same_at output_count j no_output);
          queues = queue in_queue_count;
        }

    go : (k : ℕ) → CalmSites (replicate k no_site)
    go zero s = record { inputs = λ i. refl; outputs = λ j. refl; queues = λ m a. refl }
    go (suc k) zero = site
    go (suc k) (suc s) = go k s

-- ---- the theorems

-- from the empty state no place ever holds an abort: no net-input has received one or is in abort or fin-abort, no net-output and
-- no in-queue entry has it as terminator
pub no_abort : (n : Network) → restricted n.edition ≡ true → (es : List Event) → Calm (final n no_state es)
no_abort n e es = calm_kept n e es no_state empty_calm

-- "a received abort never arises"
pub no_received_abort : (n : Network) → restricted n.edition ≡ true → (es : List Event) (s i : ℕ)
    → held (in_at (site_at (final n no_state es).sites s) i).phase ≡ t_abort → ⊥
no_received_abort n e es s i h =
    let ph = (in_at (site_at (final n no_state es).sites s) i).phase in
    clash (sym (calm_held ph ((no_abort n e es s).inputs i)) ∙ ap mild h)

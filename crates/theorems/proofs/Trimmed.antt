-- "Room beyond S sites or N sends belongs to no network or run: it is not looked at": the test of a network, RUN, SEND, the
-- test of a stored run and the run played say the same of a network or run and of the one with that room at zero.
-- Assumes nothing.
use Prim.Native.Nat.{ℕ, zero, suc, ◌-◌, ◌*◌, ◌≤◌, ◌<◌}
use mathlib.Core.Path.{◌≡◌, refl, sym, ap, ◌∙◌}
use mathlib.Core.List.{List, [], ◌∷◌}
use mathlib.Core.Bool.{true}
use native.Mathlib.Decide.{dec_lt}
use native.Mathlib.Nat.{mul-le-mul, le_of_suc-le-suc, not-suc-le-zero}
use native.Mathlib.Omega.{arith}
use borrow.Author.Tests.{leb-true}
use lib.Dec.{ltb, leb}
use lib.ListN.{get_or, take, length, get_or-eq_default}
use Rattle.base.specs.Sizes.{sites_most, port_count, sends_most}
use Rattle.base.specs.Bools.{both, either_way}
use Rattle.base.specs.All.{all_at, all_same}
use Rattle.base.specs.Over.{over, over_below}
use Rattle.sets.specs.Sets.{targets}
use Rattle.sets.proofs.Laws.{targets_at}
use Rattle.theorems.specs.Names.{State, Network, StoredSend, Run as StoredRun}
use Rattle.model.specs.Types.{send_d, send_at}
use Rattle.model.specs.Network.{channel_at, kind_then, sizes_ok, joins_then, network_refusal}
use Rattle.model.specs.Network.{no_channels, no_routes, trimmed_network}
use Rattle.model.specs.Events.{ran, sent}
use Rattle.model.specs.Runs.{send_ok, sends_ok, body_refusal, stored_refusal, no_sends, trimmed}
use Rattle.model.specs.Runs.{marked, sends_at, script_to, script, unplayed, played_singly, played_run}
use Rattle.theorems.proofs.Networks.{sizes_at}
use Rattle.theorems.proofs.SoundRuns.{sound}
use Rattle.theorems.proofs.RoomLaws.{joins_same}
use Rattle.theorems.proofs.Alike.{alike_ran, alike_sent, alike_singly}
use Rattle.theorems.proofs.Played.{played_singly_lem}

-- ---- a network

module _ (n : Network) where
  pub channels_kept : n.sites ≤ sites_most → (m : ℕ) → m < port_count * n.sites → get_or (trimmed_network n).channels m 0 ≡ channel_at n m
  unfolding trimmed_network
  channels_kept few m l = over_below (channel_at n) (port_count * n.sites) no_channels m 0 l (omega arith)

  pub routes_kept : n.sites ≤ sites_most → (m : ℕ) → m < n.sites * n.sites → get_or (trimmed_network n).routes m 0 ≡ get_or n.routes m 0
  unfolding trimmed_network
  routes_kept few m l =
      let square : n.sites * n.sites ≤ sites_most * sites_most = mul-le-mul few few in
      over_below (λ m. get_or n.routes m 0) (n.sites * n.sites) no_routes m 0 l (omega arith)

  trimmed_joins : n.sites ≤ sites_most → (next : ℕ) → joins_then (trimmed_network n) next ≡ joins_then n next
  unfolding trimmed_network
  trimmed_joins few next =
      joins_same n n.version (trimmed_network n).channels (trimmed_network n).routes (channels_kept few)
      (routes_kept few) next

pub trimmed_refusal : (n : Network) → network_refusal (trimmed_network n) ≡ network_refusal n
unfolding network_refusal trimmed_network
trimmed_refusal n =
    either_way (sizes_ok n) (λ e. rw e (ap (kind_then n) (trimmed_joins n (sizes_at n e).1 0))) (λ e. rw e refl)

-- ---- RUN and SEND

module _ (n : Network) where
  pub trimmed_ran : (st : State) (s code : ℕ) → ran (trimmed_network n) st s code ≡ ran n st s code
  unfolding trimmed_network
  trimmed_ran = alike_ran n _ _ _ (channels_kept n) (routes_kept n) (trimmed_refusal n)

  pub trimmed_sent : (st : State) (s X : ℕ) → sent (trimmed_network n) st s X ≡ sent n st s X
  unfolding trimmed_network
  trimmed_sent = alike_sent n _ _ _ (channels_kept n) (routes_kept n) (trimmed_refusal n)

-- ---- a stored run

pub send_kept : (r : StoredRun) → r.count ≤ sends_most → (m : ℕ) → m < r.count → send_at (trimmed r) m ≡ send_at r m
unfolding trimmed
send_kept r few m l = over_below (send_at r) r.count no_sends m send_d l (omega arith)

trimmed_sends : (r : StoredRun) → r.count ≤ sends_most → sends_ok (trimmed r) ≡ sends_ok r
unfolding trimmed trimmed_network
trimmed_sends r few =
    all_same (send_ok (trimmed r)) (send_ok r) r.count
    (λ m l. rw (send_kept r few m l, send_kept r few (m - 1) (omega arith)) refl)

-- 6, 7 and 8, which reader and writer share, behind the tests of S and N
pub trimmed_body : (r : StoredRun) → r.network.sites ≤ sites_most → r.count ≤ sends_most
    → body_refusal (trimmed r) ≡ body_refusal r
unfolding body_refusal trimmed
trimmed_body r few count = rw (trimmed_sends r count) (trimmed_joins r.network few _)

pub trimmed_stored : (r : StoredRun) → stored_refusal (trimmed r) ≡ stored_refusal r
unfolding stored_refusal trimmed trimmed_network
trimmed_stored r =
    either_way (sizes_ok r.network)
    (λ e.
    either_way (leb r.count sends_most)
    (λ f. rw (e, f, trimmed_body r (sizes_at r.network e).1 (leb-true r.count sends_most f)) refl)
    (λ f. rw (e, f) refl))
    (λ e. rw e refl)

-- ---- a stored run, played

-- a run that is not refused has its N sends: none of them is beyond the list
sends_there : (r : StoredRun) → sends_ok r ≡ true → r.count ≤ length r.sends
sends_there r h = go (dec_lt (length r.sends) r.count)
  where
    go : Dec (length r.sends < r.count) → r.count ≤ length r.sends
    go (no l) = omega arith
    go (yes l) =
        let S = r.network.sites in
        let m = length r.sends in
        let e : send_at r m ≡ send_d = get_or-eq_default r.sends send_d (omega arith) in
        let a = both _ _ (both _ _ (all_at (send_ok r) m r.count l h)).0 in
        let b = both (ltb (send_at r m).site S) (targets S (send_at r m).set) a.0 in
        absurd (omega (arith, (targets_at S (send_at r m).set b.1).0, ap (λ (f : StoredSend). f.set) e))

take_over : {A : Type 0} (l xs : List A) (d : A) (k : ℕ) → k ≤ length l → k ≤ length xs
    → take k (over (λ m. get_or l m d) k xs) ≡ take k l
unfolding over
take_over l xs d zero a b = refl
take_over [] xs d (suc k) a b = absurd (not-suc-le-zero a)
take_over (x ∷ l) [] d (suc k) a b = absurd (not-suc-le-zero b)
take_over (x ∷ l) (y ∷ xs) d (suc k) a b = ap (◌∷◌ x) (take_over l xs d k (le_of_suc-le-suc a) (le_of_suc-le-suc b))

module _ (r : StoredRun) (h : stored_refusal r ≡ 0) where
  abbrev r' : StoredRun
  r' = trimmed r

  passed_sends : (r.count ≤ sends_most) × (r.count ≤ length r.sends)
  passed_sends = let k = sound r h in (k.count, sends_there r k.sends)

  sends_at_lem : (d : ℕ) → sends_at r' d ≡ sends_at r d
  unfolding trimmed
  sends_at_lem d = ap (marked d) (take_over r.sends no_sends send_d r.count passed_sends.1 passed_sends.0)

  -- the events that it stands for
  script_to_lem : (d : ℕ) → script_to r' d ≡ script_to r d
  unfolding script_to trimmed trimmed_network
  script_to_lem zero = refl
  script_to_lem (suc d) = rw (script_to_lem d, sends_at_lem d) refl

  trimmed_script : script r' ≡ script r
  unfolding script trimmed
  trimmed_script = rw (script_to_lem r.draws, sends_at_lem r.draws) refl

pub trimmed_played : (r : StoredRun) → stored_refusal r ≡ 0 → played_run (trimmed r) ≡ played_run r
unfolding trimmed trimmed_network
trimmed_played r h =
    let n = r.network in
    played_singly_lem (trimmed r) (trimmed_stored r ∙ h)
    ∙ ap (played_singly (trimmed_network n) unplayed) (trimmed_script r h)
    ∙ alike_singly n _ _ _ (channels_kept n) (routes_kept n) (trimmed_refusal n) unplayed (script r)
    ∙ sym (played_singly_lem r h)

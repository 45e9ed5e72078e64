-- Document 02, L6 and L10: where the editions differ, and that nothing else does. RUN of a net-input that asks the router and of the
-- timeout is the same in two editions that are both edition 3 or both not, that of the net-outputs 1 to 4 in two that hold their
-- channels alike, any other RUN in all. Where no channel is every RUN is the same in two that are both edition 3 or both not, and with it a stored run played.
-- Assumes nothing: the network, its edition and the state may be any.
use Prim.Native.Nat.{ℕ, zero, suc, ◌+◌, ◌-◌, ◌≤◌, ◌<◌}
use mathlib.Core.Path.{◌≡◌, refl, sym, ap, ◌∙◌, fun_ext}
use mathlib.Core.List.{List, [], ◌∷◌}
use mathlib.Core.Logic.{◌⊎◌, ⊎_elim}
use mathlib.Core.Bool.{Bool, false, cond, ◌&&◌}
use native.Mathlib.Omega.{arith}
use borrow.Author.Tests.{ltb-true, eqb-true}
use lib.Dec.{eqb, ltb, leb}
use Rattle.base.specs.Sizes.{port_count}
use Rattle.base.specs.Bools.{cond_ok, either_way}
use Rattle.sets.specs.Sets.{minus}
use Rattle.draws.specs.Draws.{restricted}
use Rattle.theorems.specs.Names.{Terminator, t_none, t_end, t_abort, t_keep, Phase, Free, Seek, Open, Wait, Done, Last, Aborted}
use Rattle.theorems.specs.Names.{FinAbort, Input, Output, Site, Network, AfterRun, Run as StoredRun}
use Rattle.model.specs.Types.{no_input, site_at, in_at, out_at}
use Rattle.model.specs.Network.{channel, is_channel, joined, list_of, holds, by_edition}
use Rattle.model.specs.Router.{serves, first_port, gets, unchosen, gather_from, gather, route}
use Rattle.model.specs.NetInput.{Turn, Stay, ready, in_state}
use Rattle.model.specs.Places.{deliver, channel_output}
use Rattle.model.specs.Steps.{far_end, Act, Idle, Own, Serve, Pass, Stepped, own_turn, pass_turn, set_both, net_output, act, ends, patch, run}
use Rattle.model.specs.Events.{Event, Send, Run}
use Rattle.model.specs.Runs.{Timed, Played, run_by, script_to, script, run_played, advance, played, played_run, unplayed}
use Rattle.theorems.proofs.Played.{Named, AllNamed, script_named}

-- ---- an output without a channel does nothing, closing or not

abbrev Stays : Turn Output Input → Type 0
Stays t = t ≡ Stay

pub unjoined : (edition : ℕ) (o : Output) (y : Input) → channel_output edition false o y ≡ Stay
unfolding channel_output deliver
unjoined edition o y =
    cond_ok Stays o.used _ _
    (λ a.
    cond_ok Stays o.head _ _ (λ b. cond_ok Stays o.closing _ _ (λ c. refl) (λ c. told o.terminator)) (λ b. refl))
    (λ a. refl)
  where
    told : (k : Terminator) → deliver edition false o y k ≡ Stay
    told t_none = refl
    told t_end = refl
    told t_abort = refl
    told t_keep = refl

-- ---- outputs 1 to 4 by two editions that hold their channels alike

deliver_same : (a b : ℕ) → holds a ≡ holds b → (there : Bool) (o : Output) (y : Input) (h : Terminator)
    → deliver a there o y h ≡ deliver b there o y h
unfolding deliver
deliver_same a b e there o y t_none = refl
deliver_same a b e there o y t_end = rw e refl
deliver_same a b e there o y t_abort = rw e refl
deliver_same a b e there o y t_keep = refl

channel_output_same : (a b : ℕ) → holds a ≡ holds b → (there : Bool) (o : Output) (y : Input)
    → channel_output a there o y ≡ channel_output b there o y
unfolding channel_output
channel_output_same a b e there o y = rw (deliver_same a b e there o y o.terminator) refl

-- ---- the same network by edition e

module _ (e : ℕ) (n : Network) where
  -- both are edition 3, or neither
  abbrev pub Agree : Type 0
  Agree = restricted e ≡ restricted n.edition

  abbrev other : Network
  other = by_edition e n

  -- its channels, the inputs at their ends, what is written
  channel_same : (s j : ℕ) → channel other s j ≡ channel n s j
  unfolding by_edition
  channel_same s zero = refl
  channel_same s (suc j) = refl

  joined_same : (s : ℕ) → joined other s ≡ joined n s
  joined_same s = fun_ext (λ j. ap is_channel (channel_same s j))

  ends_same : (xs : List Site) (s : ℕ) → ends other xs s ≡ ends n xs s
  ends_same xs s =
      fun_ext (λ j. ap (λ (b : ℕ). cond (leb j port_count && is_channel b) (far_end xs b) no_input) (channel_same s j))

  patch_same : (xs : List Site) (s : ℕ) (a : Act) → patch other xs s a ≡ patch n xs s a
  patch_same xs s Idle = refl
  patch_same xs s (Own x) = refl
  patch_same xs s (Serve x q) = refl
  patch_same xs s (Pass x j y) = rw (channel_same s j) refl

  -- the router and the net-inputs read sites, routes and tries, and whether it is edition 3
  gather_same : (s : ℕ) (os : List Output) (Y more t : ℕ) (sets : List ℕ)
      → gather_from other s os Y more t sets ≡ gather_from n s os Y more t sets
  unfolding gather_from by_edition
  gather_same s os Y zero t sets = refl
  gather_same s os Y (suc more) t sets =
      let found = gets sets (first_port (serves os sets) (list_of n s t)) t in
      rw (gather_same s os Y more (t + 1) found, gather_same s os Y more (t + 1) sets) refl

  route_same : Agree → (s : ℕ) (os : List Output) (X : ℕ) → route other s os X ≡ route n s os X
  unfolding route gather by_edition
  route_same agree s os X = rw (agree, gather_same s os (minus s X) n.sites 0 unchosen) refl

  state_same : (s i : ℕ) (y : Input) (os : List Output) (isReady : ℕ → Bool) (ph : Phase) → (ph ≡ Seek → Agree)
      → in_state other s i y os isReady ph ≡ in_state n s i y os isReady ph
  unfolding in_state by_edition
  state_same s i y os isReady Free asks = refl
  state_same s i y os isReady Seek asks = rw (route_same (asks refl) s os y.set) refl
  state_same s i y os isReady (Open c) asks = refl
  state_same s i y os isReady (Wait c) asks = refl
  state_same s i y os isReady (Done c r) asks = refl
  state_same s i y os isReady (Last c r) asks = refl
  state_same s i y os isReady (Aborted c) asks = refl
  state_same s i y os isReady (FinAbort c r) asks = refl

  -- what RUN decides, where it decides the same of a net-output
  act_by : (s : ℕ) (x : Site) (far : ℕ → Input) (code : ℕ) → (code < 5 → (in_at x code).phase ≡ Seek → Agree)
      → (code ≡ 12 → Agree)
      → (code < 10 → net_output other s x far (code - 5) ≡ net_output n s x far (code - 5))
      → act other s x far code ≡ act n s x far code
  unfolding act by_edition
  act_by s x far code inputs timeouts outputs =
      let isReady = ready (joined n s) far x.outputs in
      either_way (ltb code 5)
      (λ c.
      rw (c, joined_same s)
      (ap (own_turn (set_both x code))
      (state_same s code (in_at x code) x.outputs isReady (in_at x code).phase (inputs (ltb-true code 5 c)))))
      (λ c.
      either_way (ltb code 10) (λ d. rw (c, d) (outputs (ltb-true code 10 d)))
      (λ d.
      either_way (eqb code 12) (λ f. rw (c, d, timeouts (eqb-true code 12 f)) refl) (λ f. rw (c, d, f) refl)))

  -- RUN, where it decides the same
  run_by_lem : (xs : List Site) (s code : ℕ)
      → act other s (site_at xs s) (ends n xs s) code ≡ act n s (site_at xs s) (ends n xs s) code
      → run other xs s code ≡ run n xs s code
  unfolding run
  run_by_lem xs s code same =
      let x = site_at xs s in
      ap (λ (f : ℕ → Input). patch other xs s (act other s x f code)) (ends_same xs s)
      ∙ ap (patch other xs s) same ∙ patch_same xs s (act n s x (ends n xs s) code)

  output_by : (s : ℕ) (x : Site) (far : ℕ → Input) (j : ℕ) → (0 < j → holds e ≡ holds n.edition)
      → net_output other s x far j ≡ net_output n s x far j
  unfolding net_output by_edition
  output_by s x far zero h = refl
  output_by s x far (suc j) h =
      ap (pass_turn x (suc j))
      (channel_output_same e n.edition (h (omega arith)) (joined n s (suc j)) (out_at x (suc j)) (far (suc j)))

  -- what each code asks of two editions: a net-input that seeks and the timeout that both are edition 3 or neither, the net-outputs
  -- 1 to 4 that both hold their channels or neither; any other code nothing
  pub codes_by : (xs : List Site) (s code : ℕ) → (code < 5 → (in_at (site_at xs s) code).phase ≡ Seek → Agree)
      → (5 < code → code < 10 → holds e ≡ holds n.edition) → (code ≡ 12 → Agree) → run other xs s code ≡ run n xs s code
  codes_by xs s code inputs outputs timeouts =
      let x = site_at xs s in
      let far = ends n xs s in
      run_by_lem xs s code
      (act_by s x far code inputs timeouts (λ c. output_by s x far (code - 5) (λ h. outputs (omega arith) c)))

  -- the codes but 6 to 9
  pub codes_same : Agree → (xs : List Site) (s code : ℕ) → (5 < code → code < 10 → ⊥) → run other xs s code ≡ run n xs s code
  codes_same agree xs s code apart = codes_by xs s code (λ h p. agree) (λ a b. absurd (apart a b)) (λ h. agree)

  -- in all editions: the outputs that have an in-queue, the out-queue and both operators
  pub queues_same : (xs : List Site) (s code : ℕ) → (code ≡ 5) ⊎ ((10 ≤ code) × (code ≡ 12 → ⊥)) → run other xs s code ≡ run n xs s code
  queues_same xs s code h =
      ⊎_elim
      (λ a. codes_by xs s code (λ b p. absurd (omega arith)) (λ b c. absurd (omega arith)) (λ b. absurd (omega arith)))
      (λ a.
      codes_by xs s code (λ b p. absurd (omega (arith, a.0))) (λ b c. absurd (omega (arith, a.0))) (λ b. absurd (a.1 b)))
      h

  -- ---- no channel

  module _ (agree : Agree) (bare : (s j : ℕ) → s < n.sites → j < port_count → joined n s (suc j) ≡ false) where
    output_same : (s : ℕ) (x : Site) (far : ℕ → Input) (j : ℕ) → s < n.sites → j ≤ port_count
        → net_output other s x far j ≡ net_output n s x far j
    unfolding net_output by_edition
    output_same s x far zero hs hj = refl
    output_same s x far (suc j) hs hj =
        let o = out_at x (suc j) in
        let y = far (suc j) in
        let same : channel_output e (joined n s (suc j)) o y ≡ channel_output n.edition (joined n s (suc j)) o y =
        rw (bare s j hs (omega arith)) (unjoined e o y ∙ sym (unjoined n.edition o y)) in
        ap (pass_turn x (suc j)) same

    pub bare_run : (xs : List Site) (s code : ℕ) → s < n.sites → run other xs s code ≡ run n xs s code
    bare_run xs s code hs =
        let x = site_at xs s in
        let far = ends n xs s in
        run_by_lem xs s code
        (act_by s x far code (λ h p. agree) (λ h. agree) (λ c. output_same s x far (code - 5) hs (omega arith)))

    step_same : (g : Played) (d : ℕ) (v : Event) → Named n v → advance other g d v ≡ advance n g d v
    unfolding by_edition
    step_same g d (Send s X) m = refl
    step_same g d (Run s code) m =
        let left : Stepped → AfterRun =
        λ w. record { answer = w.answer; blocking = 0; state = record { sites = w.sites; counter = g.state.counter } } in
        ap (λ (w : Stepped). run_played g d (left w)) (bare_run g.state.sites s code m.0)

    played_same : (g : Played) (es : List Timed) → AllNamed n es → played other g es ≡ played n g es
    unfolding played
    played_same g [] m = refl
    played_same g (v ∷ es) m =
        ap (λ (w : Played). played other w es) (step_same g v.draw v.event m.0)
        ∙ played_same (advance n g v.draw v.event) es m.1

-- ---- a stored run without a channel, played by edition e: the same book, the same counts, the same state

module _ (e : ℕ) (r : StoredRun) (agree : restricted e ≡ restricted r.network.edition) where
  script_to_lem : (d : ℕ) → script_to (run_by e r) d ≡ script_to r d
  unfolding script_to run_by by_edition
  script_to_lem zero = refl
  script_to_lem (suc d) = rw (agree, script_to_lem d) refl

  same_script : script (run_by e r) ≡ script r
  unfolding script run_by
  same_script = rw (script_to_lem r.draws) refl

  pub bare_played : 1 ≤ r.network.sites
      → ((s j : ℕ) → s < r.network.sites → j < port_count → joined r.network s (suc j) ≡ false)
      → played_run (run_by e r) ≡ played_run r
  unfolding played_run run_by
  bare_played some bare =
      ap (played (by_edition e r.network) unplayed) same_script
      ∙ played_same e r.network agree bare unplayed (script r) (script_named r some)

-- Codes 0 to 4 in place: readiness by the packed words, and what each way of the code makes of the definition. Assumes what each law names.
use mathlib.Core.Path.{◌≡◌, refl, sym, ap, ap₂, subst, ◌∙◌}
use mathlib.Core.Logic.{◌⊎◌, inl, inr}
use Rattle.std.specs.Prelude.{Option}
use mathlib.Core.List.{List}
use mathlib.Core.Bool.{Bool, true, false, ◌&&◌, ◌||◌, and-true}
use Prim.Native.Nat.{ℕ, zero, suc, ◌*◌, ◌<◌, ◌≤◌}
use native.Mathlib.Omega.{arith}
use borrow.Author.Tests.{lt-ltb, le-leb, eq-eqb}
use lib.Dec.{eqb}
use lib.ListN.{length}
use Rattle.base.specs.Sizes.{sites_most, input_count, output_count}
use Rattle.base.specs.Bools.{implies}
use Rattle.base.specs.All.{all_same}
use Rattle.sets.specs.Sets.{targets}
use Rattle.types.specs.Numbers.{state_number}
use Rattle.types.specs.declared.Phase.TheVariants.{the_data as Phase, Free, Seek, Open, Wait, Done, Last, Abort as Aborted, FinAbort}
use Rattle.types.specs.declared.Input.{Input}
use Rattle.types.specs.declared.Output.{Output}
use Rattle.types.specs.declared.Site.{Site}
use Rattle.types.specs.declared.Network.{Network}
use Rattle.types.specs.declared.Ran.TheVariants.{the_data as Ran, Nothing}
use Rattle.model.specs.Types.{site_at, in_at, mark}
use Rattle.model.specs.Network.{joined}
use Rattle.model.specs.Router.{route}
use Rattle.model.specs.NetInput.{Turn, hears, ready, all_ready, in_state, net_input, seek}
use Rattle.model.specs.Steps.{own_turn, set_both, ends}
use Rattle.rules.specs.declared.inputs.InputTurn.{InputTurn}
use Rattle.rules.specs.Router.{routes_only, asked_by}
use Rattle.rules.specs.Turns.{of_input_turn, other_turn}
use Rattle.rules.proofs.Asked.{route_same}
use Rattle.rules.proofs.ByState.{other_is, seek_is}
use Rattle.layout.specs.Layout.{word_count}
use Rattle.layout.specs.Words.{sites_of}
use Rattle.words.specs.Events.{Did, DidOwn, DidReady, DidInput, RunAsks, site_in}
use Rattle.layout.specs.Idle.{waits}
use Rattle.words.specs.Events.{input_back, split_ready, ready_flags, sought}
use Rattle.words.specs.Marked.{masked, merged_turn, touched, opening, seen}
use Rattle.rules.specs.Acts.{input_act}
use Rattle.words.proofs.Acts.{did_nothing, input_back_lem}
use Rattle.words.proofs.MarkedLaws.{other_merged, opening_turn, sought_merged}
use Rattle.words.proofs.MarkedStores.{outputs_of_lem}
use Rattle.words.proofs.SeenLaws.{length_seen, own_seen, asked_seen}
use Rattle.layout.proofs.Rests.{quiet_stays, stands_stays}

-- the router asked by the parts of a network
asked_is : (n : Network) (s : ℕ) (os : List Output) (X : ℕ) → s < n.sites → n.sites ≤ sites_most
    → length n.routes ≡ sites_most * sites_most → targets n.sites X ≡ true → asked_by n.edition n.routes n.sites s os X ≡ route n s os X
asked_is n s os X a b e t =
    let m = n.routes in
    rw (lt-ltb s n.sites a, le-leb n.sites sites_most b, eq-eqb (length m) (sites_most * sites_most) e, t)
    (route_same (routes_only n.edition n.sites m) n refl refl s os refl X)

-- ---- which outputs are ready

-- the outputs of site s of a network n that are ready
abbrev ready_in : Network → List Site → ℕ → ℕ → Bool
ready_in n xs s = ready (joined n s) (ends n xs s) (site_at xs s).outputs

-- a connected output is ready or not by its flag
connected_by : (m f : Bool) → implies m (m && f) ≡ implies m f
connected_by true f = refl
connected_by false f = refl

flag_by : (n : Network) (xs : List Site) (s : ℕ) (bs : List Bool) (j : ℕ) → j < output_count
    → implies (mark bs j) (mark (ready_flags n.channels xs s bs) j) ≡ implies (mark bs j) (ready_in n xs s j)
unfolding hears
flag_by n xs s bs zero h = refl
flag_by n xs s bs (suc zero) h = connected_by (mark bs 1) (ready_in n xs s 1)
flag_by n xs s bs (suc (suc zero)) h = connected_by (mark bs 2) (ready_in n xs s 2)
flag_by n xs s bs (suc (suc (suc zero))) h = connected_by (mark bs 3) (ready_in n xs s 3)
flag_by n xs s bs (suc (suc (suc (suc zero)))) h = connected_by (mark bs 4) (ready_in n xs s 4)
flag_by n xs s bs (suc (suc (suc (suc (suc zero))))) h =
    connected_by (mark bs 5) (split_ready xs s) ∙ ap (implies (mark bs 5)) (sym (and-true (split_ready xs s)))
flag_by n xs s bs (suc (suc (suc (suc (suc (suc j)))))) h = absurd (omega arith)

-- a net-input's rule asks of the outputs whether all that are connected are ready, and whether output 0 is
same_ready : (n : Network) (s i : ℕ) (y : Input) (os : List Output) (f g : ℕ → Bool) (ph : Phase)
    → all_ready f y.outputs ≡ all_ready g y.outputs → f 0 ≡ g 0 → in_state n s i y os f ph ≡ in_state n s i y os g ph
unfolding in_state
same_ready n s i y os f g Free e z = refl
same_ready n s i y os f g Seek e z = refl
same_ready n s i y os f g (Open c) e z = rw e refl
same_ready n s i y os f g (Wait c) e z = rw e refl
same_ready n s i y os f g (Done c r) e z = rw e refl
same_ready n s i y os f g (Last c r) e z = rw e refl
same_ready n s i y os f g (Aborted c) e z = refl
same_ready n s i y os f g (FinAbort c r) e z = rw z refl

by_flags : (n : Network) (xs : List Site) (s i : ℕ) (y : Input) (os : List Output) (ph : Phase)
    → in_state n s i y os (mark (ready_flags n.channels xs s y.outputs)) ph ≡ in_state n s i y os (ready_in n xs s) ph
unfolding hears
by_flags n xs s i y os ph =
    let bs = y.outputs in
    same_ready n s i y os _ _ ph (all_same (λ j. implies (mark bs j) (mark (ready_flags n.channels xs s bs) j))
    (λ j. implies (mark bs j) (ready_in n xs s j)) output_count (λ j h. flag_by n xs s bs j h)) refl

-- ---- the ways of the code

quiet_by : (k : ℕ) → (k ≡ 0) ⊎ (k ≡ 6) → (eqb k 0 || eqb k 6) ≡ true
quiet_by k (inl e) = rw e refl
quiet_by k (inr e) = rw e refl

module _ (c : List ℕ) (s i : ℕ) where
  abbrev x : Site
  x = site_in c s

  abbrev y : Input
  y = in_at x i

  -- the place has no rule
  pub quiet_none : (n : Network) (k : ℕ) → length c ≡ word_count → k ≡ state_number y.phase → (k ≡ 0) ⊎ (k ≡ 6)
      → Did n c c s Nothing (input_act n s x (ends n (sites_of c) s) i)
  quiet_none n k h e f =
      did_nothing n c s (input_act n s x (ends n (sites_of c) s) i) h
      (ap (own_turn (set_both x i))
      (quiet_stays n s i y x.outputs (ready_in n (sites_of c) s) y.phase (quiet_by _ (rw e at f))))

  -- it waits
  pub waits_none : (isReady : ℕ → Bool) (z : Input) (w : Bool) → length c ≡ word_count → z ≡ y → w ≡ waits z isReady → w ≡ true
      → DidReady c c s Nothing i isReady
  waits_none isReady z w h ez e f n =
      did_nothing n c s (own_turn (set_both x i) (net_input n s i y x.outputs isReady)) h
      (ap (own_turn (set_both x i))
      (stands_stays n s i y x.outputs isReady y.phase (sym (e ∙ ap (λ (u : Input). waits u isReady) ez) ∙ f)))

  module _ (d : List ℕ) (r : Ran) where
    -- what the rule made of the marked outputs is stored, and the rule is t
    merged_done : (bs : List Bool) (w : Option InputTurn) (t : Turn Input (List Output)) → merged_turn bs x.outputs (input_back w) ≡ t
        → DidOwn c d s r (own_turn (set_both x i) (merged_turn bs x.outputs (input_back w))) → DidOwn c d s r (own_turn (set_both x i) t)
    merged_done bs w t e p n = subst (λ (t : Turn Input (List Output)). Did n c d s r (own_turn (set_both x i) t)) e (p n)

    -- a rule moves it
    pub ready_done : (isReady : ℕ → Bool) (z : Input) (bs : List Bool) (w : Option InputTurn) → s < sites_most → z ≡ y → (state_number y.phase ≡ 1 → ⊥)
        → bs ≡ touched z.phase z.outputs → w ≡ of_input_turn (other_turn z (masked bs x.outputs) isReady)
        → DidOwn c d s r (own_turn (set_both x i) (merged_turn bs x.outputs (input_back w))) → DidReady c d s r i isReady
    ready_done isReady z bs w hs ez ne eb e p n =
        let os = x.outputs in
        let own = eb ∙ ap (λ (u : Input). touched u.phase u.outputs) ez in
        let rule = ap input_back e ∙ input_back_lem (other_turn z (masked bs os) isReady)
        ∙ ap (λ (u : Input). other_turn u (masked bs os) isReady) ez ∙ other_is y (masked bs os) isReady n s i ne in
        merged_done bs w (net_input n s i y os isReady)
        (ap (merged_turn bs os) rule
        ∙ ap (λ (m : List Bool). merged_turn m os (net_input n s i y (masked m os) isReady)) own
        ∙ other_merged n s i y os isReady (outputs_of_lem c s hs) y.phase ne) p n

    -- the flags are those of the network
    pub flags_done : (n : Network) (z : Input) (bs : List Bool) → z ≡ y → bs ≡ ready_flags n.channels (sites_of c) s z.outputs
        → DidReady c d s r i (mark bs) → DidInput n c d s r i
    flags_done n z bs ez e p =
        subst (λ (t : Turn Input (List Output)). Did n c d s r (own_turn (set_both x i) t))
        (ap (λ (b : List Bool). net_input n s i y x.outputs (mark b))
        (e ∙ ap (λ (u : Input). ready_flags n.channels (sites_of c) s u.outputs) ez)
        ∙ by_flags n (sites_of c) s i y x.outputs y.phase)
        (p n)

    -- the router was asked
    pub sought_done : (n : Network) (bs : List Bool) (w : Option InputTurn) → RunAsks n c s → length n.routes ≡ sites_most * sites_most
        → i < input_count → state_number y.phase ≡ 1
        → let ws = seen n.edition x.outputs in
        w ≡ of_input_turn (sought n y ws s i) → bs ≡ opening w
        → DidOwn c d s r (own_turn (set_both x i) (merged_turn bs x.outputs (input_back w))) → DidInput n c d s r i
    sought_done n bs w ok full h e f eb p =
        let os = x.outputs in
        let ws = seen n.edition os in
        let t = sought n y ws s i in
        merged_done bs w (net_input n s i y os (ready_in n (sites_of c) s))
        (ap₂ (λ (b : List Bool) (u : Option InputTurn). merged_turn b os (input_back u)) (eb ∙ ap opening f) f
        ∙ opening_turn os t
        ∙ sought_merged n.tries i y ws os (length_seen n.edition os) (outputs_of_lem c s (omega (arith, ok.site, ok.few)))
        (own_seen n.edition os) e (asked_by n.edition n.routes n.sites s ws y.set)
        ∙ ap (seek n.tries i y os)
        (asked_seen n.edition n.routes n.sites s os y.set ∙ asked_is n s os y.set ok.site ok.few full (ok.sought i h e))
        ∙ sym (seek_is y os (ready_in n (sites_of c) s) n s i e)) p n

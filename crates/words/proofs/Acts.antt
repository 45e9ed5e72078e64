-- What RUN decides and what its code has stored. Assumes what each law names.
use mathlib.Core.Path.{◌≡◌, refl, sym, ap, ap₂, subst, ◌∙◌}
use Rattle.std.specs.Prelude.{Option}
use mathlib.Core.List.{List}
use mathlib.Core.Bool.{Bool, true, false, cond, not, ◌&&◌, ◌||◌}
use Prim.Native.Nat.{ℕ, suc, ◌+◌, ◌<◌}
use native.Mathlib.Numerals.{add-one}
use borrow.Author.Tests.{eq-eqb}
use lib.Dec.{eqb}
use lib.ListN.{length}
use Rattle.base.specs.Sizes.{sites_most, input_count}
use Rattle.types.specs.declared.Input.{Input}
use Rattle.types.specs.declared.Output.{Output}
use Rattle.types.specs.declared.OutQueue.{OutQueue}
use Rattle.types.specs.declared.InQueue.{InQueue}
use Rattle.types.specs.declared.Site.{Site}
use Rattle.types.specs.declared.Network.{Network}
use Rattle.types.specs.declared.Ran.TheVariants.{the_data as Ran, Nothing}
use Rattle.types.specs.Phases.{is_none}
use Rattle.draws.specs.Draws.{restricted}
use Rattle.model.specs.Types.{in_at, out_of, out_at, queue_at, in_entry, queue_port, set_in, set_out, set_queue, with_out_queue}
use Rattle.model.specs.Network.{is_channel}
use Rattle.model.specs.NetInput.{Turn, Stay, To}
use Rattle.model.specs.Places.{Work, Rest, Cleared, Service, local_output, channel_output, out_queue, operator, timeout, last_lacks, stalled}
use Rattle.model.specs.Steps.{Act, Idle, own_turn, pass_turn, work_done, set_both}
use Rattle.rules.specs.declared.inputs.InputTurn.{InputTurn}
use Rattle.rules.specs.declared.places.LocalTurn.{LocalTurn}
use Rattle.rules.specs.declared.places.QueueTurn.{QueueTurn}
use Rattle.rules.specs.declared.work.OperatorTurn.{OperatorTurn}
use Rattle.rules.specs.Turns.{of_local_turn, of_queue_turn, of_work, of_input_turn, cuts}
use Rattle.layout.specs.Layout.{word_count}
use Rattle.layout.specs.Words.{sites_of}
use Rattle.words.specs.Events.{Did, DidOwn, DidPass, site_in, end_of}
use Rattle.rules.specs.Acts.{local_act, queue_act, operator_act, timeout_act}
use Rattle.layout.specs.Idle.{at_rest}
use Rattle.words.specs.Events.{local_back, queue_back, input_back, work_back}
use Rattle.words.specs.Marked.{masked, merged_turn, cutting}
use Rattle.layout.proofs.Chained.{stays}
use Rattle.layout.proofs.Rests.{local_rests, queue_rests, operator_rests, timeout_rests, channel_rests}
use Rattle.rules.proofs.Cut.{cut_at_lem}
use Rattle.theorems.proofs.Editions.{unjoined}
use Rattle.words.proofs.MarkedLaws.{timeout_merged}
use Rattle.words.proofs.MarkedStores.{outputs_of_lem, marks_of_lem}

-- ---- the arms that have nothing to do

pub local_idle : (D : ℕ) (x : Site) (q : ℕ) → at_rest (out_at x (queue_port q)) ≡ true → local_act D x q ≡ Idle
local_idle D x q h =
    ap (own_turn (λ o iq. set_out (set_queue x q iq) (queue_port q) o)) (local_rests D (out_at x (queue_port q)) (queue_at x q) h)

pub queue_idle : (x : Site) → eqb x.outgoing.count 0 ≡ true → queue_act x ≡ Idle
queue_idle x h = ap (own_turn (λ oq y. set_in (with_out_queue x oq) 0 y)) (queue_rests x.outgoing (in_at x 0) h)

pub operator_idle : (D s : ℕ) (x : Site) (q : ℕ) → (eqb (queue_at x q).count 0 || is_none (in_entry (queue_at x q) 0).terminator) ≡ true
    → operator_act D s x q ≡ Idle
operator_idle D s x q h = ap (work_done x q) (operator_rests D s (queue_at x q) x.outgoing h)

pub timeout_idle : (edition : ℕ) (x : Site) → (restricted edition || not (stalled (out_at x 0))) ≡ true → timeout_act edition x ≡ Idle
timeout_idle edition x h =
    ap (own_turn (set_both x (out_at x 0).input))
    (timeout_rests edition (queue_at x 0) x.outputs (in_at x (out_at x 0).input) h)

-- a net-input that no timeout cuts
uncut : (edition : ℕ) (iq : InQueue) (os : List Output) (y : Input) → cuts y.phase ≡ false → timeout edition iq os y ≡ Stay
uncut edition iq os y h = rw (cut_at_lem y os y.phase, h) (stay (restricted edition) (last_lacks iq && stalled (out_of os 0)))
  where
    stay : (a b : Bool) → cond {A = Turn Input (List Output)} a Stay (cond b Stay Stay) ≡ Stay
    stay true b = refl
    stay false true = refl
    stay false false = refl

pub timeout_uncut : (edition : ℕ) (x : Site) → cuts (in_at x (out_at x 0).input).phase ≡ false → timeout_act edition x ≡ Idle
timeout_uncut edition x h =
    ap (own_turn (set_both x (out_at x 0).input)) (uncut edition (queue_at x 0) x.outputs (in_at x (out_at x 0).input) h)

-- an output 1 to 4 without a channel
pub pass_none : (edition : ℕ) (o : Output) (y : Input) (b : ℕ) → is_channel b ≡ false
    → channel_output edition (is_channel b) o y ≡ Stay
pass_none edition o y b e = rw e (unjoined edition o y)

-- ---- what a rule's code returns says what the rule decided

pub local_back_lem : (t : Turn Output InQueue) → local_back (of_local_turn t) ≡ t
local_back_lem Stay = refl
local_back_lem (To p r) = refl

pub queue_back_lem : (t : Turn OutQueue Input) → queue_back (of_queue_turn t) ≡ t
queue_back_lem Stay = refl
queue_back_lem (To r z) = refl

pub input_back_lem : (t : Turn Input (List Output)) → input_back (of_input_turn t) ≡ t
input_back_lem Stay = refl
input_back_lem (To z ps) = refl

pub work_back_lem : (t : Work) → work_back (of_work t) ≡ t
work_back_lem Rest = refl
work_back_lem (Cleared c d) = refl
work_back_lem (Service c d q) = refl

-- ---- an act by what is stored

module _ (n : Network) (c : List ℕ) (s : ℕ) where
  pub did_nothing : (a : Act) → length c ≡ word_count → a ≡ Idle → Did n c c s Nothing a
  did_nothing a h e = rw e (record { answer = refl; stored = stays c h })

-- ---- an arm: what its rule decided is stored

module _ (c d : List ℕ) (s : ℕ) (r : Ran) where
  abbrev x : Site
  x = site_in c s

  pub local_done : (D q : ℕ) (w : Option LocalTurn)
      → let o = out_at x (queue_port q) in
      w ≡ of_local_turn (local_output D o (queue_at x q))
      → DidOwn c d s r (own_turn (λ o iq. set_out (set_queue x q iq) (queue_port q) o) (local_back w)) → DidOwn c d s r (local_act D x q)
  local_done D q w e p n =
      let o = out_at x (queue_port q) in
      subst (λ (t : Turn Output InQueue). Did n c d s r (own_turn (λ o iq. set_out (set_queue x q iq) (queue_port q) o) t))
      (ap local_back e ∙ local_back_lem (local_output D o (queue_at x q))) (p n)

  pub queue_done : (w : Option QueueTurn) → w ≡ of_queue_turn (out_queue x.outgoing (in_at x 0))
      → DidOwn c d s r (own_turn (λ oq y. set_in (with_out_queue x oq) 0 y) (queue_back w)) → DidOwn c d s r (queue_act x)
  queue_done w e p n =
      subst (λ (t : Turn OutQueue Input). Did n c d s r (own_turn (λ oq y. set_in (with_out_queue x oq) 0 y) t))
      (ap queue_back e ∙ queue_back_lem (out_queue x.outgoing (in_at x 0))) (p n)

  pub work_done_lem : (D q : ℕ) (w : Option OperatorTurn) → w ≡ of_work (operator D s (queue_at x q) x.outgoing)
      → DidOwn c d s r (work_done x q (work_back w)) → DidOwn c d s r (operator_act D s x q)
  work_done_lem D q w e p n =
      subst (λ (t : Work). Did n c d s r (work_done x q t))
      (ap work_back e ∙ work_back_lem (operator D s (queue_at x q) x.outgoing)) (p n)

  -- the timeout, i being the input that feeds output 0
  pub timeout_done : (edition i : ℕ) (z : Input) (bs : List Bool) → s < sites_most → i < input_count → i ≡ (out_at x 0).input → z ≡ in_at x i
      → bs ≡ cutting z.outputs → (w : Option InputTurn)
      → w ≡ of_input_turn (timeout edition (queue_at x 0) (masked bs x.outputs) z)
      → DidOwn c d s r (own_turn (set_both x i) (merged_turn bs x.outputs (input_back w))) → DidOwn c d s r (timeout_act edition x)
  timeout_done edition i z bs hs hi e ez eb w f p n =
      let os = x.outputs in
      let iq = queue_at x 0 in
      let own : bs ≡ cutting (in_at x i).outputs = eb ∙ ap (λ (u : Input). cutting u.outputs) ez in
      let back = ap input_back f ∙ input_back_lem (timeout edition iq (masked bs os) z) in
      let rule =
      ap (merged_turn bs os) back
      ∙ ap₂ (λ (m : List Bool) (u : Input). merged_turn m os (timeout edition iq (masked m os) u)) own ez
      ∙ timeout_merged edition iq os (in_at x i) (outputs_of_lem c s hs) (marks_of_lem c s hs i hi) in
      subst (λ (k : ℕ). Did n c d s r (own_turn (set_both x k) (timeout edition iq os (in_at x k)))) e
      (subst (λ (t : Turn Input (List Output)). Did n c d s r (own_turn (set_both x i) t)) rule (p n))

-- ---- an arm that ends at its place's packed word

module _ (c : List ℕ) (s : ℕ) (h : length c ≡ word_count) where
  abbrev z : Site
  z = site_in c s

  pub local_none : (D q : ℕ) → at_rest (out_at z (queue_port q)) ≡ true → DidOwn c c s Nothing (local_act D z q)
  local_none D q e n = did_nothing n c s (local_act D z q) h (local_idle D z q e)

  pub queue_none : (m : ℕ) → m ≡ z.outgoing.count → m ≡ 0 → DidOwn c c s Nothing (queue_act z)
  queue_none m e f n = did_nothing n c s (queue_act z) h (queue_idle z (eq-eqb z.outgoing.count 0 (sym e ∙ f)))

  pub operator_none : (D q m : ℕ) (l : Bool) → m ≡ (queue_at z q).count → l ≡ is_none (in_entry (queue_at z q) 0).terminator
      → (eqb m 0 || l) ≡ true → DidOwn c c s Nothing (operator_act D s z q)
  operator_none D q m l e f g n =
      did_nothing n c s (operator_act D s z q) h (operator_idle D s z q (sym (ap₂ (λ (k : ℕ) (b : Bool). eqb k 0 || b) e f) ∙ g))

  pub timeout_spared : (edition i : ℕ) (y : Input) → i ≡ (out_at z 0).input → y ≡ in_at z i → cuts y.phase ≡ false
      → DidOwn c c s Nothing (timeout_act edition z)
  timeout_spared edition i y e f k n =
      did_nothing n c s (timeout_act edition z) h
      (timeout_uncut edition z
      (ap (λ (m : ℕ). cuts (in_at z m).phase) (sym e) ∙ ap (λ (u : Input). cuts u.phase) (sym f) ∙ k))

  module _ (edition j b : ℕ) where
    abbrev t : Turn Output Input
    t = channel_output edition (is_channel b) (out_at z (suc j)) (end_of (sites_of c) b)

    pub pass_rests : at_rest (out_at z (j + 1)) ≡ true → DidPass c c s Nothing j b t
    pass_rests e n f =
        did_nothing n c s (pass_turn z (suc j) t) h
        (ap (pass_turn z (suc j)) (channel_rests edition (is_channel b) (out_at z (suc j)) (end_of (sites_of c) b) (rw (add-one j) at e)))

    pub pass_never : is_channel b ≡ false → DidPass c c s Nothing j b t
    pass_never e n f =
        did_nothing n c s (pass_turn z (suc j) t) h (ap (pass_turn z (suc j)) (pass_none edition (out_at z (suc j)) (end_of (sites_of c) b) b e))

-- Over a run, services and owed pairs make up the pairs of the accepted packets: demand 3 summed over all packets and sites.
-- Assumes a valid network.
use Prim.Native.Nat.{ℕ, zero, suc, ◌+◌, ◌≤◌, ◌<◌}
use mathlib.Core.Path.{◌≡◌, refl, sym, ap, ◌∙◌}
use mathlib.Core.List.{List, [], ◌∷◌}
use native.Mathlib.Omega.{arith}
use native.Mathlib.Nat.{not-suc-le-zero, le_of_suc-le-suc}
use lib.Dec.{eqb}
use lib.ListN.{get_or, length, length-append, get_or-eq_default}
use borrow.Author.Tests.{eqb-true}
use Rattle.base.specs.Sizes.{set_bits, packets_most}
use Rattle.base.specs.Bools.{cond_ok}
use Rattle.base.specs.Sums.{sum, upto, upto_ext, upto_zero, sum_upto}
use Rattle.sets.specs.Sets.{size, bit}
use Rattle.sets.proofs.LawsBit.{size_upto}
use Rattle.sets.proofs.LawsSize.{size_empty}
use Rattle.theorems.specs.Names.{Site, State, Network, Run as StoredRun, Ran, Nothing, Changed, Serviced, RunRefused}
use Rattle.theorems.specs.Names.{AfterSend, AfterRun}
use Rattle.model.specs.Types.{no_state, site_at}
use Rattle.model.specs.Network.{network_refusal}
use Rattle.model.specs.Steps.{run}
use Rattle.model.specs.Events.{Event, Send, Run, send_refusal, run_refusal, ran, sent, after, final, accepted, accepted_by, if_accepted}
use Rattle.model.specs.Events.{hits, serviced_by, serviced}
use Rattle.model.specs.Owing.{owed, owed_pairs}
use Rattle.model.specs.Runs.{Timed, Service, Played, unplayed, script, stored_refusal, entered, send_played, advance_singly}
use Rattle.model.specs.Runs.{played_singly, played_run, counts_of}
use Rattle.theorems.proofs.Networks.{valid_ok}
use Rattle.theorems.proofs.Refusals.{RunPasses, run_passes, send_passes, sent_ways, ran_counter}
use Rattle.theorems.proofs.Numbered.{placed_once}
use Rattle.theorems.proofs.Demand3.{once}
use Rattle.theorems.proofs.RangeKept.{empty_shaped, shaped_kept, final_shaped, reached}
use Rattle.theorems.proofs.RangePackets.{range_small}
use Rattle.theorems.proofs.Answers.{served_below}
use Rattle.theorems.proofs.Pairs.{grand, grand_add, grand_zero, grand_pair, grand_ext, SmallSite, state_pairs}
use Rattle.theorems.proofs.Played.{step_state, singly_state, singly_pairs, stored_network, played_singly_lem}
use Rattle.model.specs.Shapes.{Shaped}
use Rattle.model.specs.Runs.{events}

-- packets are numbered below 256
abbrev P : ℕ
P = packets_most + 1

-- ---- the accepted packets are numbered by the counter, which does not pass 255

next_counter : (n : Network) (st : State) (e : Event) (l : List ℕ)
    → (after n st e).counter + length l ≡ st.counter + length (accepted_by n st e l)
unfolding ran
next_counter n st (Send s X) l =
    sent_ways (λ w. w.state.counter + length l ≡ st.counter + length (if_accepted w.answer X l)) n st s X (λ h. omega arith)
    (λ f e. rw e refl)
next_counter n st (Run s code) l =
    ap (λ (k : ℕ). k + length l) (ran_counter n st s code)

pub counted : (n : Network) (st : State) (es : List Event) → (final n st es).counter ≡ st.counter + length (accepted n st es)
unfolding final accepted
counted n st [] = omega arith
counted n st (e ∷ es) = counted n (after n st e) es ∙ next_counter n st e (accepted n (after n st e) es)

at_most : (n : Network) (st : State) (e : Event) → st.counter ≤ packets_most → (after n st e).counter ≤ packets_most
unfolding ran sent
at_most n st (Send s X) h =
    cond_ok (λ (a : AfterSend). a.state.counter ≤ packets_most) (eqb (send_refusal n st s X) 0) _ _
    (λ e. omega (arith, (send_passes n st s X (eqb-true (send_refusal n st s X) 0 e)).number)) (λ e. h)
at_most n st (Run s code) h =
    cond_ok (λ (a : AfterRun). a.state.counter ≤ packets_most) (eqb (run_refusal n st s code) 0) _ _ (λ e. h) (λ e. h)

pub at_most_255 : (n : Network) (es : List Event) (st : State) → st.counter ≤ packets_most → (final n st es).counter ≤ packets_most
unfolding final
at_most_255 n [] st h = h
at_most_255 n (e ∷ es) st h = at_most_255 n es (after n st e) (at_most n st e h)

-- ---- an answer that names a packet below 256 and a site below 64, if it names any: one service or none

abbrev Bounded : Ran → Type 0
Bounded Nothing = Unit {0}
Bounded Changed = Unit {0}
Bounded (Serviced q s) = (q < P) × (s < set_bits)
Bounded (RunRefused k) = Unit {0}

ran_bounded : (n : Network) (st : State) (s code : ℕ) → Shaped st → st.counter ≤ packets_most → Bounded (ran n st s code).answer
unfolding ran
ran_bounded n st s code sh few =
    cond_ok (λ (a : AfterRun). Bounded a.answer) (eqb (run_refusal n st s code) 0) _ _
    (λ h. go (run_passes n st s code (eqb-true (run_refusal n st s code) 0 h)) (run n st.sites s code).answer refl) (λ h. tt)
  where
    go : RunPasses n st s code → (a : Ran) → (run n st.sites s code).answer ≡ a → Bounded a
    go p Nothing e = tt
    go p Changed e = tt
    go p (Serviced q u) e =
        let val = valid_ok n p.network in
        let b = served_below n val st sh p.range s code q u p.site e in
        (omega (arith, b.0), omega (arith, b.1, p.site, val.few))
    go p (RunRefused k) e = tt

served_one : (a : Ran) (d : ℕ) (l : List Service) → Bounded a → length (entered d a l) ≡ length l + grand P (λ p t. hits p t a)
served_one Nothing d l h = omega (arith, grand_zero P)
served_one Changed d l h = omega (arith, grand_zero P)
served_one (Serviced q s) d l h = length-append l _ ∙ ap (λ (k : ℕ). length l + k) (sym (grand_pair P q s 1 h.0 h.1))
served_one (RunRefused k) d l h = omega (arith, grand_zero P)

-- ---- the book has one entry a service

module _ (n : Network) where
  step_length : (p : Played) (d : ℕ) (e : Event) → Shaped p.state → p.state.counter ≤ packets_most
      → length (advance_singly n p d e).book ≡ length p.book + grand P (serviced_by n p.state e)
  step_length p d (Send s X) sh few =
      sent_ways (λ w. length (send_played p X w w.answer).book ≡ length p.book + grand P (λ p t. 0)) n p.state s X
      (λ h. omega (arith, grand_zero P)) (λ f e. omega (arith, grand_zero P))
  step_length p d (Run s code) sh few = served_one (ran n p.state s code).answer d p.book (ran_bounded n p.state s code sh few)

  book_length : (p : Played) (es : List Timed) → Shaped p.state → p.state.counter ≤ packets_most
      → length (played_singly n p es).book ≡ length p.book + grand P (serviced n p.state (events es))
  unfolding played_singly serviced
  book_length p [] sh few = omega (arith, grand_zero P)
  book_length p (e ∷ es) sh few =
      let q = advance_singly n p e.draw e.event in
      let at = step_state n p e.draw e.event in
      let later = book_length q es (rw at (shaped_kept n p.state sh e.event)) (rw at (at_most n p.state e.event few)) in
      omega (
        arith,
        later,
        step_length p e.draw e.event sh few,
        ap (λ (st : State). grand P (serviced n st (events es))) at,
        grand_add P (serviced_by n p.state e.event) (serviced n (after n p.state e.event) (events es)),
      )

-- ---- the accepted sets, summed

upto_beyond : (n m : ℕ) (f : ℕ → ℕ) → m ≤ n → ((j : ℕ) → m ≤ j → f j ≡ 0) → upto n f ≡ upto m f
unfolding upto
upto_beyond n zero f h z = upto_ext n f (λ j. 0) (λ j l. z j (omega arith)) ∙ upto_zero n
upto_beyond zero (suc m) f h z = absurd (not-suc-le-zero h)
upto_beyond (suc n) (suc m) f h z =
    ap (λ (k : ℕ). f 0 + k)
    (upto_beyond n m (λ j. f (suc j)) (le_of_suc-le-suc h) (λ j l. z (suc j) (omega arith)))

sets_sum : (l : List ℕ) → length l ≤ P → grand P (λ p t. bit t (get_or l p 0)) ≡ sum size l
sets_sum l h =
    upto_ext P _ (λ p. size (get_or l p 0)) (λ p a. sym (size_upto set_bits (get_or l p 0)))
    ∙ upto_beyond P (length l) (λ p. size (get_or l p 0)) h (λ j k. ap size (get_or-eq_default l 0 k) ∙ size_empty set_bits)
    ∙ sym (sum_upto size l 0)

-- ---- the theorem

more_room : (P Q : ℕ) (x : Site) → P ≤ Q → SmallSite P x → SmallSite Q x
more_room P Q x h ok =
    record {
      ins = λ i. omega (arith, ok.ins i);
      outs = λ j. omega (arith, ok.outs j);
      out_entries = λ m. omega (arith, ok.out_entries m);
      in_entries_lem = λ m e. omega (arith, ok.in_entries_lem m e);
    }

-- services and owed pairs make up the pairs, for any events singly applied
pub singly_counts : (n : Network) → network_refusal n ≡ 0 → (es : List Timed)
    → length (played_singly n unplayed es).book + owed_pairs (played_singly n unplayed es).state.sites ≡ (played_singly n unplayed es).pairs
singly_counts n v es =
    let st = final n no_state (events es) in
    let sh = final_shaped n (events es) no_state empty_shaped in
    let few = at_most_255 n (events es) no_state (omega arith) in
    let small : (s : ℕ) → s < length st.sites → SmallSite P (site_at st.sites s) =
    λ s l.
    more_room (st.counter + 1) P (site_at st.sites s) (omega arith)
    (range_small n (valid_ok n v) st sh (reached n (events es)) s (omega (arith, sh.all_sites))) in
    omega (
      arith,
      book_length n unplayed es empty_shaped (omega arith),
      ap (λ (w : State). owed_pairs w.sites) (singly_state n unplayed es),
      state_pairs P st.sites (omega arith) (omega (arith, sh.all_sites)) small,
      grand_add P (serviced n no_state (events es)) (owed st.sites),
      grand_ext P (λ p t. serviced n no_state (events es) p t + owed st.sites p t)
          (λ p t. bit t (get_or (accepted n no_state (events es)) p 0))
          (λ p t. once n (events es) p t ∙ ap (λ (X : ℕ). bit t X) (placed_once n (events es) p)),
      sets_sum (accepted n no_state (events es)) (omega (arith, counted n no_state (events es))),
      singly_pairs n unplayed es,
    )

-- over a run: services + owed pairs = pairs
pub counts : (r : StoredRun) → stored_refusal r ≡ 0
    → (counts_of (played_run r)).serviced + (counts_of (played_run r)).owed ≡ (counts_of (played_run r)).pairs
counts r h = rw (played_singly_lem r h) (singly_counts r.network (stored_network r h) (script r))

-- Calls on lent words, one after the other, are the events one after the other. Assumes that T is a byte, as its type says.
use mathlib.Core.Path.{◌≡◌, refl, sym, ap, subst, ◌∙◌}
use mathlib.Core.List.{List, [], ◌∷◌}
use mathlib.Core.Bool.{true, false, not, ◌&&◌}
use Prim.Native.Nat.{ℕ, ◌<◌, ◌≤◌}
use native.Mathlib.Omega.{arith}
use borrow.Author.Tests.{eqb-true, eqb-false, eq-eqb}
use lib.Dec.{eqb}
use native.Mathlib.Decide.{dec_lt}
use lib.ListN.{length}
use Rattle.base.specs.Sizes.{sites_most, input_count, output_count, in_queue_count, queue_room, packets_most}
use Rattle.base.specs.Bools.{and, both, both3, both6, either_way}
use Rattle.base.specs.All.{all, all_at}
use Rattle.types.specs.Phases.{is_free, is_none}
use Rattle.types.specs.declared.Input.{Input}
use Rattle.types.specs.declared.Output.{Output}
use Rattle.types.specs.declared.Site.{Site}
use Rattle.types.specs.declared.State.{State}
use Rattle.types.specs.declared.Network.{Network}
use Rattle.types.specs.declared.AfterRun.{AfterRun}
use Rattle.types.specs.declared.AfterSend.{AfterSend}
use Rattle.model.specs.Types.{no_state, site_at, in_at, out_at, out_entry, queue_at}
use Rattle.model.specs.Shapes.{Shaped}
use Rattle.model.specs.Network.{network_refusal}
use Rattle.model.specs.Range.{in_range, any_mark, zero_input, zero_output, zero_out_entry, zero_in_queue, zero_site}
use Rattle.model.specs.Events.{Event, Send, Run, ran, sent, after, final}
use Rattle.theorems.proofs.Networks.{Valid, valid_ok}
use Rattle.theorems.proofs.Refusals.{run_passes, send_passes, ran_ways, sent_ways}
use Rattle.theorems.proofs.RangeKept.{range_at, range_kept, shaped_kept, empty_in_range}
use Rattle.theorems.proofs.RangePackets.{range_small}
use Rattle.theorems.proofs.PlayerCounts.{at_most_255}
use Rattle.layout.specs.Bytes.{Bytes}
use Rattle.layout.specs.Layout.{word_count}
use Rattle.layout.specs.Words.{state_of, words_of, canonical, is_state, no_words}
use Rattle.layout.specs.Public.{ran_words, sent_words, words_by, words_final}
use Rattle.layout.proofs.Settled.{length_words, packed, canonical_by}
use Rattle.layout.proofs.Unpacked.{unpacked}
use Rattle.layout.proofs.Fitting.{shaped}
use Rattle.layout.proofs.Empty.{empty_words, empty_is_state}

-- ---- the numbers of a state in range are bytes

zero_tries : (y : Input) → zero_input y ≡ true → y.tries < 256
zero_tries y h =
    let e = (both (is_free y.phase && eqb y.packet 0 && eqb y.set 0 && not (any_mark y.outputs)) (eqb y.tries 0) h).1 in
    omega (arith, eqb-true y.tries 0 e)

zero_fed : (o : Output) → zero_output o ≡ true → o.input < 256
zero_fed o h =
    let e =
    (both6 (not o.used && eqb o.packet 0) (eqb o.set 0) (eqb o.input 0) (not o.head) (is_none o.terminator)
    (not o.closing) h).2 in
    omega (arith, eqb-true o.input 0 e)

zero_ports : (x : Site) → zero_site x ≡ true
    → (all (λ i. zero_input (in_at x i)) input_count ≡ true) × (all (λ j. zero_output (out_at x j)) output_count ≡ true)
zero_ports x h =
    let ins = all (λ i. zero_input (in_at x i)) input_count in
    let outs = all (λ j. zero_output (out_at x j)) output_count in
    let out = eqb x.outgoing.count 0 && all (λ m. zero_out_entry (out_entry x.outgoing m)) queue_room in
    let inn = all (λ m. zero_in_queue (queue_at x m)) in_queue_count in
    let b = both3 ins outs out (both (ins && outs && out) inn h).0 in
    (b.0, b.1)

module _ (n : Network) (val : Valid n) (byte : n.tries < 256) (st : State) (sh : Shaped st) (h : in_range n st ≡ true) where
  abbrev at : ℕ → Site
  at s = site_at st.sites s

  tried : (s i : ℕ) → s < sites_most → i < input_count → (in_at (at s) i).tries < 256
  tried s i hs hi = go (dec_lt s n.sites)
    where
      go : Dec (s < n.sites) → (in_at (at s) i).tries < 256
      go (yes e) = omega (arith, byte, (((range_at n val st sh h).inside s e).ins i).tries)
      go (no e) =
          zero_tries (in_at (at s) i)
          (all_at (λ i. zero_input (in_at (at s) i)) i input_count hi
          (zero_ports (at s) ((range_at n val st sh h).outside s hs (omega arith)).1).0)

  fed : (s j : ℕ) → s < sites_most → j < output_count → (out_at (at s) j).input < 256
  fed s j hs hj = go (dec_lt s n.sites)
    where
      go : Dec (s < n.sites) → (out_at (at s) j).input < 256
      go (yes e) =
          let p = ((range_at n val st sh h).inside s e).outs j in
          either_way (out_at (at s) j).used (λ u. omega (arith, p.from u)) (λ u. zero_fed (out_at (at s) j) (p.blank u))
      go (no e) =
          zero_fed (out_at (at s) j)
          (all_at (λ j. zero_output (out_at (at s) j)) j output_count hj
          (zero_ports (at s) ((range_at n val st sh h).outside s hs (omega arith)).1).1)

  range_bytes : st.counter ≤ packets_most → Bytes st
  range_bytes few =
      record {
        site =
            λ s hs.
            let p = range_small n val st sh h s hs in
            record {
              packet = λ i hi. omega (arith, p.ins i, few);
              tries = λ i hi. tried s i hs hi;
              passed = λ j hj. omega (arith, p.outs j, few);
              feeder = λ j hj. fed s j hs hj;
              leaving = λ m hm. omega (arith, p.out_entries m, few);
              arrived = λ q m hq hm. omega (arith, p.in_entries_lem q m, few);
            };
        counter = omega (arith, few);
      }

-- ---- one call

-- the words of the state st are a state's, and stand for it
abbrev Stands : State → Type 0
Stands st = (is_state (words_of st) ≡ true) × (state_of (words_of st) ≡ st)

words_of_lem : (st : State) → Shaped st → Bytes st → Stands st
words_of_lem st sh b =
    let back = unpacked st sh b in
    let size = length_words st in (
      and (eqb (length (words_of st)) word_count) (canonical (words_of st)) (eq-eqb _ word_count size)
          (canonical_by (words_of st) size (ap words_of back)),
      back,
    )

-- an event of a network that is refused leaves the state
refused_kept : (n : Network) (st : State) (e : Event) → eqb (network_refusal n) 0 ≡ false → after n st e ≡ st
refused_kept n st (Send s X) h =
    sent_ways (λ (w : AfterSend). w.state ≡ st) n st s X
    (λ z. absurd (eqb-false (network_refusal n) 0 h (send_passes n st s X z).network)) (λ f k. refl)
refused_kept n st (Run s code) h =
    ran_ways (λ (w : AfterRun). w.state ≡ st) n st s code
    (λ z. absurd (eqb-false (network_refusal n) 0 h (run_passes n st s code z).network)) (λ f. refl)

by_event : (n : Network) (c : List ℕ) (e : Event) → is_state c ≡ true → words_by n c e ≡ words_of (after n (state_of c) e)
unfolding ran_words sent_words
by_event n c (Send s X) h = rw (h, words_by) refl
by_event n c (Run s code) h = rw (h, words_by) refl

module _ (n : Network) (byte : n.tries < 256) where
  one_call : (c : List ℕ) (e : Event) → is_state c ≡ true → in_range n (state_of c) ≡ true
      → (is_state (words_by n c e) ≡ true) × (state_of (words_by n c e) ≡ after n (state_of c) e)
  unfolding final
  one_call c e h r = rw (by_event n c e h) (either_way (eqb (network_refusal n) 0) valid other)
    where
      valid : eqb (network_refusal n) 0 ≡ true → Stands (after n (state_of c) e)
      valid k =
          let sh = shaped_kept n (state_of c) (shaped c) e in
          words_of_lem (after n (state_of c) e) sh
          (range_bytes n (valid_ok n (eqb-true (network_refusal n) 0 k)) byte (after n (state_of c) e) sh (range_kept n (state_of c) (shaped c) r e)
          (at_most_255 n (e ∷ []) (state_of c) (omega arith)))

      other : eqb (network_refusal n) 0 ≡ false → Stands (after n (state_of c) e)
      other k =
          let g = both (eqb (length c) word_count) (canonical c) h in
          let same = packed c (eqb-true (length c) word_count g.0) g.1 in
          rw (refused_kept n (state_of c) e k, same) (h, refl)

  -- ---- a list of calls

  calls : (es : List Event) (c : List ℕ) → is_state c ≡ true → in_range n (state_of c) ≡ true
      → (is_state (words_final n c es) ≡ true) × (state_of (words_final n c es) ≡ final n (state_of c) es)
  unfolding words_final final
  calls [] c h r = (h, refl)
  calls (e ∷ es) c h r =
      let p = one_call c e h r in
      let q = subst (λ (st : State). in_range n st ≡ true) (sym p.1) (range_kept n (state_of c) (shaped c) r e) in
      let w = calls es (words_by n c e) p.0 q in
      (w.0, w.1 ∙ ap (λ (st : State). final n st es) p.1)

  -- from the words of the empty state, after any calls, refused ones among them: the words are a state's, they stand for the
  -- state after the same events, and every further call answers as the event does there
  pub called : (es : List Event) → (is_state (words_final n no_words es) ≡ true) × (state_of (words_final n no_words es) ≡ final n no_state es)
  called es =
      let w = calls es no_words empty_is_state (subst (λ (st : State). in_range n st ≡ true) (sym empty_words) (empty_in_range n)) in
      (w.0, w.1 ∙ ap (λ (st : State). final n st es) empty_words)

  pub called_run : (es : List Event) (s code : ℕ)
      → let r = ran_words n (words_final n no_words es) s code in
      let w = ran n (final n no_state es) s code in
      (r.answer ≡ w.answer) × (r.blocking ≡ w.blocking)
  unfolding ran_words
  called_run es s code = let w = called es in (rw (w.0, w.1) refl, rw (w.0, w.1) refl)

  pub called_send : (es : List Event) (s X : ℕ)
      → (sent_words n (words_final n no_words es) s X).answer ≡ (sent n (final n no_state es) s X).answer
  unfolding sent_words
  called_send es s X = let w = called es in rw (w.0, w.1) refl

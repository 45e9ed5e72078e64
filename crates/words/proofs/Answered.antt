-- RUN and SEND on any lent words, by what their code tests and stores; a refusal leaves the words as they were. Assumes what each law names.
use mathlib.Core.Path.{◌≡◌, refl, sym, ap, ap₂, ◌∙◌}
use mathlib.Core.List.{List}
use mathlib.Core.Bool.{Bool, true, false, cond, ◌&&◌}
use Prim.Native.Nat.{ℕ, ◌%◌}
use native.Mathlib.Omega.{arith}
use borrow.Author.Tests.{eqb-true, ne_eqb}
use lib.Dec.{eqb, ltb}
use lib.ListN.{length}
use Rattle.draws.specs.Draws.{codes_in}
use Rattle.base.specs.Bools.{both, clash, cond_ok}
use Rattle.types.specs.declared.Site.{Site}
use Rattle.types.specs.declared.State.{State}
use Rattle.types.specs.declared.Network.{Network}
use Rattle.types.specs.declared.AfterRun.{AfterRun}
use Rattle.types.specs.declared.AfterSend.{AfterSend}
use Rattle.types.specs.declared.Sent.TheVariants.{the_data as Sent, Accepted, Refused as SendRefused}
use Rattle.types.specs.declared.Ran.TheVariants.{the_data as Ran, Nothing, Changed, Serviced, Refused as RunRefused}
use Rattle.model.specs.Network.{network_refusal}
use Rattle.model.specs.Range.{in_range}
use Rattle.model.specs.Steps.{Act, Idle, Own, Serve, Pass, act, ends, patch, run, blocking_at}
use Rattle.model.specs.Events.{refusal_then, run_refusal, send_refusal, runs, ran, sent}
use Rattle.model.specs.Runs.{try_send}
use Rattle.theorems.proofs.Refusals.{ran_ways, sent_ways}
use Rattle.layout.specs.Layout.{word_count}
use Rattle.layout.specs.Words.{sites_of, state_of, words_of, canonical, is_state}
use Rattle.layout.specs.Stored.{Stored}
use Rattle.words.specs.Events.{Did, Took, site_in, tried}
use Rattle.layout.specs.Public.{RanWords, SentWords, of_ran, of_sent, form_refusal, ran_words, sent_words, shared_refusal}
use Rattle.layout.proofs.Settled.{packed}
use Rattle.words.proofs.Taken.{tried_is}
use Rattle.words.proofs.Publics.{fit, unsized_state}

-- ---- the words of a state

-- words in canonical form that stand for the state w are its words
words_are : (d : List ℕ) (w : State) → length d ≡ word_count → canonical d ≡ true → state_of d ≡ w → d ≡ words_of w
words_are d w h ok e = sym (packed d h ok) ∙ ap words_of e

in_form : (c : List ℕ) → is_state c ≡ true → words_of (state_of c) ≡ c
in_form c h =
    let g = both (eqb (length c) word_count) (canonical c) h in
    packed c (eqb-true (length c) word_count g.0) g.1

state_after : (c d : List ℕ) (xs : List Site) → Stored c d xs → state_of d ≡ record { sites = xs; counter = (state_of c).counter }
state_after c d xs p = ap₂ (λ (l : List Site) (k : ℕ). record { sites = l; counter = k % 256 }) p.sites p.counter

module _ (n : Network) (c : List ℕ) where
  abbrev st : State
  st = state_of c

  -- a refusal that both share is given whatever the event's own is: of a state's words, of other words
  shared_state : (own k : ℕ) → is_state c ≡ true → k ≡ shared_refusal n c → (k ≡ 0 → ⊥) → refusal_then n st own ≡ k
  unfolding shared_refusal
  shared_state own k h e ne = go (eqb (network_refusal n) 0) (in_range n st) (rw h at e)
    where
      go : (a b : Bool) → k ≡ cond a (cond b 0 13) (network_refusal n) → cond a (cond b own 13) (network_refusal n) ≡ k
      go true true f = absurd (ne f)
      go true false f = sym f
      go false b f = sym f

  shared_other : (k : ℕ) → is_state c ≡ false → k ≡ shared_refusal n c → k ≡ form_refusal n
  unfolding shared_refusal
  shared_other k h e = rw h at e

  -- ---- RUN

  module _ (s code : ℕ) where
    ran_refused : (k : ℕ) → run_refusal n st s code ≡ k → (k ≡ 0 → ⊥) → ran n st s code ≡ record { answer = RunRefused k; blocking = 0; state = st }
    unfolding ran
    ran_refused k e ne = rw (e, ne_eqb k 0 ne) refl

    of_refused : (k : ℕ) → is_state c ≡ true → run_refusal n st s code ≡ k → (k ≡ 0 → ⊥)
        → record { answer = RunRefused k; blocking = 0; words = c } ≡ of_ran (ran n st s code)
    of_refused k h e ne =
        sym (ap of_ran (ran_refused k e ne) ∙ ap (λ (l : List ℕ). record { answer = RunRefused k; blocking = 0; words = l }) (in_form c h))

    pub run_shared : (k : ℕ) → k ≡ shared_refusal n c → (k ≡ 0 → ⊥) → record { answer = RunRefused k; blocking = 0; words = c } ≡ ran_words n c s code
    unfolding ran_words run_refusal
    run_shared k e ne = go (is_state c) refl
      where
        go : (b : Bool) → is_state c ≡ b
            → record { answer = RunRefused k; blocking = 0; words = c } ≡ cond b (of_ran (ran n st s code))
            (record { answer = RunRefused (form_refusal n); blocking = 0; words = c })
        go true h = of_refused k h (shared_state _ k h e ne) ne
        go false h = ap (λ (f : ℕ). record { answer = RunRefused f; blocking = 0; words = c }) (shared_other k h e)

    pub run_unsized : (length c ≡ word_count → ⊥) → record { answer = RunRefused (form_refusal n); blocking = 0; words = c } ≡ ran_words n c s code
    unfolding ran_words
    run_unsized h = rw (unsized_state c h) refl

    pub run_none : shared_refusal n c ≡ 0 → (ltb s n.sites && ltb code (codes_in n.edition)) ≡ false
        → record { answer = RunRefused 9; blocking = 0; words = c } ≡ ran_words n c s code
    unfolding ran_words run_refusal
    run_none z e =
        let f = fit n c z in
        rw f.state (of_refused 9 f.state (rw (f.network, f.range, e) refl) (λ k. omega arith))

    pub run_done : (d : List ℕ) (r : Ran) (B : ℕ) → shared_refusal n c ≡ 0 → (ltb s n.sites && ltb code (codes_in n.edition)) ≡ true
        → Did n c d s r (act n s (site_in c s) (ends n (sites_of c) s) code) → B ≡ blocking_at n s (site_in c s) code
        → record { answer = r; blocking = B; words = d } ≡ ran_words n c s code
    unfolding ran_words ran run_refusal run
    run_done d r B z e p q =
        let f = fit n c z in
        let w = (runs n st s code).state in
        let left : Ran → ℕ → List ℕ → RanWords = λ a k l. record { answer = a; blocking = k; words = l } in
        rw (f.state, f.network, f.range, e)
        (ap₂ (λ (a : Ran) (l : List ℕ). left a B l) p.answer
        (words_are d w p.stored.size (p.stored.kept f.form) (state_after c d w.sites p.stored))
        ∙ ap (λ (k : ℕ). left (run n st.sites s code).answer k (words_of w)) q)

  -- ---- SEND

  module _ (s X : ℕ) where
    sent_refused : (k : ℕ) → send_refusal n st s X ≡ k → (k ≡ 0 → ⊥) → sent n st s X ≡ record { answer = SendRefused k; state = st }
    unfolding sent
    sent_refused k e ne = rw (e, ne_eqb k 0 ne) refl

    pub send_shared : (k : ℕ) → k ≡ shared_refusal n c → (k ≡ 0 → ⊥) → record { answer = SendRefused k; words = c } ≡ sent_words n c s X
    unfolding sent_words send_refusal
    send_shared k e ne = go (is_state c) refl
      where
        go : (b : Bool) → is_state c ≡ b
            → record { answer = SendRefused k; words = c } ≡ cond b (of_sent (sent n st s X)) (record { answer = SendRefused (form_refusal n); words = c })
        go true h =
            sym (ap of_sent (sent_refused k (shared_state _ k h e ne) ne) ∙ ap (λ (l : List ℕ). record { answer = SendRefused k; words = l }) (in_form c h))
        go false h = ap (λ (f : ℕ). record { answer = SendRefused f; words = c }) (shared_other k h e)

    pub send_unsized : (length c ≡ word_count → ⊥) → record { answer = SendRefused (form_refusal n); words = c } ≡ sent_words n c s X
    unfolding sent_words
    send_unsized h = rw (unsized_state c h) refl

    -- nothing shared is refused: SEND's own refusals are left
    sent_tried : shared_refusal n c ≡ 0 → sent n st s X ≡ try_send n st s X
    unfolding sent send_refusal
    sent_tried z = let f = fit n c z in rw (f.network, f.range) refl

    pub send_done : (d : List ℕ) (r : Sent) → shared_refusal n c ≡ 0 → Took c d r (tried n.sites n.depth st s X)
        → record { answer = r; words = d } ≡ sent_words n c s X
    unfolding sent_words
    send_done d r z p =
        let f = fit n c z in
        let e = sym (sent_tried z ∙ sym (tried_is n st s X)) in
        rw f.state
        (ap₂ (λ (a : Sent) (l : List ℕ). record { answer = a; words = l }) p.answer (words_are d _ p.size (p.kept f.form) p.state)
        ∙ ap of_sent e)

-- ---- a refusal writes nothing

abbrev is_refused : Ran → Bool
is_refused Nothing = false
is_refused Changed = false
is_refused (Serviced q t) = false
is_refused (RunRefused f) = true

abbrev is_taken : Sent → Bool
is_taken (Accepted q) = true
is_taken (SendRefused f) = false

never_refused : (n : Network) (xs : List Site) (s f : ℕ) (a : Act) → (patch n xs s a).answer ≡ RunRefused f → ⊥
never_refused n xs s f Idle e = clash (sym (ap is_refused e))
never_refused n xs s f (Own x) e = clash (sym (ap is_refused e))
never_refused n xs s f (Serve x q) e = clash (sym (ap is_refused e))
never_refused n xs s f (Pass x j y) e = clash (sym (ap is_refused e))

pub run_refused_kept : (n : Network) (c : List ℕ) (s code f : ℕ) → (ran_words n c s code).answer ≡ RunRefused f → (ran_words n c s code).words ≡ c
unfolding ran_words run
run_refused_kept n c s code f =
    let a = act n s (site_in c s) (ends n (sites_of c) s) code in
    cond_ok (λ (w : RanWords). w.answer ≡ RunRefused f → w.words ≡ c) (is_state c) _ _
    (λ h.
    ran_ways (λ (w : AfterRun). w.answer ≡ RunRefused f → words_of w.state ≡ c) n (state_of c) s code
    (λ z e. absurd (never_refused n (sites_of c) s f a e)) (λ g e. in_form c h))
    (λ h e. refl)

pub send_refused_kept : (n : Network) (c : List ℕ) (s X f : ℕ) → (sent_words n c s X).answer ≡ SendRefused f → (sent_words n c s X).words ≡ c
unfolding sent_words
send_refused_kept n c s X f =
    cond_ok (λ (w : SentWords). w.answer ≡ SendRefused f → w.words ≡ c) (is_state c) _ _
    (λ h.
    sent_ways (λ (w : AfterSend). w.answer ≡ SendRefused f → words_of w.state ≡ c) n (state_of c) s X (λ z e. absurd (clash (ap is_taken e)))
    (λ g k e. in_form c h))
    (λ h e. refl)

-- Canonical words are the words of the state that they stand for, and only those are: what is settled of the state is
-- settled of every word.
use mathlib.Core.Path.{◌≡◌, refl, sym, ap, ◌∙◌}
use mathlib.Core.List.{List}
use mathlib.Core.Bool.{true}
use Prim.Native.Nat.{ℕ, ◌/◌, ◌%◌, ◌<◌, ◌≤◌}
use native.Mathlib.Decide.{ℕ_discrete, dec_lt}
use native.Mathlib.Omega.{arith}
use borrow.Author.Tests.{lt-ltb, eq-eqb, ne_eqb, eqb-true, ltb-true}
use lib.ListN.{length, get_or, replicate, length-replicate}
use lib.Seq.{ext_get_or}
use Rattle.base.specs.Sizes.{sites_most}
use Rattle.base.specs.Over.{over_below, length_over}
use Rattle.types.specs.declared.Site.{Site}
use Rattle.types.specs.declared.State.{State}
use Rattle.model.specs.Types.{site_at}
use Rattle.layout.specs.Layout.{site_places, counter_at, word_count, set_index, fields_index}
use Rattle.layout.specs.Words.{set_at, fields_at, site_of, state_of}
use Rattle.layout.specs.Words.{set_of, fields_of, word_of, words_of, canonical}
use Rattle.layout.proofs.Decoded.{site_at_lem}
use Rattle.layout.proofs.Canonical.{set_again, canonical_counter, canonical_at, canonical_by_places}

-- ---- a word by its place

-- what holds of both words of each place, and of the counter's, holds of each word
by_word : (P : ℕ → Type 0) → ((s k : ℕ) → s < sites_most → k < site_places → P (set_index s k))
    → ((s k : ℕ) → s < sites_most → k < site_places → P (fields_index s k)) → P counter_at → (m : ℕ) → m < word_count → P m
by_word P sets fields counter m h = go (dec_lt m counter_at) (ℕ_discrete (m % 2) 0)
  where
    go : Dec (m < counter_at) → Dec (m % 2 ≡ 0) → P m
    go (yes l) (yes e) =
        let z : set_index (m / 2 / site_places) (m / 2 % site_places) ≡ m = omega arith in
        rw z at (sets (m / 2 / site_places) (m / 2 % site_places) (omega arith) (omega arith))
    go (yes l) (no e) =
        let z : fields_index (m / 2 / site_places) (m / 2 % site_places) ≡ m = omega arith in
        rw z at (fields (m / 2 / site_places) (m / 2 % site_places) (omega arith) (omega arith))
    go (no l) e = let z : counter_at ≡ m = omega arith in rw z at counter

room : (n : ℕ) → n ≤ length (replicate {A = ℕ} n 0)
room n = let z = length-replicate {A = ℕ} n 0 in omega arith

pub length_words : (st : State) → length (words_of st) ≡ word_count
unfolding words_of
length_words st = length_over (word_of st) word_count (replicate word_count 0) ∙ length-replicate {A = ℕ} word_count 0

module _ (st : State) where
  word_at : (m : ℕ) → m < word_count → get_or (words_of st) m 0 ≡ word_of st m
  unfolding words_of
  word_at m h = over_below (word_of st) word_count (replicate word_count 0) m 0 h (room word_count)

  module _ (s k : ℕ) (hs : s < sites_most) (hk : k < site_places) where
    pub set_word : set_at (words_of st) s k ≡ set_of (site_at st.sites s) k
    unfolding word_of
    set_word =
        let a : set_index s k / 2 / site_places ≡ s = omega arith in
        let b : set_index s k / 2 % site_places ≡ k = omega arith in
        let e : set_index s k % 2 ≡ 0 = omega arith in
        word_at (set_index s k) (omega arith) ∙ rw (lt-ltb (set_index s k) counter_at (omega arith), eq-eqb (set_index s k % 2) 0 e, a, b) refl

    pub fields_word : fields_at (words_of st) s k ≡ fields_of (site_at st.sites s) k
    unfolding word_of
    fields_word =
        let a : fields_index s k / 2 / site_places ≡ s = omega arith in
        let b : fields_index s k / 2 % site_places ≡ k = omega arith in
        word_at (fields_index s k) (omega arith)
        ∙ rw (lt-ltb (fields_index s k) counter_at (omega arith), ne_eqb (fields_index s k % 2) 0 (λ e. omega arith), a, b) refl

  pub counter_word : get_or (words_of st) counter_at 0 ≡ st.counter
  unfolding word_of
  counter_word = word_at counter_at (omega arith) ∙ refl

-- ---- canonical is exactly: packing what the words stand for gives them again

pub packed : (c : List ℕ) → length c ≡ word_count → canonical c ≡ true → words_of (state_of c) ≡ c
packed c hl ok = ext_get_or 0 (words_of (state_of c)) c (length_words (state_of c) ∙ sym hl) (λ m h. each m (let z = length_words (state_of c) in omega arith))
  where
    each : (m : ℕ) → m < word_count → get_or (words_of (state_of c)) m 0 ≡ get_or c m 0
    each =
        by_word (λ m. get_or (words_of (state_of c)) m 0 ≡ get_or c m 0)
        (λ s k hs hk. set_word (state_of c) s k hs hk ∙ ap (λ (x : Site). set_of x k) (site_at_lem c s hs) ∙ set_again c s k hk)
        (λ s k hs hk. fields_word (state_of c) s k hs hk
        ∙ ap (λ (x : Site). fields_of x k) (site_at_lem c s hs) ∙ sym (eqb-true _ _ (canonical_at c s k ok hs hk)))
        (let l = ltb-true (get_or c counter_at 0) 256 (canonical_counter c ok) in
        let e : get_or c counter_at 0 % 256 ≡ get_or c counter_at 0 = omega arith in counter_word (state_of c) ∙ e)

pub canonical_by : (c : List ℕ) → length c ≡ word_count → words_of (state_of c) ≡ c → canonical c ≡ true
canonical_by c hl e =
    canonical_by_places c
    (λ s k hs hk. eq-eqb (fields_at c s k) (fields_of (site_of c s) k)
    (ap (λ (d : List ℕ). fields_at d s k) (sym e) ∙ fields_word (state_of c) s k hs hk ∙ ap (λ (x : Site). fields_of x k) (site_at_lem c s hs)))
    (let z = ap (λ (d : List ℕ). get_or d counter_at 0) (sym e) ∙ counter_word (state_of c) in lt-ltb (get_or c counter_at 0) 256 (omega arith))

pub settled : (c d : List ℕ) → length c ≡ word_count → length d ≡ word_count → canonical c ≡ true → canonical d ≡ true → state_of c ≡ state_of d → c ≡ d
settled c d lc ld kc kd e = sym (packed c lc kc) ∙ ap words_of e ∙ packed d ld kd

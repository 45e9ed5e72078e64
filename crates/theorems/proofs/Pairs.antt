-- Owed pairs: what a state owes, summed over all packets and sites, is the count of owed pairs. Assumes that packets lie below a bound.
use Prim.Native.Nat.{ℕ, zero, suc, ◌+◌, ◌≤◌, ◌<◌, suc-le-suc}
use mathlib.Core.Path.{◌≡◌, refl, sym, ap, ap₂, ◌∙◌}
use mathlib.Core.List.{List, [], ◌∷◌}
use mathlib.Core.Bool.{Bool, true, false, cond}
use native.Mathlib.Omega.{arith}
use lib.Dec.{eqb}
use borrow.Author.Tests.{eqb-true}
use lib.ListN.{get_or, take, length}
use Rattle.base.specs.Sizes.{set_bits}
use Rattle.base.specs.Sums.{sum, isum, upto, upto_ext, upto_add, upto_zero, upto_one, upto_sum, upto_isum}
use Rattle.sets.specs.Sets.{bit}
use Rattle.sets.proofs.LawsBit.{count_has, size_upto}
use Rattle.theorems.specs.Names.{Terminator, t_none, t_end, t_abort, t_keep, InQueue, Site}
use Rattle.model.specs.Types.{input_d, no_output, no_out_entry, no_in_entry, in_queue_d, site_d, site_at, in_at, out_at, out_entry, queue_at, in_entry}
use Rattle.types.specs.Phases.{held}
use Rattle.model.specs.Owing.{owes_as, owes_input, owes_output, owes_out_entry, owes_in_entry, owes_out_queue, owes_in_queue, owes_site, owed}
use Rattle.model.specs.Owing.{pairs_as, pairs_input, pairs_output, pairs_out_entry, pairs_in_entry, pairs_in_queue, pairs_site, owed_pairs}

-- sums of what is the same at each place; what holds of each entry holds of each of the first ones
sum_same : {A : Type 0} (f g : A → ℕ) (l : List A) (d : A) → ((i : ℕ) → f (get_or l i d) ≡ g (get_or l i d)) → sum f l ≡ sum g l
unfolding sum
sum_same f g [] d h = refl
sum_same f g (x ∷ xs) d h = ap₂ (λ (a b : ℕ). a + b) (h 0) (sum_same f g xs d (λ i. h (suc i)))

isum_same : {A : Type 0} (f g : ℕ → A → ℕ) (k : ℕ) (l : List A) (d : A)
    → ((i : ℕ) → i < length l → f (k + i) (get_or l i d) ≡ g (k + i) (get_or l i d)) → isum f k l ≡ isum g k l
unfolding isum
isum_same f g k [] d h = refl
isum_same f g k (x ∷ xs) d h =
    ap₂ (λ (a b : ℕ). a + b) (let e : k + 0 ≡ k = omega arith in rw e at (h 0 (omega arith)))
    (isum_same f g (suc k) xs d (λ i l. let e : k + suc i ≡ suc k + i = omega arith in rw e at (h (suc i) (suc-le-suc l))))

take_all : {A : Type 0} (Q : A → Type 0) (l : List A) (d : A) → Q d → ((i : ℕ) → Q (get_or l i d)) → (n i : ℕ) → Q (get_or (take n l) i d)
take_all Q l d q h zero i = q
take_all Q [] d q h (suc n) i = q
take_all Q (x ∷ xs) d q h (suc n) zero = h 0
take_all Q (x ∷ xs) d q h (suc n) (suc i) = take_all Q xs d q (λ j. h (suc j)) n i

-- the sum over the packets below P and the sites below 64
abbrev pub grand : ℕ → (ℕ → ℕ → ℕ) → ℕ
grand P f = upto P (λ p. upto set_bits (λ t. f p t))

module _ (P : ℕ) where
  pub grand_ext : (f g : ℕ → ℕ → ℕ) → ((p t : ℕ) → f p t ≡ g p t) → grand P f ≡ grand P g
  grand_ext f g h = upto_ext P _ _ (λ p a. upto_ext set_bits _ _ (λ t b. h p t))

  pub grand_add : (f g : ℕ → ℕ → ℕ) → grand P (λ p t. f p t + g p t) ≡ grand P f + grand P g
  grand_add f g = upto_ext P _ _ (λ p a. upto_add set_bits (f p) (g p)) ∙ upto_add P (λ p. upto set_bits (f p)) (λ p. upto set_bits (g p))

  pub grand_zero : grand P (λ p t. 0) ≡ 0
  grand_zero = upto_ext P _ (λ p. 0) (λ p a. upto_zero set_bits) ∙ upto_zero P

  pub grand_sum : {A : Type 0} (f : ℕ → ℕ → A → ℕ) (l : List A) → grand P (λ p t. sum (f p t) l) ≡ sum (λ a. grand P (λ p t. f p t a)) l
  grand_sum f l = upto_ext P _ _ (λ p a. upto_sum set_bits (f p) l) ∙ upto_sum P (λ p a. upto set_bits (λ t. f p t a)) l

  pub grand_isum : {A : Type 0} (f : ℕ → ℕ → ℕ → A → ℕ) (l : List A)
      → grand P (λ p t. isum (f p t) 0 l) ≡ isum (λ i a. grand P (λ p t. f p t i a)) 0 l
  grand_isum f l = upto_ext P _ _ (λ p a. upto_isum set_bits (f p) 0 l) ∙ upto_isum P (λ p i a. upto set_bits (λ t. f p t i a)) 0 l

  -- what is asked of one packet alone
  pub grand_packet : (q : ℕ) (f : ℕ → ℕ) → q < P → grand P (λ p t. cond (eqb p q) (f t) 0) ≡ upto set_bits f
  grand_packet q f h = upto_ext P _ (λ p. cond (eqb p q) (upto set_bits f) 0) (λ p a. go (eqb p q)) ∙ upto_one P q (λ p. upto set_bits f) h
    where
      go : (b : Bool) → upto set_bits (λ t. cond b (f t) 0) ≡ cond b (upto set_bits f) 0
      go true = refl
      go false = upto_zero set_bits

  -- of one packet at one site alone
  pub grand_pair : (q s k : ℕ) → q < P → s < set_bits → grand P (λ p t. cond (eqb p q) (cond (eqb t s) k 0) 0) ≡ k
  grand_pair q s k h l = grand_packet q (λ t. cond (eqb t s) k 0) h ∙ upto_one set_bits s (λ t. k) l

  -- a place: summed over packets and sites it owes its pairs
  pub place_pairs : (k : Terminator) (s q X : ℕ) → q < P → s < set_bits → grand P (λ p t. owes_as k s p t q X) ≡ pairs_as k s X
  place_pairs t_none s q X h l = grand_zero
  place_pairs t_abort s q X h l = grand_zero
  place_pairs t_end s q X h l = grand_packet q (λ t. bit t X) h ∙ sym (size_upto set_bits X)
  place_pairs t_keep s q X h l =
      grand_ext _ (λ p t. cond (eqb p q) (cond (eqb t s) (bit s X) 0) 0) (λ p t. go t (eqb p q) (eqb t s) refl)
      ∙ grand_pair q s (bit s X) h l
      ∙ sym (count_has s X)
    where
      go : (t : ℕ) (b c : Bool) → eqb t s ≡ c → cond c (cond b (bit t X) 0) 0 ≡ cond b (cond c (bit s X) 0) 0
      go t true true e = ap (λ (w : ℕ). bit w X) (eqb-true t s e)
      go t true false e = refl
      go t false true e = refl
      go t false false e = refl

  -- a site whose packets lie below P
  pub record SmallSite (x : Site) : Type 0 where
    pub ins : (i : ℕ) → (in_at x i).packet < P
    pub outs : (j : ℕ) → (out_at x j).packet < P
    pub out_entries : (m : ℕ) → (out_entry x.outgoing m).packet < P
    pub in_entries_lem : (m e : ℕ) → (in_entry (queue_at x m) e).packet < P

  -- an in-queue
  queue_pairs : (s : ℕ) (iq : InQueue) → 0 < P → s < set_bits → ((e : ℕ) → (in_entry iq e).packet < P)
      → grand P (λ p t. owes_in_queue s p t iq) ≡ pairs_in_queue s iq
  queue_pairs s iq z l ok =
      grand_sum (owes_in_entry s) (take iq.count iq.entries)
      ∙ sum_same _ (pairs_in_entry s) _ no_in_entry
      (λ e.
      place_pairs (get_or (take iq.count iq.entries) e no_in_entry).terminator s _ _
      (take_all (λ a. a.packet < P) _ no_in_entry z ok iq.count e) l)

  pub site_pairs : (s : ℕ) (x : Site) → 0 < P → s < set_bits → SmallSite x → grand P (λ p t. owes_site p t s x) ≡ pairs_site s x
  site_pairs s x z l ok =
      grand_add
      (λ p t. sum (owes_input s p t) x.inputs + sum (owes_output s p t) x.outputs + owes_out_queue s p t x.outgoing)
      (λ p t. sum (owes_in_queue s p t) x.incoming)
      ∙ ap₂ (λ (a b : ℕ). a + b)
      (grand_add (λ p t. sum (owes_input s p t) x.inputs + sum (owes_output s p t) x.outputs) (λ p t. owes_out_queue s p t x.outgoing)
      ∙ ap₂ (λ (a b : ℕ). a + b)
      (grand_add (λ p t. sum (owes_input s p t) x.inputs) (λ p t. sum (owes_output s p t) x.outputs)
      ∙ ap₂ (λ (a b : ℕ). a + b)
      (grand_sum (owes_input s) x.inputs
      ∙ sum_same _ (pairs_input s) x.inputs input_d (λ i. place_pairs (held (in_at x i).phase) s _ _ (ok.ins i) l))
      (grand_sum (owes_output s) x.outputs
      ∙ sum_same _ (pairs_output s) x.outputs no_output (λ j. place_pairs (out_at x j).terminator s _ _ (ok.outs j) l)))
      (grand_sum (owes_out_entry s) (take x.outgoing.count x.outgoing.entries)
      ∙ sum_same _ (pairs_out_entry s) _ no_out_entry
      (λ m.
      place_pairs t_end s _ _ (take_all (λ d. d.packet < P) _ no_out_entry z ok.out_entries x.outgoing.count m) l)))
      (grand_sum (owes_in_queue s) x.incoming
      ∙ sum_same _ (pairs_in_queue s) x.incoming in_queue_d (λ m. queue_pairs s (queue_at x m) z l (ok.in_entries_lem m)))

  -- all sites
  pub state_pairs : (st : List Site) → 0 < P → length st ≤ set_bits → ((s : ℕ) → s < length st → SmallSite (site_at st s))
      → grand P (owed st) ≡ owed_pairs st
  unfolding owed owed_pairs
  state_pairs st z l ok =
      grand_isum owes_site st
      ∙ isum_same _ pairs_site 0 st site_d
      (λ s h. let e : 0 + s ≡ s = omega arith in rw e (site_pairs s (site_at st s) z (omega arith) (ok s h)))

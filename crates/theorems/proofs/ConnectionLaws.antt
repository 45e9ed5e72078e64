-- An input's connection where outputs change: what a rule may do to the outputs on behalf of one input, so that every
-- other input stays connected as it was; and an input that receives. Assumes nothing.
use Prim.Native.Nat.{ℕ, suc, ◌+◌, ◌<◌}
use mathlib.Core.Path.{◌≡◌, refl, sym, ap, ◌∙◌, subst}
use mathlib.Core.List.{List, []}
use mathlib.Core.Bool.{Bool, true, false, cond}
use native.Mathlib.Omega.{arith}
use lib.ListN.{length, length-set}
use Rattle.base.specs.Sizes.{input_count, output_count}
use Rattle.base.specs.Bools.{clash}
use Rattle.base.specs.Lists.{all_but, rel_set}
use Rattle.base.specs.Sums.{sum, sum_set, upto_ext}
use Rattle.theorems.specs.Names.{Connection, Received, got_end, Terminator, t_none, t_end, t_abort, t_keep, Phase, Free, Seek}
use Rattle.theorems.specs.Names.{Open, Wait, Done, Last, Aborted, FinAbort, Input, Output, OutQueue, InQueue, Site}
use Rattle.model.specs.Types.{input_d, in_at, out_of, out_at, mark, queue_port, set_in}
use Rattle.types.specs.Phases.{is_free, listening, is_none, as_terminator, held, receive}
use Rattle.model.specs.Types.{received}
use Rattle.model.specs.NetInput.{table}
use Rattle.model.specs.Steps.{set_both}
use Rattle.model.specs.Owing.{owes_as, owes_input, owes_output}
use Rattle.theorems.proofs.Invariant.{tag, tag_out, claim_of, claim, idle, Quiet, Fed, Whole, Joined, ConnAt, Conn, Leaving}
use Rattle.theorems.proofs.Invariant.{Landing, SiteOk, Persist, SameHead, Good}

-- ---- what an input's state tells

-- equal tags owe alike
pub tag_owes : (k : Terminator) (s p t : ℕ) {q X q' X' : ℕ} → tag q X ≡ tag q' X'
    → owes_as k s p t q X ≡ owes_as k s p t q' X'
tag_owes k s p t e = cc

module _ (y : Input) (ph : Phase) (e : y.phase ≡ ph) where
  pub phase_owes : (s p t : ℕ) → owes_input s p t y ≡ owes_as (held ph) s p t y.packet y.set
  phase_owes s p t = ap (λ (h : Phase). owes_as (held h) s p t y.packet y.set) e

  pub phase_claim : claim y ≡ claim_of ph y.packet y.set
  phase_claim = ap (λ (h : Phase). claim_of h y.packet y.set) e

  pub phase_conn : (s i : ℕ) (o : ℕ → Output) → Conn s i y o → ConnAt ph s i y.outputs y.packet y.set o
  phase_conn s i o h = subst (λ (h : Phase). ConnAt h s i y.outputs y.packet y.set o) e h

pub no_claim : (y y' : Input) → claim y ≡ [] → Persist y y'
no_claim y y' e q X h = cc

-- ---- an output that may change its head

-- an output but for its head
abbrev pub core : Output → Output
core o =
    record {
      set = o.set;
      terminator = o.terminator;
      packet = o.packet;
      input = o.input;
      used = o.used;
      head = false;
      closing = o.closing;
    }

fed_core : {i : ℕ} {o o' : Output} → core o' ≡ core o → Fed i o → Fed i o'
fed_core e h =
    record {
      used = ap (λ (o : Output). o.used) e ∙ h.used;
      from = ap (λ (o : Output). o.input) e ∙ h.from;
      bare = ap (λ (o : Output). o.terminator) e ∙ h.bare;
      stays = ap (λ (o : Output). o.closing) e ∙ h.stays;
    }

pub not_idle : {i : ℕ} {o : Output} → Fed i o → idle o ≡ true → ⊥
not_idle h e = clash (sym e ∙ rw (h.used, h.stays) refl)

pub fed_owes : {i : ℕ} {o : Output} (s p t : ℕ) → Fed i o → owes_output s p t o ≡ 0
fed_owes {o = o} s p t h = ap (λ (k : Terminator). owes_as k s p t o.packet o.set) h.bare

-- ---- of the outputs that input i feeds only heads change: it stays connected as it was

abbrev pub Frame : ℕ → (ℕ → Output) → (ℕ → Output) → Type 0
Frame i o o' = (j : ℕ) → Fed i (o j) → core (o' j) ≡ core (o j)

module _ (i : ℕ) (o o' : ℕ → Output) (f : Frame i o o') where
  whole_frame : (q X : ℕ) → Whole i q X o → Whole i q X o'
  whole_frame q X h =
      record { fed = fed_core (f 0 h.fed) h.fed; same = ap tag_out (f 0 h.fed) ∙ h.same }

  joined_frame : (s : ℕ) (c : Connection) (bs : List Bool) (q X : ℕ) → Joined s i c bs q X o → Joined s i c bs q X o'
  joined_frame s c bs q X h =
      record {
        each = λ j l m. fed_core (f j (h.each j l m)) (h.each j l m);
        covers = λ p t. upto_ext output_count _ _ (λ j l. go p t j l (mark bs j) refl) ∙ h.covers p t;
        zeroth = λ k. whole_frame q X (h.zeroth k);
      }
    where
      go : (p t j : ℕ) → j < output_count → (b : Bool) → mark bs j ≡ b
          → cond b (owes_as (table got_end c j) s p t (o' j).packet (o' j).set) 0
          ≡ cond b (owes_as (table got_end c j) s p t (o j).packet (o j).set) 0
      go p t j l true e =
          ap (λ (z : Output). owes_as (table got_end c j) s p t z.packet z.set) (f j (h.each j l e))
      go p t j l false e = refl

  frame_at : (ph : Phase) (s : ℕ) (bs : List Bool) (q X : ℕ) → ConnAt ph s i bs q X o → ConnAt ph s i bs q X o'
  frame_at Free s bs q X h = tt
  frame_at Seek s bs q X h = tt
  frame_at (Open c) s bs q X h = joined_frame s c bs q X h
  frame_at (Wait c) s bs q X h = joined_frame s c bs q X h
  frame_at (Done c r) s bs q X h = joined_frame s c bs q X h
  frame_at (Last c r) s bs q X h = joined_frame s c bs q X h
  frame_at (Aborted c) s bs q X h = whole_frame q X h
  frame_at (FinAbort c r) s bs q X h = whole_frame q X h

  pub conn_frame : (s : ℕ) (y : Input) → Conn s i y o → Conn s i y o'
  conn_frame s y h = frame_at y.phase s y.outputs y.packet y.set h

-- ---- an output changed on behalf of input i

pub record Renewed (i : ℕ) (o o' : Output) : Type 0 where
  pub heads : SameHead o o'
  pub quiet : Quiet o → Quiet o'
  pub others : (k : ℕ) → (k ≡ i → ⊥) → Fed k o → core o' ≡ core o

pub renewed_refl : (i : ℕ) (o : Output) → Renewed i o o
renewed_refl i o = record { heads = λ h. (h, refl); quiet = λ h. h; others = λ k ne f. refl }

-- queues where the input, or the output, beside them changed
pub leaving_keeps : {q : OutQueue} {y y' : Input} → Persist y y' → Leaving q y → Leaving q y'
leaving_keeps per h = record { fits = h.fits; front = λ e. per _ _ (h.front e); rest = h.rest }

pub landing_keeps : {q : InQueue} {o o' : Output} → SameHead o o' → Landing q o → Landing q o'
landing_keeps same h = record { fits = h.fits; last = λ e. h.last (same e).0 ∙ (same e).1 }

-- ---- one input and outputs of a site

module _ (s : ℕ) (x : Site) (i : ℕ) (ok : SiteOk s x) (hi : i < input_count) where
  pub both_good : (os : List Output) (y : Input) → length os ≡ output_count
      → ((j : ℕ) → Renewed i (out_at x j) (out_of os j)) → Persist (in_at x i) y → Conn s i y (out_of os)
      → ((p t : ℕ) → sum (owes_output s p t) os + owes_input s p t y
      ≡ sum (owes_output s p t) x.outputs + owes_input s p t (in_at x i))
      → Good s x (set_both x i y os) (λ p t. 0)
  both_good os y len out per con wt =
      let lin : i < length x.inputs = omega (arith, ok.ins) in
      let ins : (k : ℕ) → Persist (in_at x k) (in_at (set_both x i y os) k) =
      rel_set Persist x.inputs i y input_d (λ a q X h. h) per in
      record {
        ok =
            record {
              ins = length-set x.inputs i y ∙ ok.ins;
              outs = len;
              leaving = leaving_keeps (ins 0) ok.leaving;
              queues = ok.queues;
              landing = λ m hm. landing_keeps (out (queue_port m)).heads (ok.landing m hm);
              conn =
                  all_but (λ k z. Conn s k z (out_of os)) x.inputs i y input_d lin con
                  (λ k ne. conn_frame k (out_at x) (out_of os) (λ j. (out j).others k ne) s (in_at x k) (ok.conn k));
              quiet = λ j. (out j).quiet (ok.quiet j);
            };
        keeps = record { inputs = λ k. ins (suc k); outputs = λ j hj. (out (suc j)).heads };
        weight = λ p t. omega (arith, wt p t, sum_set (owes_input s p t) x.inputs i y input_d lin);
      }

  -- one input alone
  pub in_good : (y : Input) → Persist (in_at x i) y → Conn s i y (out_at x)
      → ((p t : ℕ) → owes_input s p t y ≡ owes_input s p t (in_at x i)) → Good s x (set_in x i y) (λ p t. 0)
  in_good y per con wt =
      both_good x.outputs y ok.outs (λ j. renewed_refl i (out_at x j)) per con (λ p t. omega (arith, wt p t))

-- ---- no terminator, a free input, and one that listens

pub none_is : (k : Terminator) → is_none k ≡ true → k ≡ t_none
none_is t_none h = refl
none_is t_end h = cc
none_is t_abort h = cc
none_is t_keep h = cc

pub free_is : (ph : Phase) → is_free ph ≡ true → ph ≡ Free
free_is Free h = refl
free_is Seek h = cc
free_is (Open c) h = cc
free_is (Wait c) h = cc
free_is (Done c r) h = cc
free_is (Last c r) h = cc
free_is (Aborted c) h = cc
free_is (FinAbort c r) h = cc

listening_by : (P : Phase → Type 0) → ((c : Connection) → P (Open c)) → ((c : Connection) → P (Aborted c))
    → (ph : Phase) → listening ph ≡ true → P ph
listening_by P a b Free h = absurd (clash (sym h))
listening_by P a b Seek h = absurd (clash (sym h))
listening_by P a b (Open c) h = a c
listening_by P a b (Wait c) h = absurd (clash (sym h))
listening_by P a b (Done c r) h = absurd (clash (sym h))
listening_by P a b (Last c r) h = absurd (clash (sym h))
listening_by P a b (Aborted c) h = b c
listening_by P a b (FinAbort c r) h = absurd (clash (sym h))

module _ (y : Input) (h : listening y.phase ≡ true) where
  pub listening_claim : claim y ≡ tag y.packet y.set
  listening_claim =
      listening_by (λ ph. claim_of ph y.packet y.set ≡ tag y.packet y.set) (λ c. refl) (λ c. refl) y.phase
      h

  pub listening_owes : (s p t : ℕ) → owes_input s p t y ≡ 0
  listening_owes s p t =
      listening_by (λ ph. owes_as (held ph) s p t y.packet y.set ≡ 0) (λ c. refl) (λ c. refl) y.phase h

  -- it receives r
  pub received_owes : (r : Received) (s p t : ℕ)
      → owes_input s p t (received r y) ≡ owes_as (as_terminator r) s p t y.packet y.set
  received_owes r s p t =
      ap (λ (k : Terminator). owes_as k s p t y.packet y.set)
      (listening_by (λ ph. held (receive r ph) ≡ as_terminator r) (λ c. refl) (λ c. refl) y.phase h)

  pub received_conn : (r : Received) (s i : ℕ) (o : ℕ → Output) → Conn s i y o → Conn s i (received r y) o
  received_conn r s i o =
      let At : Phase → Type 0 = λ ph. ConnAt ph s i y.outputs y.packet y.set o in
      listening_by (λ ph. At ph → At (receive r ph)) (λ c k. k) (λ c k. k) y.phase h

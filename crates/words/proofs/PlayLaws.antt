-- A player's loop over words: what is known before each turn, what a turn asks of it, and the end. Assumes what each law names.
use Prim.Native.Nat.{ℕ, ◌+◌, ◌≤◌, ◌<◌}
use mathlib.Core.Path.{◌≡◌, refl, ap, ◌∙◌}
use mathlib.Core.List.{List}
use native.Mathlib.Omega.{arith}
use lib.ListN.{length}
use Rattle.types.specs.declared.State.{State}
use Rattle.types.specs.declared.StoredSend.{StoredSend}
use Rattle.types.specs.declared.Run.{Run}
use Rattle.model.specs.Types.{send_at}
use Rattle.model.specs.Owing.{owed_pairs}
use Rattle.model.specs.Runs.{played_run, counts_of}
use Rattle.machine.specs.Play.{Playable, book_in}
use Rattle.machine.specs.Progress.{Progress, progress, no_turn, capped_at, capped_same}
use Rattle.machine.proofs.PlayerTurns.{Playing, next_most, accepted_most, pairs_most, network_valid, state_in_range, more, ended}
use Rattle.machine.proofs.ProgressLaws.{stored_sends}
use Rattle.machine.proofs.ProgressLawsOrder.{draw_below}
use Rattle.words.specs.declared.player.Tally.{Tally}
use Rattle.layout.specs.Layout.{word_count}
use Rattle.layout.specs.Words.{sites_of, state_of}
use Rattle.words.specs.Turned.{standing, Turnable, Turned, Startable, Stands}
use Rattle.layout.proofs.Empty.{empty_words, length_none}
use Rattle.words.proofs.RunLaws.{run_asks}

-- after k of total turns: the words c, the bytes b (room at first), the counts t
pub record Going (R : Run) (room : List ℕ) (total k : ℕ) (c b : List ℕ) (t : Tally) : Type 0 where
  pub playing : Playing R room total k (standing t c b)
  pub size : length c ≡ word_count

abbrev start_tally : ℕ → Tally
start_tally seed = record { accepted = 0; pairs = 0; serviced = 0; next = 0; clock = record { value = seed; draw = 0 } }

-- where a run stands before its first turn, its state y
abbrev first : Run → List ℕ → State → Progress
first R room y =
    record { state = y; value = R.seed; next = 0; draw = 0; accepted = 0; pairs = 0; serviced = 0; book = room }

pub going : (R : Run) (c room : List ℕ) (total : ℕ) → Startable R c (length room) → total ≡ R.count + R.draws → R.draws < 65536
    → Going R room total 0 c room (start_tally R.seed)
going R c room total ok e h =
    record {
      playing =
          record {
            run = ok.run;
            turns = e;
            draws = h;
            here = omega arith;
            same = ap (λ (y : State). first R room y) (ap state_of ok.words ∙ empty_words) ∙ no_turn R room;
          };
      size = ap length ok.words ∙ length_none;
    }

module _ {R : Run} {room : List ℕ} {total k : ℕ} {c b : List ℕ} {t : Tally} (at : Going R room total k c b t) where
  pub turnable : Turnable R.network c t
  turnable =
      let val = network_valid at.playing in
      record {
        some = val.some;
        few = val.few;
        deep = val.deep;
        next = next_most at.playing;
        accepted = accepted_most at.playing;
        pairs = pairs_most at.playing;
        runs_at = λ s h. run_asks R.network c s val (state_in_range at.playing) h;
      }

  pub goes_on : k < total → {m : ℕ} → m ≡ capped_at t.next → {o : StoredSend} → o ≡ send_at R m → {d q : List ℕ} {r : Tally}
      → Turned R.network R.count c d b q o t r → Going R room total (k + 1) d q r
  goes_on l {m = m} hm {o = o} ho {d = d} {q = q} {r = r} turn =
      record {
        playing =
            more at.playing l (standing r d q)
            (turn.same R refl refl
            (λ h. ho ∙ ap (send_at R) (hm ∙ capped_same t.next (omega (arith, h, (stored_sends R at.playing.run.valid).0))))
            (λ e.
            let low = draw_below R room at.playing.run.valid k (standing t c b) at.playing.same (omega (arith, l, at.playing.turns)) e in
            omega (arith, low, at.playing.draws)));
        size = turn.size;
      }

  pub gone : total ≤ k → Stands R c room b t
  gone l =
      let last : k ≡ R.count + R.draws = omega (arith, l, at.playing.here, at.playing.turns) in
      record { size = at.size; same = at.playing.same ∙ ap (progress R room) last }

-- the counts and the book at the end
pub played_words : (R : Run) (d b q : List ℕ) (r : Tally) → Playable R (length b) → R.draws < 65536 → Stands R d b q r → (owed : ℕ)
    → owed ≡ owed_pairs (sites_of d)
    → (record { accepted = r.accepted; pairs = r.pairs; serviced = r.serviced; owed = owed } ≡ counts_of (played_run R)) × (q ≡ book_in R b)
played_words R d b q r ok h st owed e =
    let total = R.count + R.draws in
    let at : Playing R b total total (standing r d q) =
    record { run = ok; turns = refl; draws = h; here = omega arith; same = st.same } in
    ended at (omega arith) e

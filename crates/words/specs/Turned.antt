-- A turn of a run in words: where the run stands, what a turn asks, what it leaves.
use Rattle.std.specs.Prelude.{ℕ, ◌+◌, ◌*◌, ◌<◌, ◌≤◌, ◌≡◌, List, false, length}
use Rattle.base.specs.Sizes.{sites_most, queue_room, sends_most, set_bits}
use Rattle.draws.specs.Draws.{event_of}
use Rattle.types.specs.declared.Network.{Network}
use Rattle.types.specs.declared.StoredSend.{StoredSend}
use Rattle.types.specs.declared.Run.{Run}
use Rattle.types.specs.declared.AfterSend.{AfterSend}
use Rattle.types.specs.declared.AfterRun.{AfterRun}
use Rattle.model.specs.Types.{send_at}
use Rattle.model.specs.Events.{runs}
use Rattle.machine.specs.Clock.{advanced}
use Rattle.machine.specs.Progress.{Progress, due, answered, entries_by, book_by, turned, progress}
use Rattle.machine.specs.Play.{Playable}
use Rattle.words.specs.declared.player.Tally.{Tally}
use Rattle.layout.specs.Layout.{word_count}
use Rattle.layout.specs.Words.{state_of, no_words}
use Rattle.words.specs.Events.{RunAsks, tried}

-- where a run stands, its state the words c, its book the bytes b
abbrev pub standing : Tally → List ℕ → List ℕ → Progress
standing t c b =
    record {
      state = state_of c;
      value = t.clock.value;
      next = t.next;
      draw = t.clock.draw;
      accepted = t.accepted;
      pairs = t.pairs;
      serviced = t.serviced;
      book = b;
    }

-- what a turn asks: of the network and the words, and that the counts are a run's
pub record Turnable (n : Network) (c : List ℕ) (t : Tally) : Type 0 where
  pub some : 1 ≤ n.sites
  pub few : n.sites ≤ sites_most
  pub deep : n.depth ≤ queue_room
  pub next : t.next ≤ sends_most
  pub accepted : t.accepted ≤ sends_most
  pub pairs : t.pairs ≤ sends_most * set_bits
  pub runs_at : (s : ℕ) → s < n.sites → RunAsks n c s

-- the send o was tried: the words d, the counts r; its answer decides
abbrev pub tried_send : ℕ → ℕ → List ℕ → StoredSend → AfterSend
tried_send S D c o = tried S D (state_of c) o.site o.set

pub record Tried (S D : ℕ) (c d : List ℕ) (o : StoredSend) (t r : Tally) : Type 0 where
  pub size : length d ≡ word_count
  pub same : (b : List ℕ) → standing r d b ≡ answered (standing t c b) o.set (tried_send S D c o) (tried_send S D c o).answer

-- a draw was made: the words d, the bytes q in the place of b, the counts r
abbrev pub ran_by : Network → List ℕ → Tally → AfterRun
ran_by n c r =
    let e = event_of n.edition n.sites r.clock.value in
    runs n (state_of c) e.site e.code

pub record Drew (n : Network) (c d b q : List ℕ) (t r : Tally) : Type 0 where
  pub size : length d ≡ word_count
  pub clock : r.clock ≡ advanced t.clock
  pub state : state_of d ≡ (ran_by n c r).state
  pub serviced : r.serviced ≡ entries_by (ran_by n c r).answer b t.serviced
  pub book : q ≡ book_by (ran_by n c r).answer b t.serviced t.clock.draw
  pub next : r.next ≡ t.next
  pub accepted : r.accepted ≡ t.accepted
  pub pairs : r.pairs ≡ t.pairs

-- a turn of any run with this network, of which o is the next of count sends: the send if it is due, else a draw
pub record Turned (n : Network) (count : ℕ) (c d b q : List ℕ) (o : StoredSend) (t r : Tally) : Type 0 where
  pub size : length d ≡ word_count
  pub same : (R : Run) → R.network ≡ n → R.count ≡ count → (t.next < count → o ≡ send_at R t.next)
      → (due R (standing t c b) ≡ false → t.clock.draw < 65535) → standing r d q ≡ turned R (standing t c b)

-- a run that can be played from these words: it is valid with room for its book, the words are zero
pub record Startable (R : Run) (c : List ℕ) (room : ℕ) : Type 0 where
  pub run : Playable R room
  pub words : c ≡ no_words

-- where it stands after its last turn, the book b at first
pub record Stands (R : Run) (d b q : List ℕ) (r : Tally) : Type 0 where
  pub size : length d ≡ word_count
  pub same : standing r d q ≡ progress R b (R.count + R.draws)

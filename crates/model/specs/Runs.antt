-- Document 01, "Draws and the stored run": a run's own refusals, the events that it stands for, its book and the player's counts.
use Rattle.std.specs.Prelude.{ℕ, zero, suc, ◌+◌, ◌-◌, ◌*◌, ◌/◌, ◌%◌, List, [], ◌∷◌, ◌++◌, map, Bool, cond, ◌&&◌, ◌||◌, eqb, ltb, leb, get_or, take, length, replicate}
use Rattle.base.specs.Sizes.{sends_most}
use Rattle.base.specs.All.{all}
use Rattle.base.specs.Over.{over}
use Rattle.base.specs.Sums.{sum, upto}
use Rattle.sets.specs.Sets.{targets, size}
use Rattle.draws.specs.Draws.{value_after, drawn_site, drawn_code}
use Rattle.model.specs.Types.{State, Network, StoredSend, Run as StoredRun, Sent, Accepted, SendRefused, Ran, AfterSend}
use Rattle.model.specs.Types.{AfterRun, Counts}
use Rattle.model.specs.Types.{no_state, send_d, send_at}
use Rattle.types.specs.Numbers.{answer_of, ran_packet, ran_site}
use Rattle.model.specs.Network.{kind_then, sizes_ok, joins_then, trimmed_network, network_under, by_edition}
use Rattle.model.specs.Events.{Event, Send, Run, send_fault, runs, sends, ran, sent}
use Rattle.model.specs.Owing.{owed_pairs}

-- "8: a send's site, set or draw number impossible, or draw numbers falling": send m of run R
abbrev pub send_ok : StoredRun → ℕ → Bool
send_ok R m =
    ltb (send_at R m).site R.network.sites
    && targets R.network.sites (send_at R m).set
    && leb (send_at R m).draw R.draws
    && (eqb m 0 || leb (send_at R (m - 1)).draw (send_at R m).draw)

abbrev pub sends_ok : StoredRun → Bool
sends_ok R = all (send_ok R) R.count

-- 6, 7, 8, which reader, player and writer share
unfoldable pub body_refusal : StoredRun → ℕ
body_refusal R = joins_then R.network (cond (sends_ok R) 0 8)

-- 2, 17; "3: S, T or D outside its limits"; "4: seed 0"; "5: .. more than 255 sends"; then 6, 7, 8: the writer's order; 0 for a
-- valid run
unfoldable pub stored_refusal : StoredRun → ℕ
stored_refusal R =
    kind_then R.network
    (cond (sizes_ok R.network)
    (cond (eqb R.seed 0) 4
    (cond (leb R.count sends_most) (body_refusal R) 5))
    3)

-- "Room beyond S sites or N sends belongs to no network or run: it is not looked at, and the reader leaves it zero": a run with
-- that room at zero
abbrev pub no_sends : List StoredSend
no_sends = replicate sends_most send_d

unfoldable pub trimmed : StoredRun → StoredRun
trimmed R =
    record {
      network = trimmed_network R.network;
      seed = R.seed;
      draws = R.draws;
      count = R.count;
      sends = over (send_at R) R.count no_sends;
    }

-- L6: the same run, to be played by edition e
unfoldable pub run_by : ℕ → StoredRun → StoredRun
run_by e R =
    record {
      network = by_edition e R.network;
      seed = R.seed;
      draws = R.draws;
      count = R.count;
      sends = R.sends;
    }

-- L5: the same run, to be stored in version v
unfoldable pub under : ℕ → StoredRun → StoredRun
under v R =
    record {
      network = network_under v R.network;
      seed = R.seed;
      draws = R.draws;
      count = R.count;
      sends = R.sends;
    }

-- "A send marked d is applied before draw d (counted from 0), in stored order": the sends marked d
unfoldable pub marked : ℕ → List StoredSend → List Event
marked d [] = []
marked d (e ∷ es) =
    let later = marked d es in
    cond (eqb e.draw d) (Send e.site e.set ∷ later) later

abbrev pub sends_at : StoredRun → ℕ → List Event
sends_at R d = marked d (take R.count R.sends)

-- "Each draw advances first." Draw d is RUN of what the value after d + 1 draws names
abbrev pub draw_at : StoredRun → ℕ → Event
draw_at R d =
    let v = value_after (d + 1) R.seed in
    Run (drawn_site R.network.edition R.network.sites v) (drawn_code R.network.edition R.network.sites v)

-- an event and the number of the draw that it is, or stands before
pub record Timed : Type 0 where
  pub draw : ℕ
  pub event : Event

abbrev pub at_draw : ℕ → List Event → List Timed
at_draw d es = map (λ e. record { draw = d; event = e }) es

abbrev pub events : List Timed → List Event
events es = map (λ e. e.event) es

-- the events up to draw d, and of the whole run: "d may equal the number of draws"
unfoldable pub script_to : StoredRun → ℕ → List Timed
script_to R zero = []
script_to R (suc d) = script_to R d ++ at_draw d (sends_at R d ++ (draw_at R d ∷ []))

unfoldable pub script : StoredRun → List Timed
script R = script_to R R.draws ++ at_draw R.draws (sends_at R R.draws)

-- "The book is 4 bytes a service: draw 2, packet 1, site 1."
pub record Service : Type 0 where
  pub draw : ℕ
  pub packet : ℕ
  pub site : ℕ

abbrev pub service_bytes : Service → List ℕ
service_bytes e = e.draw / 256 % 256 ∷ e.draw % 256 ∷ e.packet ∷ e.site ∷ []

unfoldable pub book_bytes : List Service → List ℕ
book_bytes [] = []
book_bytes (e ∷ es) = service_bytes e ++ book_bytes es

-- how often packet p at site t stands in a book: by its services; by the first so many entries of its bytes
abbrev pub in_book : ℕ → ℕ → List Service → ℕ
in_book p t l = sum (λ e. cond (eqb p e.packet) (cond (eqb t e.site) 1 0) 0) l

abbrev pub in_entries : ℕ → ℕ → List ℕ → ℕ → ℕ
in_entries p t bytes services =
    upto services (λ m. cond (eqb p (get_or bytes (4 * m + 2) 0)) (cond (eqb t (get_or bytes (4 * m + 3) 0)) 1 0) 0)

-- "14 .. for the book below 4 times the summed sizes of the stored sends' sets"
abbrev pub book_room : StoredRun → ℕ
book_room R = 4 * sum (λ e. size e.set) (take R.count R.sends)

-- how far a run has come: its state, the packets accepted, "their summed set sizes (pairs)", the services
pub record Played : Type 0 where
  pub state : State
  pub accepted : ℕ
  pub pairs : ℕ
  pub book : List Service

abbrev pub unplayed : Played
unplayed = record { state = no_state; accepted = 0; pairs = 0; book = [] }

-- what SEND's answer adds, w being what it leaves; "A refused send is passed over."
abbrev pub send_played : Played → ℕ → AfterSend → Sent → Played
send_played g X w (Accepted q) = record { state = w.state; accepted = g.accepted + 1; pairs = g.pairs + size X; book = g.book }
send_played g X w (SendRefused f) = g

-- what RUN's answer adds, by document 01's numbers: a service of "packet and site" by draw d
abbrev pub entered : ℕ → Ran → List Service → List Service
entered d w l = cond (eqb (answer_of w) 2) (l ++ (record { draw = d; packet = ran_packet w; site = ran_site w } ∷ [])) l

abbrev pub run_played : Played → ℕ → AfterRun → Played
run_played g d w = record { state = w.state; accepted = g.accepted; pairs = g.pairs; book = entered d w.answer g.book }

-- "A run keeps one state and advances it draw by draw": of the refusals only a send's own are left
abbrev pub try_send : Network → State → ℕ → ℕ → AfterSend
try_send n st s X =
    cond (eqb (send_fault n st s X) 0) (sends st s X) (record { answer = SendRefused (send_fault n st s X); state = st })

abbrev pub advance : Network → Played → ℕ → Event → Played
advance n g d (Send s X) = send_played g X (try_send n g.state s X) (try_send n g.state s X).answer
advance n g d (Run s code) = run_played g d (runs n g.state s code)

unfoldable pub played : Network → Played → List Timed → Played
played n g [] = g
played n g (e ∷ es) = played n (advance n g e.draw e.event) es

unfoldable pub played_run : StoredRun → Played
played_run R = played R.network unplayed (script R)

-- "The player's answer also holds the packets accepted, their summed set sizes (pairs), the services and the owed pairs counted
-- over the final state."
abbrev pub counts_of : Played → Counts
counts_of g =
    record { accepted = g.accepted; pairs = g.pairs; serviced = length g.book; owed = owed_pairs g.state.sites }

-- the same by the public single events, with all their refusals
abbrev pub advance_singly : Network → Played → ℕ → Event → Played
advance_singly n g d (Send s X) = send_played g X (sent n g.state s X) (sent n g.state s X).answer
advance_singly n g d (Run s code) = run_played g d (ran n g.state s code)

unfoldable pub played_singly : Network → Played → List Timed → Played
played_singly n g [] = g
played_singly n g (e ∷ es) = played_singly n (advance_singly n g e.draw e.event) es

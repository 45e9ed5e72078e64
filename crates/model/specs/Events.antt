-- Document 01, the single events and their refusals, "single events 3, 6, 7, 13, 9, 10, 12, 11", with
-- L4's 2 and 17 before them; and what a list of events leaves behind.
use Rattle.std.specs.Prelude.{ℕ, ◌+◌, List, [], ◌∷◌, Bool, cond, ◌&&◌, eqb, ltb}
use Rattle.base.specs.Sizes.{packets_most}
use Rattle.base.specs.Bools.{count}
use Rattle.base.specs.Answers.{or_next}
use Rattle.sets.specs.Sets.{targets}
use Rattle.draws.specs.Draws.{codes_in}
use Rattle.model.specs.Types.{State, Network, Sent, Accepted, SendRefused, Ran, RunRefused, AfterSend, AfterRun, site_at}
use Rattle.types.specs.Numbers.{sent_refusal, sent_packet, answer_of, ran_packet, ran_site}
use Rattle.model.specs.Network.{network_refusal}
use Rattle.model.specs.Range.{in_range}
use Rattle.model.specs.Steps.{run, blocking_at, enqueue}

-- the network's own refusals 2, 17, 3, 6, 7, then "13: state not in range", then those of the event
abbrev pub refusal_then : Network → State → ℕ → ℕ
refusal_then n st own = or_next (network_refusal n) (cond (in_range n st) own 13)

-- "9: RUN or SEND: no such site or code"; L10: "9 reads by the edition's codes"
abbrev pub run_fault : Network → ℕ → ℕ → ℕ
run_fault n s code = cond (ltb s n.sites && ltb code (codes_in n.edition)) 0 9

-- "9 .. no such site"; "10: SEND: set empty or outside S"; "12: 255 packets already accepted"; "11: out-queue full": of
-- SEND (s, X), from the numbers that it looks at: S, D, the counter and the entries of the site's out-queue
abbrev pub send_fault_by : ℕ → ℕ → ℕ → ℕ → ℕ → ℕ → ℕ
send_fault_by S D counter entries s X =
    cond (ltb s S)
    (cond (targets S X)
    (cond (ltb counter packets_most)
    (cond (ltb entries D) 0 11)
    12)
    10)
    9

abbrev pub send_fault : Network → State → ℕ → ℕ → ℕ
send_fault n st s X = send_fault_by n.sites n.depth st.counter (site_at st.sites s).outgoing.count s X

unfoldable pub run_refusal : Network → State → ℕ → ℕ → ℕ
run_refusal n st s code = refusal_then n st (run_fault n s code)

unfoldable pub send_refusal : Network → State → ℕ → ℕ → ℕ
send_refusal n st s X = refusal_then n st (send_fault n st s X)

-- nothing refused: RUN's answer, its outputs in the way (L7), and the state; SEND "takes the counter as packet number, adds
-- one", "The answer is the packet number."
abbrev pub runs : Network → State → ℕ → ℕ → AfterRun
runs n st s code =
    let w = run n st.sites s code in
    record {
      answer = w.answer;
      blocking = blocking_at n s (site_at st.sites s) code;
      state = record { sites = w.sites; counter = st.counter };
    }

abbrev pub sends : State → ℕ → ℕ → AfterSend
sends st s X =
    record {
      answer = Accepted st.counter;
      state = record { sites = enqueue st.sites s st.counter X; counter = st.counter + 1 };
    }

-- the single events: a refusal gives its number and hands the state back
unfoldable pub ran : Network → State → ℕ → ℕ → AfterRun
ran n st s code =
    cond (eqb (run_refusal n st s code) 0) (runs n st s code)
    (record { answer = RunRefused (run_refusal n st s code); blocking = 0; state = st })

unfoldable pub sent : Network → State → ℕ → ℕ → AfterSend
sent n st s X =
    cond (eqb (send_refusal n st s X) 0) (sends st s X)
    (record { answer = SendRefused (send_refusal n st s X); state = st })

pub data Event : Type 0 where
  Send : ℕ → ℕ → Event
  Run : ℕ → ℕ → Event

abbrev pub after : Network → State → Event → State
after n st (Send s X) = (sent n st s X).state
after n st (Run s code) = (ran n st s code).state

-- the state after a list of events
unfoldable pub final : Network → State → List Event → State
final n st [] = st
final n st (e ∷ es) = final n (after n st e) es

-- ---- what is read of the answers, by document 01's numbers

-- The set under which number p was accepted: "The answer is the packet number." The empty set for a number that was not
-- answered; later is what the events after this one say.
abbrev pub answered : ℕ → Sent → Bool
answered p w = eqb (sent_refusal w) 0 && eqb (sent_packet w) p

abbrev pub set_by : Network → State → Event → ℕ → ℕ → ℕ
set_by n st (Send s X) p later = cond (answered p (sent n st s X).answer) X later
set_by n st (Run s code) p later = later

unfoldable pub accepted_set : Network → State → List Event → ℕ → ℕ
accepted_set n st [] p = 0
accepted_set n st (e ∷ es) p = set_by n st e p (accepted_set n (after n st e) es p)

-- how often number p was answered
abbrev pub answered_by : Network → State → Event → ℕ → ℕ
answered_by n st (Send s X) p = count (answered p (sent n st s X).answer)
answered_by n st (Run s code) p = 0

unfoldable pub times_answered : Network → State → List Event → ℕ → ℕ
times_answered n st [] p = 0
times_answered n st (e ∷ es) p = answered_by n st e p + times_answered n (after n st e) es p

-- the accepted sets, in the order of their sends
abbrev pub if_accepted : Sent → ℕ → List ℕ → List ℕ
if_accepted w X l = cond (eqb (sent_refusal w) 0) (X ∷ l) l

abbrev pub accepted_by : Network → State → Event → List ℕ → List ℕ
accepted_by n st (Send s X) l = if_accepted (sent n st s X).answer X l
accepted_by n st (Run s code) l = l

unfoldable pub accepted : Network → State → List Event → List ℕ
accepted n st [] = []
accepted n st (e ∷ es) = accepted_by n st e (accepted n (after n st e) es)

-- how often packet p was serviced at site t: by an answer, "2 with packet and site", by an event, by a list of them
abbrev pub hits : ℕ → ℕ → Ran → ℕ
hits p t w = cond (eqb (answer_of w) 2) (cond (eqb p (ran_packet w)) (cond (eqb t (ran_site w)) 1 0) 0) 0

abbrev pub serviced_by : Network → State → Event → ℕ → ℕ → ℕ
serviced_by n st (Send s X) p t = 0
serviced_by n st (Run s code) p t = hits p t (ran n st s code).answer

unfoldable pub serviced : Network → State → List Event → ℕ → ℕ → ℕ
serviced n st [] p t = 0
serviced n st (e ∷ es) p t = serviced_by n st e p t + serviced n (after n st e) es p t

-- The rules of a net-input, typed from document 01: each state with its connected outputs ready and with one that is not, and
-- the terminator table. Each row is what the definitions compute beside what the document says, written as Shown has it.
use Prim.Native.Nat.{ℕ}
use mathlib.Core.Path.{◌≡◌, refl}
use mathlib.Core.Bool.{Bool, true, false, not}
use mathlib.Core.List.{List, [], ◌∷◌, map}
use lib.Dec.{eqb}
use lib.Count.{count_trailing_zeros}
use Rattle.base.specs.Sizes.{no_channel}
use Rattle.base.specs.All.{all}
use Rattle.base.specs.Over.{over}
use Rattle.sets.specs.Sets.{has, minus, size_in, lowest}
use Rattle.model.specs.Types.{Unicast, Passthru, AllRemote, SomeLocal, Handed, got_end, got_abort, t_none, t_abort}
use Rattle.model.specs.Types.{Phase, Seek, Open, Wait, Done, Last, Aborted, FinAbort}
use Rattle.model.specs.Types.{Input, Output, Network, no_marks, no_input}
use Rattle.model.specs.Network.{network_refusal}
use Rattle.model.specs.Router.{first_port, or_else, route}
use Rattle.model.specs.NetInput.{give, seek, in_state, net_input}
use Rattle.model.proofs.Shown.{of_input, of_output, of_turn, inp, out, alone, first, second, split, five}
use Rattle.model.proofs.Made.{net}

-- three sites, T = 3: site 0's ports 1 and 2 lead to sites 1 and 2, their ports 1 lead back
abbrev three : Network
three =
    net 3 3 1 (4 ∷ 8 ∷ no_channel ∷ no_channel ∷ 0 ∷ no_channel ∷ no_channel ∷ no_channel ∷ 1 ∷ [])
    (0 ∷ 4096 ∷ 8192 ∷ 4096 ∷ 0 ∷ 4096 ∷ 4096 ∷ 4096 ∷ 0 ∷ [])

pub three_valid : network_refusal three ≡ 0
unfolding network_refusal all
three_valid = refl

-- Outputs of site 0: 0, 1 and 2 with packet 5, fed by input 1, their heads taken; output 3 is input 3's; output 4 waits to
-- pass on packet 4, which input 1 had before, and its abort. Then five of input 1's own.
abbrev outs : List Output
outs = out 5 7 1 true t_none ∷ out 5 2 1 true t_none ∷ out 5 4 1 true t_none ∷ out 6 4 3 true t_none ∷ out 4 2 1 false t_abort ∷ []

abbrev owns : List Output
owns = out 5 7 1 true t_none ∷ out 5 1 1 true t_none ∷ out 5 2 1 true t_none ∷ out 5 4 1 true t_none ∷ out 5 6 1 true t_none ∷ []

-- the same as they are shown
abbrev kept : List ℕ
kept = 157110 ∷ 152110 ∷ 154110 ∷ 164310 ∷ 142102 ∷ []

abbrev owned : List ℕ
owned = 157110 ∷ 151110 ∷ 152110 ∷ 154110 ∷ 156110 ∷ []

-- which outputs are ready: every one; every one but k; k alone
abbrev every : ℕ → Bool
every j = true

abbrev but : ℕ → ℕ → Bool
but k j = not (eqb j k)

abbrev just : ℕ → ℕ → Bool
just k j = eqb j k

-- a turn of net-input 1 of site 0
abbrev turn_of : Input → List Output → (ℕ → Bool) → List ℕ
turn_of y os isReady = of_turn of_input (map of_output) (net_input three 0 1 y os isReady)

abbrev turn : Phase → List Bool → (ℕ → Bool) → List ℕ
turn ph bs isReady = turn_of (inp ph bs) outs isReady

abbrev wide : Phase → (ℕ → Bool) → List ℕ
wide ph isReady = turn_of (inp ph five) owns isReady

pub moves : List (List ℕ × List ℕ)
moves =
    -- "Open: to wait if a connected output isn't ready."
    (turn (Open Unicast) first every, [])
    ∷ (turn (Open Unicast) first (but 1), 357120 ∷ 2 ∷ kept)
    ∷ (turn (Open Unicast) first (but 0), [])
    ∷ (turn (Open Passthru) second every, [])
    ∷ (turn (Open Passthru) second (but 2), 357220 ∷ 4 ∷ kept)
    ∷ (turn (Open AllRemote) split every, [])
    ∷ (turn (Open AllRemote) split (but 0), 357320 ∷ 7 ∷ kept)
    ∷ (turn (Open AllRemote) split (but 1), 357320 ∷ 7 ∷ kept)
    ∷ (turn (Open SomeLocal) split every, [])
    ∷ (turn (Open SomeLocal) split (but 2), 357420 ∷ 7 ∷ kept)
    ∷ (turn (Open SomeLocal) split (just 0), 357420 ∷ 7 ∷ kept)
    ∷ (turn (Open SomeLocal) split (but 3), [])
    ∷ (turn (Open SomeLocal) split (but 4), [])
    ∷ (turn (Open Handed) alone (but 1), [])
    ∷ (turn (Open Handed) alone (but 0), 357520 ∷ 1 ∷ kept)
    ∷ (wide (Open SomeLocal) (but 3), 357420 ∷ 31 ∷ owned)
    ∷ (wide (Open SomeLocal) (but 4), 357420 ∷ 31 ∷ owned)
    -- "Wait: to open if all are."
    ∷ (turn (Wait Unicast) first every, 257120 ∷ 2 ∷ kept)
    ∷ (turn (Wait Unicast) first (but 1), [])
    ∷ (turn (Wait Unicast) first (but 0), 257120 ∷ 2 ∷ kept)
    ∷ (turn (Wait Passthru) second every, 257220 ∷ 4 ∷ kept)
    ∷ (turn (Wait Passthru) second (but 2), [])
    ∷ (turn (Wait AllRemote) split every, 257320 ∷ 7 ∷ kept)
    ∷ (turn (Wait AllRemote) split (but 0), [])
    ∷ (turn (Wait AllRemote) split (but 1), [])
    ∷ (turn (Wait SomeLocal) split every, 257420 ∷ 7 ∷ kept)
    ∷ (turn (Wait SomeLocal) split (but 2), [])
    ∷ (turn (Wait SomeLocal) split (just 1), [])
    ∷ (turn (Wait SomeLocal) split (but 3), 257420 ∷ 7 ∷ kept)
    ∷ (turn (Wait Handed) alone (just 0), 257520 ∷ 1 ∷ kept)
    ∷ (turn (Wait Handed) alone (but 0), [])
    ∷ (wide (Wait SomeLocal) (but 4), [])
    -- "Last: to done if all are ready."
    ∷ (turn (Last Unicast got_end) first every, 457121 ∷ 2 ∷ kept)
    ∷ (turn (Last Unicast got_abort) first (just 1), 457122 ∷ 2 ∷ kept)
    ∷ (turn (Last Unicast got_end) first (but 1), [])
    ∷ (turn (Last Passthru got_end) second every, 457221 ∷ 4 ∷ kept)
    ∷ (turn (Last Passthru got_abort) second (but 2), [])
    ∷ (turn (Last AllRemote got_end) split every, 457321 ∷ 7 ∷ kept)
    ∷ (turn (Last AllRemote got_abort) split every, 457322 ∷ 7 ∷ kept)
    ∷ (turn (Last AllRemote got_end) split (but 0), [])
    ∷ (turn (Last SomeLocal got_end) split (but 4), 457421 ∷ 7 ∷ kept)
    ∷ (turn (Last SomeLocal got_abort) split every, 457422 ∷ 7 ∷ kept)
    ∷ (turn (Last SomeLocal got_end) split (but 2), [])
    ∷ (turn (Last SomeLocal got_abort) split (just 2), [])
    ∷ (turn (Last Handed got_end) alone every, 457521 ∷ 1 ∷ kept)
    ∷ (turn (Last Handed got_abort) alone (but 0), [])
    ∷ (wide (Last AllRemote got_abort) (but 4), [])
    -- "Done: to last if one isn't"
    ∷ (turn (Done Unicast got_end) first (but 1), 557121 ∷ 2 ∷ kept)
    ∷ (turn (Done Passthru got_abort) second (but 2), 557222 ∷ 4 ∷ kept)
    ∷ (turn (Done AllRemote got_end) split (but 0), 557321 ∷ 7 ∷ kept)
    ∷ (turn (Done AllRemote got_abort) split (but 1), 557322 ∷ 7 ∷ kept)
    ∷ (turn (Done SomeLocal got_end) split (but 2), 557421 ∷ 7 ∷ kept)
    ∷ (turn (Done SomeLocal got_abort) split (just 0), 557422 ∷ 7 ∷ kept)
    ∷ (turn (Done Handed got_end) alone (but 0), 557521 ∷ 1 ∷ kept)
    ∷ (wide (Done SomeLocal got_end) (but 3), 557421 ∷ 31 ∷ owned)
    ∷ (wide (Done SomeLocal got_end) (but 4), 557421 ∷ 31 ∷ owned)
    -- abort and free have no rule of their own: "What no rule names stays"; "an empty place, changes nothing"
    ∷ (turn (Aborted AllRemote) alone every, [])
    ∷ (turn (Aborted AllRemote) alone (but 0), [])
    ∷ (turn (Aborted SomeLocal) alone (just 0), [])
    ∷ (turn_of no_input outs every, [])
    ∷ (turn_of no_input outs (but 0), [])
    -- "Seek: ask the router", whatever is ready: here no output serves, and it is "one more try"
    ∷ (turn Seek no_marks every, 157030 ∷ 0 ∷ kept)
    ∷ (turn Seek no_marks (but 1), 157030 ∷ 0 ∷ kept)
    ∷ []

pub moved : map (λ row. row.0) moves ≡ map (λ row. row.1) moves
unfolding moves in_state all over give seek route or_else first_port has minus size_in lowest count_trailing_zeros
moved = refl

pub ends : List (List ℕ × List ℕ)
ends =
    -- "if all are, give every connected output its terminator by the table at one stroke, and go free."
    -- "abort, any: abort, abort"
    (turn (Done Unicast got_abort) split every, 0 ∷ 0 ∷ 157112 ∷ 152112 ∷ 154112 ∷ 164310 ∷ 142102 ∷ [])
    ∷ (turn (Done Passthru got_abort) split every, 0 ∷ 0 ∷ 157112 ∷ 152112 ∷ 154112 ∷ 164310 ∷ 142102 ∷ [])
    ∷ (turn (Done AllRemote got_abort) split every, 0 ∷ 0 ∷ 157112 ∷ 152112 ∷ 154112 ∷ 164310 ∷ 142102 ∷ [])
    ∷ (turn (Done SomeLocal got_abort) split every, 0 ∷ 0 ∷ 157112 ∷ 152112 ∷ 154112 ∷ 164310 ∷ 142102 ∷ [])
    ∷ (turn (Done Handed got_abort) split every, 0 ∷ 0 ∷ 157112 ∷ 152112 ∷ 154112 ∷ 164310 ∷ 142102 ∷ [])
    -- "end, unicast, passthru, handed: end, end"
    ∷ (turn (Done Unicast got_end) split every, 0 ∷ 0 ∷ 157111 ∷ 152111 ∷ 154111 ∷ 164310 ∷ 142102 ∷ [])
    ∷ (turn (Done Passthru got_end) split every, 0 ∷ 0 ∷ 157111 ∷ 152111 ∷ 154111 ∷ 164310 ∷ 142102 ∷ [])
    ∷ (turn (Done Handed got_end) split every, 0 ∷ 0 ∷ 157111 ∷ 152111 ∷ 154111 ∷ 164310 ∷ 142102 ∷ [])
    -- "end, all-remote: end, abort"
    ∷ (turn (Done AllRemote got_end) split every, 0 ∷ 0 ∷ 157112 ∷ 152111 ∷ 154111 ∷ 164310 ∷ 142102 ∷ [])
    ∷ (wide (Done AllRemote got_end) every, 0 ∷ 0 ∷ 157112 ∷ 151111 ∷ 152111 ∷ 154111 ∷ 156111 ∷ [])
    -- "end, some-local: end, keep-local"
    ∷ (turn (Done SomeLocal got_end) split every, 0 ∷ 0 ∷ 157113 ∷ 152111 ∷ 154111 ∷ 164310 ∷ 142102 ∷ [])
    ∷ (wide (Done SomeLocal got_end) every, 0 ∷ 0 ∷ 157113 ∷ 151111 ∷ 152111 ∷ 154111 ∷ 156111 ∷ [])
    -- an output that is not connected is not asked and gets nothing
    ∷ (turn (Done Unicast got_end) first (just 1), 0 ∷ 0 ∷ 157110 ∷ 152111 ∷ 154110 ∷ 164310 ∷ 142102 ∷ [])
    ∷ (turn (Done Unicast got_abort) first (but 0), 0 ∷ 0 ∷ 157110 ∷ 152112 ∷ 154110 ∷ 164310 ∷ 142102 ∷ [])
    ∷ (turn (Done Passthru got_end) second (just 2), 0 ∷ 0 ∷ 157110 ∷ 152110 ∷ 154111 ∷ 164310 ∷ 142102 ∷ [])
    ∷ (turn (Done Handed got_end) alone (just 0), 0 ∷ 0 ∷ 157111 ∷ 152110 ∷ 154110 ∷ 164310 ∷ 142102 ∷ [])
    ∷ (turn (Done SomeLocal got_end) split (but 4), 0 ∷ 0 ∷ 157113 ∷ 152111 ∷ 154111 ∷ 164310 ∷ 142102 ∷ [])
    -- "Fin-abort: if output 0 is ready, give it the received terminator and go free."
    ∷ (turn (FinAbort AllRemote got_end) alone every, 0 ∷ 0 ∷ 157111 ∷ 152110 ∷ 154110 ∷ 164310 ∷ 142102 ∷ [])
    ∷ (turn (FinAbort AllRemote got_abort) alone (just 0), 0 ∷ 0 ∷ 157112 ∷ 152110 ∷ 154110 ∷ 164310 ∷ 142102 ∷ [])
    ∷ (turn (FinAbort SomeLocal got_end) alone (just 0), 0 ∷ 0 ∷ 157111 ∷ 152110 ∷ 154110 ∷ 164310 ∷ 142102 ∷ [])
    ∷ (turn (FinAbort SomeLocal got_abort) alone (but 1), 0 ∷ 0 ∷ 157112 ∷ 152110 ∷ 154110 ∷ 164310 ∷ 142102 ∷ [])
    ∷ (turn (FinAbort AllRemote got_end) alone (but 0), [])
    ∷ (turn (FinAbort AllRemote got_abort) alone (but 0), [])
    ∷ (turn (FinAbort SomeLocal got_end) alone (but 0), [])
    ∷ (turn (FinAbort SomeLocal got_abort) alone (but 0), [])
    ∷ []

pub ended : map (λ row. row.0) ends ≡ map (λ row. row.1) ends
unfolding ends in_state all over give
ended = refl

-- Stored runs by computation: run R of document 01, a late send, and a run worked out by hand, draw by draw.
use Prim.Native.Nat.{ℕ}
use mathlib.Core.Path.{◌≡◌, refl}
use mathlib.Core.List.{[], ◌∷◌}
use lib.Count.{count_trailing_zeros}
use Rattle.base.specs.All.{all, any}
use Rattle.base.specs.Over.{over}
use Rattle.base.specs.Sums.{sum, isum}
use Rattle.sets.specs.Sets.{has, plus, minus, size_in, lowest}
use Rattle.draws.specs.Draws.{drawn, value_after}
use Rattle.model.specs.Types.{Network, Run as StoredRun}
use Rattle.model.specs.Network.{by_edition}
use Rattle.model.specs.Router.{first_port, gather_from, gather, spread, or_else, route}
use Rattle.model.specs.NetInput.{hears, give, occupy, marks_of, seek, in_state}
use Rattle.model.specs.Places.{local_output, deliver, channel_output, out_queue, operate, cut_at}
use Rattle.model.specs.Steps.{net_output, act, run, enqueue}
use Rattle.model.specs.Events.{Send, Run}
use Rattle.model.specs.Owing.{owed_pairs}
use Rattle.model.specs.Runs.{body_refusal, stored_refusal, run_by, marked, script_to, script, book_bytes, played, played_run, counts_of}
use Rattle.model.proofs.Made.{net, run_on}

-- "one site"
abbrev one : ℕ → Network
one D = net 1 3 D [] []

-- ---- run R: "00 18 01 01 03 01 00 00 00 01 00 02 01 FF FF FF FF 00 00 00 00 00 00 01", "accepted 1 pairs 1 serviced 0 owed 1"

pub run_r : StoredRun
run_r = run_on (one 1) 1 2 (record { set = 1; draw = 0; site = 0 } ∷ [])

-- its one send before draw 0, then the two draws, which are P2's codes
pub run_r_script : script run_r
    ≡ record { draw = 0; event = Send 0 1 } ∷ record { draw = 0; event = Run 0 8 } ∷ record { draw = 1; event = Run 0 5 } ∷ []
unfolding run_r script script_to marked value_after drawn
run_r_script = refl

pub run_r_counts : counts_of (played_run run_r) ≡ record { accepted = 1; pairs = 1; serviced = 0; owed = 1 }
unfolding run_r played_run played script script_to marked value_after drawn owed_pairs sum isum all any over has plus minus
    size_in lowest count_trailing_zeros first_port gather_from gather spread or_else route hears give occupy marks_of seek in_state
    local_output deliver channel_output out_queue operate cut_at net_output act run enqueue
run_r_counts = refl

-- "d may equal the number of draws": run R with its send after the last draw
pub late_run : StoredRun
late_run = run_on (one 1) 1 2 (record { set = 1; draw = 2; site = 0 } ∷ [])

pub late_script : script late_run
    ≡ record { draw = 0; event = Run 0 8 } ∷ record { draw = 1; event = Run 0 5 } ∷ record { draw = 2; event = Send 0 1 } ∷ []
unfolding late_run script script_to marked value_after drawn
late_script = refl

-- ---- a run worked out by hand, draw by draw: one site, T = 1, D = 1, 8 draws, four sends of {0} at draws 0, 0, 4 and 8, of
-- which the second and the last find the out-queue full. Its codes are 10, 0, 5, 10, 0, 5, 5, 11: draw 7 services packet 0;
-- packet 1 is still owed.

pub hand_run : StoredRun
hand_run =
    run_on (net 1 1 1 [] []) 539674 8
    (record { set = 1; draw = 0; site = 0 }
    ∷ record { set = 1; draw = 0; site = 0 }
    ∷ record { set = 1; draw = 4; site = 0 }
    ∷ record { set = 1; draw = 8; site = 0 }
    ∷ [])

pub played_runs : (stored_refusal run_r ∷ stored_refusal hand_run ∷ []) ≡ (0 ∷ 0 ∷ [])
unfolding run_r hand_run stored_refusal body_refusal all any
played_runs = refl

pub hand_book : book_bytes (played_run hand_run).book ≡ 0 ∷ 7 ∷ 0 ∷ 0 ∷ []
unfolding hand_run book_bytes played_run played script script_to marked value_after drawn owed_pairs sum isum all any over
    has plus minus size_in lowest count_trailing_zeros first_port gather_from gather spread or_else route hears give occupy
    marks_of seek in_state local_output deliver channel_output out_queue operate cut_at net_output act run enqueue
hand_book = refl

pub hand_counts : counts_of (played_run hand_run) ≡ record { accepted = 2; pairs = 2; serviced = 1; owed = 1 }
unfolding hand_run played_run played script script_to marked value_after drawn owed_pairs sum isum all any over has plus
    minus size_in lowest count_trailing_zeros first_port gather_from gather spread or_else route hears give occupy marks_of seek
    in_state local_output deliver channel_output out_queue operate cut_at net_output act run enqueue
hand_counts = refl

-- L6: no channel, so the same by edition 2
pub hand_held : book_bytes (played_run (run_by 2 hand_run)).book ≡ 0 ∷ 7 ∷ 0 ∷ 0 ∷ []
unfolding hand_run run_by by_edition book_bytes played_run played script script_to marked value_after drawn owed_pairs sum isum
    all any over has plus minus size_in lowest count_trailing_zeros first_port gather_from gather spread or_else route hears give
    occupy marks_of seek in_state local_output deliver channel_output out_queue operate cut_at net_output act run enqueue
hand_held = refl

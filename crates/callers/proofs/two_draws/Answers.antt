-- `two_draws`: two values drawn, the event that each names, its RUN. Assumes nothing.
use Rattle.std.proofs.Common.{◌≡◌, ℕ, Result, Ok, Err, refl}
use Rattle.base.specs.declared.refusal.Refusal.{Refusal}
use Rattle.draws.specs.declared.Event.{Event}
use Rattle.draws.specs.Draws.{DrawnEvent, drawn, event_of, told}
use Rattle.std.specs.Result.{result_unwrap_or}
use Rattle.types.specs.declared.AfterRun.{AfterRun}
use Rattle.types.specs.declared.Network.{Network}
use Rattle.types.specs.declared.State.{State}
use Rattle.model.specs.Events.{ran}
use Rattle.callers.specs.TwoDraws.{two_draws}
use Rattle.callers.proofs.two_draws.Goals as goal

-- the site and the code that an answer gives, zeros for a refusal
abbrev given : DrawnEvent → Event
given e = record { site = e.site; code = e.code }

event_given : (r : Result Event Refusal) → result_unwrap_or r (record { site = 0; code = 0 }) ≡ given (told r)
event_given (Ok e) = refl
event_given (Err e) = refl

-- values v and w, events e and f, RUNs x and y, each from the one before
in_a_row : (n : Network) (st : State) (seed v w : ℕ) (e f : Event) (r q : Result Event Refusal) (x y : AfterRun)
    → v ≡ drawn seed → told r ≡ event_of n.edition n.sites v → e ≡ result_unwrap_or r (record { site = 0; code = 0 })
    → x ≡ ran n st e.site e.code
    → w ≡ drawn v → told q ≡ event_of n.edition n.sites w → f ≡ result_unwrap_or q (record { site = 0; code = 0 })
    → y ≡ ran n x.state f.site f.code
    → y ≡ two_draws n st seed
unfolding two_draws
in_a_row n st seed v w e f r q x y ev er ee ex ew eq ef ey =
    rw (ey, ef, event_given q, eq, ew, ex, ee, event_given r, er, ev) refl

pub returns : goal.returns
returns c =
    in_a_row _ _ _ _ _ _ _ _ _ _ _ c.draw-value.ensures c.event_of.ensures c.unwrap_or-event.ensures c.run-first.ensures
    c.draw-value_2.ensures c.event_of-2.ensures c.unwrap_or-event_2.ensures c.run-second.ensures

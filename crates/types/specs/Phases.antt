-- What a net-input's state and a terminator tell: small case functions that the rules and "in range" share.
use Rattle.std.specs.Prelude.{Bool, true, false}
use Rattle.types.specs.Names.{Connection, Unicast, Passthru, AllRemote, SomeLocal, Handed, Branch, Received, got_end, got_abort}
use Rattle.types.specs.Names.{Terminator, t_none, t_end, t_abort, t_keep, Phase, Free, Seek, Open, Wait, Done, Last, Aborted, FinAbort}

abbrev pub is_free : Phase → Bool
is_free Free = true
is_free Seek = false
is_free (Open c) = false
is_free (Wait c) = false
is_free (Done c r) = false
is_free (Last c r) = false
is_free (Aborted c) = false
is_free (FinAbort c r) = false

abbrev pub seeks : Phase → Bool
seeks Free = false
seeks Seek = true
seeks (Open c) = false
seeks (Wait c) = false
seeks (Done c r) = false
seeks (Last c r) = false
seeks (Aborted c) = false
seeks (FinAbort c r) = false

-- "open or abort": the states in which a net-input can receive a terminator
abbrev pub listening : Phase → Bool
listening Free = false
listening Seek = false
listening (Open c) = true
listening (Wait c) = false
listening (Done c r) = false
listening (Last c r) = false
listening (Aborted c) = true
listening (FinAbort c r) = false

-- all but free and seek: the states with a connection
abbrev pub connected : Phase → Bool
connected Free = false
connected Seek = false
connected (Open c) = true
connected (Wait c) = true
connected (Done c r) = true
connected (Last c r) = true
connected (Aborted c) = true
connected (FinAbort c r) = true

-- "connections 3 and 4"
abbrev pub splits : Connection → Bool
splits Unicast = false
splits Passthru = false
splits AllRemote = true
splits SomeLocal = true
splits Handed = false
splits Branch = false

abbrev pub splitting : Phase → Bool
splitting Free = false
splitting Seek = false
splitting (Open c) = splits c
splitting (Wait c) = splits c
splitting (Done c r) = splits c
splitting (Last c r) = splits c
splitting (Aborted c) = splits c
splitting (FinAbort c r) = splits c

-- L10: "That split is connection 6": into the local target and one way onward
abbrev pub branches : Connection → Bool
branches Unicast = false
branches Passthru = false
branches AllRemote = false
branches SomeLocal = false
branches Handed = false
branches Branch = true

abbrev pub branching : Phase → Bool
branching Free = false
branching Seek = false
branching (Open c) = branches c
branching (Wait c) = branches c
branching (Done c r) = branches c
branching (Last c r) = branches c
branching (Aborted c) = branches c
branching (FinAbort c r) = branches c

-- "abort and fin-abort"
abbrev pub aborting : Phase → Bool
aborting Free = false
aborting Seek = false
aborting (Open c) = false
aborting (Wait c) = false
aborting (Done c r) = false
aborting (Last c r) = false
aborting (Aborted c) = true
aborting (FinAbort c r) = true

abbrev pub is_none : Terminator → Bool
is_none t_none = true
is_none t_end = false
is_none t_abort = false
is_none t_keep = false

abbrev pub is_keep : Terminator → Bool
is_keep t_none = false
is_keep t_end = false
is_keep t_abort = false
is_keep t_keep = true

abbrev pub as_terminator : Received → Terminator
as_terminator got_end = t_end
as_terminator got_abort = t_abort

-- the terminator that a net-input holds
abbrev pub held : Phase → Terminator
held Free = t_none
held Seek = t_none
held (Open c) = t_none
held (Wait c) = t_none
held (Done c r) = as_terminator r
held (Last c r) = as_terminator r
held (Aborted c) = t_none
held (FinAbort c r) = as_terminator r

-- "Delivery to an input: open to done, abort to fin-abort."
abbrev pub receive : Received → Phase → Phase
receive r Free = Free
receive r Seek = Seek
receive r (Open c) = Done c r
receive r (Wait c) = Wait c
receive r (Done c r') = Done c r'
receive r (Last c r') = Last c r'
receive r (Aborted c) = FinAbort c r
receive r (FinAbort c r') = FinAbort c r'

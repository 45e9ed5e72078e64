-- Document 01, "Owing", place by place: what is owed of a packet to a site, and how many pairs a state owes.
use Rattle.std.specs.Prelude.{ℕ, ◌+◌, List, cond, eqb, take}
use Rattle.base.specs.Bools.{count}
use Rattle.base.specs.Sums.{sum, isum}
use Rattle.sets.specs.Sets.{has, size, bit}
use Rattle.model.specs.Types.{Terminator, t_none, t_end, t_abort, t_keep, Input, Output, OutEntry, InEntry, OutQueue, InQueue, Site}
use Rattle.types.specs.Phases.{held}

-- A place at site s with packet q and set X, by its terminator: what it owes of packet p to site t. "whose terminator is end owes its set;
-- with keep-local it owes its own site if in the set. A place with abort or no terminator owes nothing."
abbrev pub owes_as : Terminator → ℕ → ℕ → ℕ → ℕ → ℕ → ℕ
owes_as t_none s p t q X = 0
owes_as t_abort s p t q X = 0
owes_as t_end s p t q X = cond (eqb p q) (bit t X) 0
owes_as t_keep s p t q X = cond (eqb t s) (cond (eqb p q) (bit t X) 0) 0

-- "An out-queue entry owes its set. A net-input, net-output or in-queue entry" by its terminator
module _ (s p t : ℕ) where
  abbrev pub owes_input : Input → ℕ
  owes_input y = owes_as (held y.phase) s p t y.packet y.set

  abbrev pub owes_output : Output → ℕ
  owes_output o = owes_as o.terminator s p t o.packet o.set

  abbrev pub owes_out_entry : OutEntry → ℕ
  owes_out_entry u = owes_as t_end s p t u.packet u.set

  abbrev pub owes_in_entry : InEntry → ℕ
  owes_in_entry a = owes_as a.terminator s p t a.packet a.set

  abbrev pub owes_out_queue : OutQueue → ℕ
  owes_out_queue oq = sum owes_out_entry (take oq.count oq.entries)

  abbrev pub owes_in_queue : InQueue → ℕ
  owes_in_queue iq = sum owes_in_entry (take iq.count iq.entries)

abbrev pub owes_site : ℕ → ℕ → ℕ → Site → ℕ
owes_site p t s x =
    sum (owes_input s p t) x.inputs
    + sum (owes_output s p t) x.outputs
    + owes_out_queue s p t x.outgoing
    + sum (owes_in_queue s p t) x.incoming

-- the places of all sites that owe packet p to site t
unfoldable pub owed : List Site → ℕ → ℕ → ℕ
owed xs p t = isum (owes_site p t) 0 xs

-- How many sites a place owes, whatever the packet: "the owed pairs counted over the final state"
abbrev pub pairs_as : Terminator → ℕ → ℕ → ℕ
pairs_as t_none s X = 0
pairs_as t_abort s X = 0
pairs_as t_end s X = size X
pairs_as t_keep s X = count (has s X)

module _ (s : ℕ) where
  abbrev pub pairs_input : Input → ℕ
  pairs_input y = pairs_as (held y.phase) s y.set

  abbrev pub pairs_output : Output → ℕ
  pairs_output o = pairs_as o.terminator s o.set

  abbrev pub pairs_out_entry : OutEntry → ℕ
  pairs_out_entry u = pairs_as t_end s u.set

  abbrev pub pairs_in_entry : InEntry → ℕ
  pairs_in_entry a = pairs_as a.terminator s a.set

  abbrev pub pairs_in_queue : InQueue → ℕ
  pairs_in_queue iq = sum pairs_in_entry (take iq.count iq.entries)

abbrev pub pairs_site : ℕ → Site → ℕ
pairs_site s x =
    sum (pairs_input s) x.inputs
    + sum (pairs_output s) x.outputs
    + sum (pairs_out_entry s) (take x.outgoing.count x.outgoing.entries)
    + sum (pairs_in_queue s) x.incoming

unfoldable pub owed_pairs : List Site → ℕ
owed_pairs xs = isum pairs_site 0 xs

-- Document 01, "Draws and the stored run": two draws in a row by single RUNs. Assumes nothing.
use Rattle.std.specs.Prelude.{ℕ}
use Rattle.draws.specs.Draws.{drawn, event_of}
use Rattle.types.specs.declared.AfterRun.{AfterRun}
use Rattle.types.specs.declared.Network.{Network}
use Rattle.types.specs.declared.State.{State}
use Rattle.model.specs.Events.{ran}

-- "the event is RUN (m / 13, m mod 13)", L10: "draws then use 15 in place of 13": the RUN that a value names
abbrev pub named_run : Network → State → ℕ → AfterRun
named_run n st value =
    ran n st (event_of n.edition n.sites value).site (event_of n.edition n.sites value).code

-- "Each draw advances first.", and a run "keeps one state and advances it draw by draw": draws 0 and 1 of a seed
unfoldable pub two_draws : Network → State → ℕ → AfterRun
two_draws n st seed = named_run n (named_run n st (drawn seed)).state (drawn (drawn seed))

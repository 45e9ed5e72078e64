-- `apart::leads` meets its contract: the network has the site, and one of its four ports leads there. Assumes nothing.
use mathlib.Core.Path.{refl}
use Rattle.base.specs.All.{any}
use Rattle.checks.proofs.apart.leads.Goals as goal

pub returns : goal.returns
unfolding any
returns c =
    rw (
      c.port_leads-last.ensures,
      c.port_leads-third.ensures,
      c.port_leads-second.ensures,
      c.port_leads-first.ensures,
    ) refl

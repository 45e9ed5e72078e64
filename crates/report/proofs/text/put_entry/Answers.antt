-- `text::put_entry` meets its contract: four bytes of the book, as three numbers. Assumes nothing.
use Rattle.lines.specs.Text.{line_at}
use Rattle.report.proofs.text.put_entry.Goals as goal

pub returns-clause-put : goal.returns-clause-put
unfolding line_at
returns-clause-put c =
    rw (c.wide.ensures.0, c.wide-2.ensures.0, c.wide-packet.ensures.0, c.wide-site.ensures.0) at c.put_service.ensures.put

use Rattle.words.proofs.Taken.{no_entries}
use Rattle.words.proofs.sends.out_entries.Goals as goal

pub returns-else-s-lt-SITES : goal.returns-else-s-lt-SITES
returns-else-s-lt-SITES c = no_entries _ _ c.if-s-lt-SITES.false

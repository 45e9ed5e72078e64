use Rattle.words.specs.Marked.{seen}
use Rattle.words.proofs.marked.load_seen.Goals as goal

pub returns : goal.returns
unfolding seen
returns c =
    rw (
      c.glimpse-6.ensures,
      c.is_split_used.ensures,
      c.glimpse-5.ensures,
      c.is_used-5.ensures,
      c.glimpse-4.ensures,
      c.is_used-4.ensures,
      c.glimpse-3.ensures,
      c.is_used-3.ensures,
      c.glimpse-2.ensures,
      c.is_used-2.ensures,
      c.glimpse.ensures,
      c.is_used.ensures,
    )

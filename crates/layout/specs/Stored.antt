-- What a store leaves: words d in the place of c that stand for the sites xs, the counter as it was, the canonical form kept.
use Rattle.std.specs.Prelude.{◌≡◌, List, true, ℕ, length, get_or, set}
use Rattle.types.specs.declared.OutEntry.{OutEntry}
use Rattle.types.specs.declared.InEntry.{InEntry}
use Rattle.types.specs.declared.Site.{Site}
use Rattle.model.specs.Types.{queue_at, with_out_queue, set_queue}
use Rattle.layout.specs.Layout.{counter_at, word_count, set_index, fields_index}
use Rattle.layout.specs.Words.{sites_of, canonical}

-- both words of place k of site s written: the set X and the packed word w
abbrev pub placed : List ℕ → ℕ → ℕ → ℕ → ℕ → List ℕ
placed c s k X w = set (set c (set_index s k) X) (fields_index s k) w

pub record Stored (c d : List ℕ) (xs : List Site) : Type 0 where
  pub size : length d ≡ word_count
  pub sites : sites_of d ≡ xs
  pub counter : get_or d counter_at 0 ≡ get_or c counter_at 0
  pub kept : canonical c ≡ true → canonical d ≡ true

-- the same with the counter's word k
pub record Counted (c d : List ℕ) (xs : List Site) (k : ℕ) : Type 0 where
  pub size : length d ≡ word_count
  pub sites : sites_of d ≡ xs
  pub counter : get_or d counter_at 0 ≡ k
  pub kept : canonical c ≡ true → canonical d ≡ true

-- a site with an entry of a queue changed, or all of them, or a queue's count; q is an in-queue's number
abbrev pub leaving_set : Site → ℕ → OutEntry → Site
leaving_set x m u = with_out_queue x (record { entries = set x.outgoing.entries m u; count = x.outgoing.count })

abbrev pub leaving_all : Site → List OutEntry → Site
leaving_all x us = with_out_queue x (record { entries = us; count = x.outgoing.count })

abbrev pub leaving_count : Site → ℕ → Site
leaving_count x m = with_out_queue x (record { entries = x.outgoing.entries; count = m })

abbrev pub arrived_set : Site → ℕ → ℕ → InEntry → Site
arrived_set x q m a = set_queue x q (record { entries = set (queue_at x q).entries m a; count = (queue_at x q).count })

abbrev pub arrived_all : Site → ℕ → List InEntry → Site
arrived_all x q es = set_queue x q (record { entries = es; count = (queue_at x q).count })

abbrev pub arrived_count : Site → ℕ → ℕ → Site
arrived_count x q m = set_queue x q (record { entries = (queue_at x q).entries; count = m })

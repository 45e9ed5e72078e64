-- `reader::read_run` meets its contract: its parts are the definition's, by the laws of ReadLaws. Assumes nothing.
use mathlib.Core.Path.{refl}
use Rattle.archive.proofs.ReadLaws.{sends_within, run_read}
use Rattle.archive.proofs.reader.read_run.Goals as goal

pub read_sends-sends-requires : goal.read_sends-sends-requires
read_sends-sends-requires c =
    let fields_place = c.fields_place-p in
    let pre = c.requires in
    let wide = c.wide-count in
    let fields = fields_place.ensures in
    sends_within _ _ fields (pre) _ refl _ wide.ensures.0 wide.ensures.1

pub returns : goal.returns
returns c =
    let network = c.read_network-network.ensures in
    let fields = c.fields_place-p.ensures in
    let seed = c.quad_at-seed.ensures in
    let draws = c.word-draws.ensures in
    let count = c.wide-count.ensures.0 in
    run_read _ _ fields _ _ _ _ _ network seed draws count c.read_sends-sends.ensures

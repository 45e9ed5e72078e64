-- `writer::write` meets its contract, one law of Answers for each way: the sends are tested, then written. Assumes
-- nothing.
use mathlib.Core.Path.{◌≡◌}
use mathlib.Core.Bool.{true}
use Prim.Native.Nat.{◌+◌, ◌*◌, ◌≤◌}
use lib.ListN.{length}
use Rattle.base.specs.Sizes.{sites_most, sends_most}
use Rattle.base.specs.All.{all}
use Rattle.base.specs.Put.{put}
use Rattle.model.specs.Types.{send_at}
use Rattle.format.specs.Format.{sends_place, send_width, sends_bytes}
use Rattle.checks.specs.Sends.{draw_before, send_in}
use Rattle.archive.proofs.writer.write.Given as goal

abbrev pub invariant-loop-k : goal.invariant-loop-k
invariant-loop-k l =
    let tested = all (send_in l.run.network.sites l.run.draws (send_at l.run)) l.k in
    (l.k ≤ l.count) × (l.last ≡ draw_before (send_at l.run) l.k) × (tested ≡ true)

abbrev pub invariant-loop-m : goal.invariant-loop-m
invariant-loop-m l =
    (l.m ≤ l.count)
    × (length l.out ≡ length l.initial.out)
    × (l.out ≡ put l.initial.out (sends_place l.version l.sites) (sends_bytes l.version l.run.sends l.m))
    × (sends_place l.version l.sites + send_width l.version * l.count ≤ length l.initial.out)
    × (l.count ≤ sends_most)
    × (l.sites ≤ sites_most)

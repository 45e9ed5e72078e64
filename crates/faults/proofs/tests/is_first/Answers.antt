-- `tests::is_first` meets its contract: the bytes are those of channel m, by the version. Assumes nothing.
use Prim.Native.Nat.{◌+◌, ◌*◌, ◌≤◌}
use native.Mathlib.Omega.{arith}
use lib.ListN.{length}
use Rattle.faults.proofs.Versions.{channel_first, channel_second}
use Rattle.faults.proofs.Fed.{bytes_first, pairs_first}
use Rattle.faults.proofs.tests.is_first.Goals as goal

pub bounds-b-m : goal.bounds-b-m
bounds-b-m c =
    let placed_1 : 13 + c.args.m + 2 ≤ length c.args.b.now =
    omega (arith, c.requires.1, channel_first c.args.version c.args.m c.if-version-eq1.true) in
    omega (arith, placed_1)

pub byte_is_first-requires : goal.byte_is_first-requires
byte_is_first-requires c =
    let placed_1 : 13 + c.args.m + 2 ≤ length c.args.b.now =
    omega (arith, c.requires.1, channel_first c.args.version c.args.m c.if-version-eq1.true) in
    omega (arith, placed_1)

pub returns-then-version-eq1 : goal.returns-then-version-eq1
returns-then-version-eq1 c =
    let args = c.args in
    bytes_first args.version args.b.now args.m _ c.if-version-eq1.true c.byte_is_first.ensures

pub bounds-b-m-2 : goal.bounds-b-m-2
bounds-b-m-2 c =
    let placed_2 : 14 + 2 * c.args.m + 2 ≤ length c.args.b.now =
    omega (arith, c.requires.1, channel_second c.args.version c.args.m c.if-version-eq1.false) in
    omega (arith, placed_2)

pub bounds-b-m-3 : goal.bounds-b-m-3
bounds-b-m-3 c =
    let placed_2 : 14 + 2 * c.args.m + 2 ≤ length c.args.b.now =
    omega (arith, c.requires.1, channel_second c.args.version c.args.m c.if-version-eq1.false) in
    omega (arith, placed_2)

pub pair_is_first-requires : goal.pair_is_first-requires
pair_is_first-requires c =
    let placed_2 : 14 + 2 * c.args.m + 2 ≤ length c.args.b.now =
    omega (arith, c.requires.1, channel_second c.args.version c.args.m c.if-version-eq1.false) in
    omega (arith, placed_2)

pub returns : goal.returns
returns c =
    let args = c.args in
    pairs_first args.version args.b.now args.m _ c.if-version-eq1.false c.pair_is_first.ensures

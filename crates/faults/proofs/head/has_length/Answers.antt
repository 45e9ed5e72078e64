-- `head::has_length` meets its contract: bytes that end before N are too few for any. Assumes nothing.
use native.Mathlib.Omega.{arith}
use Rattle.faults.proofs.Versions.{edition_small}
use Rattle.faults.proofs.HeadLaws.{size_read, size_short}
use Rattle.faults.proofs.head.has_length.Goals as goal

pub overflow_add-p : goal.overflow_add-p
overflow_add-p c = omega (arith, c.fields_place-p.ensures, edition_small c.args.version)

pub returns-then-b-p : goal.returns-then-b-p
returns-then-b-p c =
    let args = c.args in
    size_short args.b.now args.version _ c.requires.1 c.fields_place-p.ensures c.if-b-p.true

pub returns : goal.returns
returns c = size_read c.args.b.now _ _ c.requires.1 c.fields_place-p.ensures _ c.size_of.ensures

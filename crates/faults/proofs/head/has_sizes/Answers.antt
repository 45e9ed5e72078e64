-- `head::has_sizes` meets its contract: the bytes are S, T and D of the version. Assumes nothing.
use mathlib.Core.Path.{◌≡◌}
use Prim.Native.Nat.{ℕ, ◌≤◌}
use native.Mathlib.Omega.{arith}
use Rattle.format.specs.Format.{sites_place}
use Rattle.faults.proofs.Versions.{edition_small}
use Rattle.faults.proofs.HeadLaws.{sizes_read}
use Rattle.faults.proofs.head.has_sizes.Goals as goal

-- the fields begin at 3 or 4
small : {p : ℕ} (v : ℕ) → p ≡ sites_place v → p ≤ 4
small v place = omega (arith, place, edition_small v)

pub bounds-b-p : goal.bounds-b-p
bounds-b-p c = omega (arith, small c.args.version c.fields_place-p.ensures)

pub overflow_add-p : goal.overflow_add-p
overflow_add-p c = omega (arith, small c.args.version c.fields_place-p.ensures)

pub bounds-b-p-2 : goal.bounds-b-p-2
bounds-b-p-2 c = omega (arith, small c.args.version c.fields_place-p.ensures)

pub overflow_add-p-2 : goal.overflow_add-p-2
overflow_add-p-2 c = omega (arith, small c.args.version c.fields_place-p.ensures)

pub bounds-b-p-3 : goal.bounds-b-p-3
bounds-b-p-3 c = omega (arith, small c.args.version c.fields_place-p.ensures)

pub returns : goal.returns
returns c =
    let args = c.args in
    sizes_read args.b.now args.version _ c.requires.1 c.fields_place-p.ensures _ _ _ c.wide-sites.ensures.0
    c.wide-depth.ensures.0 c.sizes_ok.ensures

-- `search::first_send` meets its contract: every send is tested behind the last one's draw number, up to the first
-- that fails. Assumes nothing.
use mathlib.Core.Path.{◌≡◌, refl, sym, ap, ◌∙◌}
use mathlib.Core.List.{List}
use Prim.Native.Nat.{ℕ, ◌+◌, ◌*◌, ◌≤◌, ◌<◌}
use native.Mathlib.Omega.{arith}
use lib.ListN.{length}
use Rattle.base.specs.All.{all_none, all_more}
use Rattle.format.specs.Format.{word, send_width, sites_place, draws_place, sends_place, count_of}
use Rattle.format.specs.First.{fails_next}
use Rattle.faults.specs.Head.{Read}
use Rattle.faults.proofs.Versions.{edition_small, set_some}
use Rattle.faults.proofs.Held.{sized, send_tested, draw_kept, send_inside}
use Rattle.faults.proofs.search.first_send.Goals as goal

-- send k, at place p, is within the bytes
inside : (b : List ℕ) (v S N k p : ℕ) → Read b v S → N ≡ count_of b → k < N → p ≡ sends_place v S + send_width v * k
    → p + send_width v ≤ length b
inside b v S N k p r count l place = omega (arith, place, send_inside b v S r N k count l)

-- the number of draws D, read seven bytes behind the fields' place p
draws_read : (b : List ℕ) (v p D : ℕ) → p ≡ sites_place v → D ≡ word b (p + 7) → D ≡ word b (draws_place v)
draws_read b v p D place read = read ∙ ap (word b) (omega (arith, place))

pub overflow_add-fields_place : goal.overflow_add-fields_place
overflow_add-fields_place c = omega (arith, c.fields_place.ensures, edition_small c.args.version)

pub word_at-draws-requires : goal.word_at-draws-requires
word_at-draws-requires c = omega (arith, c.fields_place.ensures, (sized _ _ _ c.requires.0).enough)

pub loop-k-init : goal.loop-k-init
loop-k-init c = (omega arith, refl, all_none _)

pub overflow_cast-sites : goal.overflow_cast-sites
overflow_cast-sites c = omega (arith, (sized _ _ _ c.requires.0).few)

pub overflow_cast-k : goal.overflow_cast-k
overflow_cast-k c = omega (arith, c.requires.2)

pub word_at-draw-requires : goal.word_at-draw-requires
word_at-draw-requires c =
    let pre = c.requires in
    omega (arith, inside _ _ _ _ _ _ pre.0 pre.1 c.loop-k-test.true c.send_place-at.ensures, set_some c.args.version)

pub overflow_add-at : goal.overflow_add-at
overflow_add-at c =
    let pre = c.requires in
    omega (arith, inside _ _ _ _ _ _ pre.0 pre.1 c.loop-k-test.true c.send_place-at.ensures)

pub set_at-set-requires : goal.set_at-set-requires
set_at-set-requires c =
    let pre = c.requires in
    omega (arith, inside _ _ _ _ _ _ pre.0 pre.1 c.loop-k-test.true c.send_place-at.ensures)

pub overflow_add-site : goal.overflow_add-site
overflow_add-site c =
    let pre = c.requires in
    omega (arith, inside _ _ _ _ _ _ pre.0 pre.1 c.loop-k-test.true c.send_place-at.ensures)

pub bounds-b-at : goal.bounds-b-at
bounds-b-at c =
    let pre = c.requires in
    omega (arith, inside _ _ _ _ _ _ pre.0 pre.1 c.loop-k-test.true c.send_place-at.ensures)

pub loop-k-preserved : goal.loop-k-preserved
loop-k-preserved c =
    let pre = c.requires in
    let draws = draws_read _ _ _ _ c.fields_place.ensures c.word_at-draws.ensures in
    let tested =
    send_tested _ _ _ pre.0 _ _ _ pre.1 c.send_place-at.ensures c.loop-k-test.true pre.2 _ _ c.word_at-draw.ensures
    c.set_at-set.ensures _ _ _ draws c.loop-k.invariant.1 c.stored_ok.ensures in
    let kept =
    draw_kept _ _ _ pre.0 _ _ _ pre.1 c.send_place-at.ensures c.loop-k-test.true pre.2 _ _ c.word_at-draw.ensures
    c.set_at-set.ensures in
    (omega arith, kept, all_more _ _ c.loop-k.invariant.2 (sym tested ∙ c.if-not-stored_ok.false))

pub returns : goal.returns
returns c = let e : c.loop-k.k ≡ c.args.sends = omega arith in rw e at c.loop-k.invariant.2

pub returns-then-not-stored_ok : goal.returns-then-not-stored_ok
returns-then-not-stored_ok c =
    let pre = c.requires in
    let draws = draws_read _ _ _ _ c.fields_place.ensures c.word_at-draws.ensures in
    let tested =
    send_tested _ _ _ pre.0 _ _ _ pre.1 c.send_place-at.ensures c.loop-k-test.true pre.2 _ _ c.word_at-draw.ensures
    c.set_at-set.ensures _ _ _ draws c.loop-k.invariant.1 c.stored_ok.ensures in
    fails_next _ _ _ c.loop-k-test.true c.loop-k.invariant.2 (sym tested ∙ c.if-not-stored_ok.true)

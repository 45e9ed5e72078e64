-- `print_services` is safe and ends: each turn writes one service at least and never looks behind the book.
-- Assumes nothing.
use Prim.Native.Nat.{ℕ, ◌-◌, ◌*◌, ◌≤◌}
use mathlib.Core.Path.{◌≡◌, ◌∙◌}
use mathlib.Core.List.{List}
use native.Mathlib.Omega.{arith}
use borrow.Author.Rules.{rules}
use lib.ListN.{length, take, drop, length-drop}
use lib.Seq.{length-take-le}
use Rattle.report.proofs.Puts.{lines_counts}
use Rattle.report.proofs.print_services.Goals as goal

-- the part of the book with the services that are still to be written
part_length : (book : List ℕ) (n k : ℕ) → 4 * n ≤ length book → k ≤ n
    → length (take (4 * n - 4 * k) (drop (4 * k) book)) ≡ 4 * (n - k)
part_length book n k h i =
    let rest = drop (4 * k) book in
    let j : 4 * n - 4 * k ≤ length rest = omega (arith, length-drop (4 * k) book) in
    length-take-le (4 * n - 4 * k) rest j ∙ omega arith

-- what is composed of it can be written, and is as many services as fit

pub slice_bounds-text-end : goal.slice_bounds-text-end
slice_bounds-text-end g c =
    let r = c.service_lines-lines in
    (lines_counts _ c.loop-k.text r.new.text r.result r.ensures.0 r.ensures.1).0.0

pub slice_bounds-write_all-end : goal.slice_bounds-write_all-end
slice_bounds-write_all-end g c =
    let r = c.service_lines-lines in
    (lines_counts _ c.loop-k.text r.new.text r.result r.ensures.0 r.ensures.1).0.1

-- a turn writes a service at least, and none behind the last

pub overflow_add-k : goal.overflow_add-k
overflow_add-k g c =
    let r = c.service_lines-lines in
    let f = lines_counts _ c.loop-k.text r.new.text r.result r.ensures.0 r.ensures.1 in
    omega (arith, f.1, part_length c.args.book.now c.min-n.result c.loop-k.k (omega arith) (omega arith))

pub loop-k-smaller : goal.loop-k-smaller
loop-k-smaller g c =
    let r = c.service_lines-lines in
    let f = lines_counts _ c.loop-k.text r.new.text r.result r.ensures.0 r.ensures.1 in
    omega (arith, f.1, part_length c.args.book.now c.min-n.result c.loop-k.k (omega arith) (omega arith))

pub loop-k-preserved : goal.loop-k-preserved
loop-k-preserved g c =
    let r = c.service_lines-lines in
    let f = lines_counts _ c.loop-k.text r.new.text r.result r.ensures.0 r.ensures.1 in
    (search rules, omega (arith, f.1, part_length c.args.book.now c.min-n.result c.loop-k.k (omega arith) (omega arith)))

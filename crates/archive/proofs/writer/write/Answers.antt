-- `writer::write` meets its contract, one law of Answers for each way: the sends are tested, then written. Assumes
-- nothing.
use mathlib.Core.Path.{◌≡◌, refl, sym, ap, ◌∙◌}
use Prim.Native.Nat.{ℕ}
use native.Mathlib.Omega.{arith}
use lib.ListN.{length}
use Rattle.base.specs.All.{all_none, all_more}
use Rattle.model.specs.Types.{send_at}
use Rattle.format.specs.Format.{send_width}
use Rattle.checks.specs.Sends.{send_after}
use Rattle.checks.proofs.SendsLaws.{draw_next}
use Rattle.archive.proofs.Holds.{part_ends}
use Rattle.archive.proofs.Parts.{length_send}
use Rattle.archive.proofs.Put.{sends_none, sends_turn, length_put, put_head, put_parts}
use Rattle.archive.proofs.Answers.{few_sends, front_refused, sends_tested, run_tested, sends_failed, write_no}
use Rattle.archive.proofs.Answers.{write_short, write_yes}
use borrow.Author.Rules.{rules}
use Rattle.base.specs.Refusals.{number, number_nonzero}
use Rattle.format.specs.Refusals.{told_length}
use Rattle.archive.proofs.writer.write.Goals as goal

pub returns-in_err-front_refusal : goal.returns-in_err-front_refusal
returns-in_err-front_refusal c =
    let r = c.args.run in
    let e = c.in_err-front_refusal.field-0.0 in
    let some = number_nonzero e in
    let told : told_length c.from_residual.result ≡ record { refusal = number e; length = 0 } = search rules in
    let no = write_no r c.args.out.now (number e) (front_refused r (number e) c.in_err-front_refusal.ensures some) some in
    (told ∙ no.0, no.1)

pub loop-k-init : goal.loop-k-init
loop-k-init c = (omega arith, refl, all_none _)

pub offset_bounds-run-k : goal.offset_bounds-run-k
offset_bounds-run-k c =
    let args = c.args in
    omega (arith, few_sends args.run (sym c.in_ok-front_refusal.ensures))

pub bounds-run-k : goal.bounds-run-k
bounds-run-k c =
    let args = c.args in
    omega (arith, few_sends args.run (sym c.in_ok-front_refusal.ensures))

pub loop-k-preserved : goal.loop-k-preserved
loop-k-preserved c =
    let r = c.args.run in
    let l = c.loop-k in
    let e =
    c.stored_ok.ensures
    ∙ ap (λ (d : ℕ). send_after r.network.sites r.draws d (send_at r l.k)) l.invariant.1 in
    (omega arith, draw_next (send_at r) l.k, all_more _ _ l.invariant.2 (sym e ∙ c.if-not-stored_ok.false))

pub returns-then-not-stored_ok : goal.returns-then-not-stored_ok
returns-then-not-stored_ok c =
    let l = c.loop-k in
    let r = c.args.run in
    let e =
    c.stored_ok.ensures
    ∙ ap (λ (d : ℕ). send_after r.network.sites r.draws d (send_at r l.k)) l.invariant.1 in
    let failed =
    sends_failed r 0 c.in_ok-front_refusal.ensures refl l.k c.loop-k-test.true (sym e ∙ c.if-not-stored_ok.true) in
    write_no r _ 8 failed (λ q. omega arith)

pub overflow_cast-sites : goal.overflow_cast-sites
overflow_cast-sites c =
    let l = c.loop-k in
    let args = c.args in
    let z = run_tested args.run 0 c.in_ok-front_refusal.ensures refl l.k (omega arith) l.invariant.2 in
    omega (arith, z.fit.few)

pub overflow_cast-count : goal.overflow_cast-count
overflow_cast-count c =
    let args = c.args in
    omega (arith, few_sends args.run (sym c.in_ok-front_refusal.ensures))

pub returns-then-out-size : goal.returns-then-out-size
returns-then-out-size c =
    let l = c.loop-k in
    let args = c.args in
    let if3 = c.if-out-size in
    let type_size = c.size_of-size in
    let r = args.run in
    let ok = sends_tested r 0 c.in_ok-front_refusal.ensures refl l.k (omega arith) l.invariant.2 in
    (write_short r _ ok (omega (arith, if3.true, type_size.ensures)))

pub put_front-requires : goal.put_front-requires
put_front-requires c =
    let l = c.loop-k in
    let args = c.args in
    let if3 = c.if-out-size in
    let type_size = c.size_of-size in
    let z = run_tested args.run 0 c.in_ok-front_refusal.ensures refl l.k (omega arith) l.invariant.2 in
    (z.fit, omega (arith, if3.false, type_size.ensures))

pub loop-m-init : goal.loop-m-init
loop-m-init c =
    let l = c.loop-k in
    let args = c.args in
    let type_size = c.size_of-size in
    let if3 = c.if-out-size in
    let r = args.run in
    let z = run_tested r 0 c.in_ok-front_refusal.ensures refl l.k (omega arith) l.invariant.2 in
    let size = type_size.ensures in (
      omega arith,
      refl,
      sends_none r.network.version r.sends _ _,
      omega (arith, if3.false, size),
      z.fit.count,
      z.fit.few,
    )

pub offset_bounds-run-m : goal.offset_bounds-run-m
offset_bounds-run-m c = omega arith

pub bounds-run-m : goal.bounds-run-m
bounds-run-m c = omega arith

pub overflow_cast-sites-in-loop-m : goal.overflow_cast-sites-in-loop-m
overflow_cast-sites-in-loop-m c = omega arith

pub overflow_cast-m : goal.overflow_cast-m
overflow_cast-m c = omega arith

pub put_send-requires : goal.put_send-requires
put_send-requires c =
    let l = c.loop-m in
    let args = c.args in
    let loop2_test = c.loop-m-test in
    let send_place = c.send_place-place in
    let r = args.run in
    let ends = part_ends (send_width r.network.version) l.m r.count loop2_test.true in
    omega (arith, ends, send_place.ensures, l.invariant.1, l.invariant.3)

pub loop-m-preserved : goal.loop-m-preserved
loop-m-preserved c =
    let l = c.loop-m in
    let put_send = c.put_send in
    let args = c.args in
    let send_place = c.send_place-place in
    let loop2_test = c.loop-m-test in
    let r = args.run in
    let v = r.network.version in
    let place = send_place.ensures in
    let ends = part_ends (send_width v) l.m r.count loop2_test.true in
    let wide = length_send v (send_at r l.m) in (
      omega arith,
      ap length put_send.ensures
          ∙ length_put _ _ _ (omega (arith, ends, place, wide, l.invariant.1, l.invariant.3))
          ∙ l.invariant.1,
      sends_turn v r.sends _ _ _ _ l.m _ l.invariant.2 put_send.ensures place
          (omega (arith, ends, place, l.invariant.3)),
      l.invariant.3,
      l.invariant.4,
      l.invariant.5,
    )

pub returns : goal.returns
returns c =
    let l = c.loop-k in
    let l2 = c.loop-m in
    let args = c.args in
    let if3 = c.if-out-size in
    let type_size = c.size_of-size in
    let put_front = c.put_front in
    let r = args.run in
    let if3 = if3.false in
    let size = type_size.ensures in
    let ok = sends_tested r 0 c.in_ok-front_refusal.ensures refl l.k (omega arith) l.invariant.2 in
    let e : l2.m ≡ r.count = omega arith in
    let sent = rw e at l2.invariant.2 in
    write_yes r _ _ _ ok (omega (arith, if3, size)) size
    (put_parts r _ _ _ _ _ (put_head r _ _ _ _ size refl refl) refl put_front.ensures sent)

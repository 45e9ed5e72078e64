-- `head::fields_refusal` meets its contract, one law of HeadLaws for each way. Assumes nothing.
use Rattle.std.proofs.Common.{true, false, sym, ◌∙◌}
use Rattle.faults.proofs.HeadLaws.{seed_read, fields_seed, fields_size}
use Rattle.faults.proofs.head.fields_refusal.Goals as goal

pub returns-then-quad_at-eq0 : goal.returns-then-quad_at-eq0
returns-then-quad_at-eq0 c =
    let read = seed_read c.args.b.now _ _ c.requires.1 c.fields_place.ensures _ c.quad_at.ensures in
    fields_seed _ (sym c.has_sizes.ensures ∙ c.if-not-has_sizes.false) (sym read ∙ c.if-quad_at-eq0.true)

pub returns-then-not-has_length : goal.returns-then-not-has_length
returns-then-not-has_length c =
    let read = seed_read c.args.b.now _ _ c.requires.1 c.fields_place.ensures _ c.quad_at.ensures in
    fields_size _ 0 false (sym c.has_sizes.ensures ∙ c.if-not-has_sizes.false) (λ e. c.if-quad_at-eq0.false (read ∙ e))
    (sym c.has_length.ensures ∙ c.if-not-has_length.true)

pub returns : goal.returns
returns c =
    let read = seed_read c.args.b.now _ _ c.requires.1 c.fields_place.ensures _ c.quad_at.ensures in
    fields_size _ 0 true (sym c.has_sizes.ensures ∙ c.if-not-has_sizes.false) (λ e. c.if-quad_at-eq0.false (read ∙ e))
    (sym c.has_length.ensures ∙ c.if-not-has_length.false)

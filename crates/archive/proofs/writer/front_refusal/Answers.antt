-- `writer::front_refusal` meets its contract, one law of Answers for each way. Assumes nothing.
use Rattle.std.proofs.Common.{sym, ◌∙◌}
use Rattle.archive.proofs.Answers.{front_early, front_seed, front_count, front_joins}
use Rattle.archive.proofs.writer.front_refusal.Goals as goal

pub returns-then-is_refused_early : goal.returns-then-is_refused_early
returns-then-is_refused_early c =
    let a = c.args in
    front_early a.network a.seed a.count _ c.network_refusal-judged.ensures
    (sym c.is_refused_early.ensures ∙ c.if-is_refused_early.true)

pub returns-then-seed-eq0 : goal.returns-then-seed-eq0
returns-then-seed-eq0 c =
    let a = c.args in
    front_seed a.network a.seed a.count _ c.network_refusal-judged.ensures
    (sym c.is_refused_early.ensures ∙ c.if-is_refused_early.false) c.if-seed-eq0.true

pub returns-then-count-gt-SENDS : goal.returns-then-count-gt-SENDS
returns-then-count-gt-SENDS c =
    let a = c.args in
    front_count a.network a.seed a.count _ c.network_refusal-judged.ensures
    (sym c.is_refused_early.ensures ∙ c.if-is_refused_early.false) c.if-seed-eq0.false c.if-count-gt-SENDS.true

pub returns : goal.returns
returns c =
    let a = c.args in
    front_joins a.network a.seed a.count _ c.network_refusal-judged.ensures
    (sym c.is_refused_early.ensures ∙ c.if-is_refused_early.false) c.if-seed-eq0.false c.if-count-gt-SENDS.false

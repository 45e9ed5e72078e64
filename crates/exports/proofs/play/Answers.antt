-- `play` meets its contract, one law of PlayWays for each way. Assumes nothing.
use Rattle.std.proofs.Common.{◌≡◌, refl, sym, ap, ◌∙◌, Ok, rules}
use Rattle.base.specs.Refusals.{number, number_nonzero, refusal_of}
use Rattle.machine.specs.Play.{refused_by, told_play}
use Rattle.exports.proofs.PlayWays.{few_refused, few_places, play_refused, play_done}
use Rattle.exports.proofs.play.Goals as goal

pub returns-in_err-check : goal.returns-in_err-check
returns-in_err-check c =
    let a = c.args in
    let e = c.in_err-check.field-0.0 in
    let told : refusal_of c.from_residual.result ≡ number e = search rules in
    let no = few_refused a.bytes.now a.book.now a.counts.now (number e) c.in_err-check.ensures (number_nonzero e) in
    (told ∙ no.0, no.1, no.2)

pub returns-then-counts-lt-COUNTS : goal.returns-then-counts-lt-COUNTS
returns-then-counts-lt-COUNTS c =
    let a = c.args in
    few_places a.bytes.now a.book.now a.counts.now 0 c.in_ok-check.ensures refl c.if-counts-lt-COUNTS.true

pub returns-in_err-played : goal.returns-in_err-played
returns-in_err-played c =
    let a = c.args in
    let e = c.in_err-played.field-0.0 in
    let told : refusal_of c.from_residual-in_err-played.result ≡ number e = search rules in
    let p = sym (ap told_play c.in_err-played.was) ∙ c.play.ensures.0 in
    let no = play_refused a.bytes.now a.book.now a.counts.now (refused_by (number e)) _ p c.play.ensures.1 (number_nonzero e) in
    (told ∙ no.0, no.1, no.2)

pub returns : goal.returns
returns c =
    let a = c.args in
    let p = sym (ap told_play c.in_ok-played.was) ∙ c.play.ensures.0 in
    play_done a.bytes.now a.book.now a.counts.now (told_play (Ok c.in_ok-played.played)) _ p c.play.ensures.1 _ refl
    c.if-counts-lt-COUNTS.false c.put_counts.ensures

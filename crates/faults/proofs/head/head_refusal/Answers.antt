-- `head::head_refusal` meets its contract, one law of HeadLaws for each way. Assumes nothing.
use Rattle.std.proofs.Common.{◌≡◌, ◌∙◌, refl, sym, ap, length, rules}
use Rattle.base.specs.Refusals.{number, number_some, refusal_of}
use Rattle.format.specs.Format.{word, version_of}
use Rattle.checks.specs.Network.{kind_in}
use Rattle.faults.proofs.HeadLaws.{head_short, head_field, head_kind, head_fields}
use borrow.Author.Tests.{eqb-false}
use Rattle.faults.proofs.head.head_refusal.Goals as goal

pub returns-then-b-lt13 : goal.returns-then-b-lt13
returns-then-b-lt13 c = head_short _ c.if-b-lt13.true

pub returns-then-wider-b : goal.returns-then-wider-b
returns-then-wider-b c = head_field _ c.if-b-lt13.false (λ e. c.if-wider-b.true (c.wider.ensures.0 ∙ c.word_at.ensures ∙ e))

pub returns-in_err-kind_refusal : goal.returns-in_err-kind_refusal
returns-in_err-kind_refusal c =
    let b = c.args.b.now in
    let field : word b 0 ≡ length b = sym (c.wider.ensures.0 ∙ c.word_at.ensures) ∙ c.if-wider-b.false in
    let kind = c.in_err-kind_refusal.ensures ∙ ap (kind_in (version_of b)) c.edition_of.ensures in
    let e : refusal_of c.from_residual.result ≡ number c.in_err-kind_refusal.field-0.0 = search rules in
    e ∙ head_kind _ c.if-b-lt13.false field _ kind (eqb-false _ 0 (number_some c.in_err-kind_refusal.field-0.0))

pub returns : goal.returns
returns c =
    let b = c.args.b.now in
    let field : word b 0 ≡ length b = sym (c.wider.ensures.0 ∙ c.word_at.ensures) ∙ c.if-wider-b.false in
    let kind = c.in_ok-kind_refusal.ensures ∙ ap (kind_in (version_of b)) c.edition_of.ensures in
    head_fields _ c.if-b-lt13.false field 0 kind _ refl c.fields_refusal.ensures

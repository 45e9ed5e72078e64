use mathlib.Core.Path.{refl}
use borrow.Author.Tests.{lt-ltb, le-ltb}
use Rattle.layout.specs.Words.{repacked}
use Rattle.words.proofs.form.repacked.Goals as goal

pub returns-then-k-lt-OUTPUTS_FROM : goal.returns-then-k-lt-OUTPUTS_FROM
unfolding repacked
returns-then-k-lt-OUTPUTS_FROM c = rw (c.input_word.ensures.0, c.input_from.ensures, lt-ltb _ _ c.if-k-lt-OUTPUTS_FROM.true) refl

pub returns-then-k-lt-LEAVING_FROM : goal.returns-then-k-lt-LEAVING_FROM
unfolding repacked
returns-then-k-lt-LEAVING_FROM c =
    rw (
      c.output_word.ensures.0,
      c.output_from.ensures,
      le-ltb _ _ c.if-k-lt-OUTPUTS_FROM.false,
      lt-ltb _ _
          c.if-k-lt-LEAVING_FROM.true,
    ) refl

pub returns-then-k-lt-ARRIVED_FROM : goal.returns-then-k-lt-ARRIVED_FROM
unfolding repacked
returns-then-k-lt-ARRIVED_FROM c =
    rw (
      c.out_entry_word.ensures.0,
      c.out_entry_from.ensures,
      le-ltb _ _ c.if-k-lt-OUTPUTS_FROM.false,
      le-ltb _ _
          c.if-k-lt-LEAVING_FROM.false,
      lt-ltb _ _ c.if-k-lt-ARRIVED_FROM.true,
    ) refl

pub returns-then-k-lt-COUNTS_FROM : goal.returns-then-k-lt-COUNTS_FROM
unfolding repacked
returns-then-k-lt-COUNTS_FROM c =
    let if3 = c.if-k-lt-ARRIVED_FROM in
    let if2 = c.if-k-lt-LEAVING_FROM in
    let if1 = c.if-k-lt-OUTPUTS_FROM in
    rw (
      c.in_entry_word.ensures.0,
      c.in_entry_from.ensures,
      le-ltb _ _ if1.false,
      le-ltb _ _ if2.false,
      le-ltb _ _ if3.false,
      lt-ltb _ _ c.if-k-lt-COUNTS_FROM.true,
    ) refl

pub returns-else-k-lt-COUNTS_FROM : goal.returns-else-k-lt-COUNTS_FROM
unfolding repacked
returns-else-k-lt-COUNTS_FROM c =
    rw (
      le-ltb _ _ c.if-k-lt-OUTPUTS_FROM.false,
      le-ltb _ _ c.if-k-lt-LEAVING_FROM.false,
      le-ltb _ _ c.if-k-lt-ARRIVED_FROM.false,
      le-ltb _ _
          c.if-k-lt-COUNTS_FROM.false,
    ) refl

-- `adding::add_shown` meets its contract, case by case. Assumes nothing.
use borrow.Author.Tests.{eq-eqb, ne_eqb}
use Rattle.lines.specs.Add.{shown_byte}
use Rattle.report.proofs.adding.add_shown.Goals as goal

pub returns-then-byte-eq10 : goal.returns-then-byte-eq10
unfolding shown_byte
returns-then-byte-eq10 c = (c.add_bytes.ensures.0, rw (eq-eqb _ _ c.if-byte-eq10.true) c.add_bytes.ensures.1)

pub returns-then-byte-eq13 : goal.returns-then-byte-eq13
unfolding shown_byte
returns-then-byte-eq13 c = (
  c.add_bytes-then-byte-eq13.ensures.0,
  rw (ne_eqb _ _ c.if-byte-eq10.false, eq-eqb _ _ c.if-byte-eq13.true) c.add_bytes-then-byte-eq13.ensures.1,
)

pub returns-then-byte-eq9 : goal.returns-then-byte-eq9
unfolding shown_byte
returns-then-byte-eq9 c = (
  c.add_bytes-then-byte-eq9.ensures.0,
  rw (ne_eqb _ _ c.if-byte-eq10.false, ne_eqb _ _ c.if-byte-eq13.false, eq-eqb _ _ c.if-byte-eq9.true)
      c.add_bytes-then-byte-eq9.ensures.1,
)

pub returns-then-byte-eq92 : goal.returns-then-byte-eq92
unfolding shown_byte
returns-then-byte-eq92 c = (
  c.add_bytes-then-byte-eq92.ensures.0,
  rw (
    ne_eqb _ _ c.if-byte-eq10.false,
    ne_eqb _ _ c.if-byte-eq13.false,
    ne_eqb _ _ c.if-byte-eq9.false,
    eq-eqb _ _ c.if-byte-eq92.true,
  )
      c.add_bytes-then-byte-eq92.ensures.1,
)

pub returns-then-byte : goal.returns-then-byte
unfolding shown_byte
returns-then-byte c = (
  c.add_code.ensures.0,
  rw (
    ne_eqb _ _ c.if-byte-eq10.false,
    ne_eqb _ _ c.if-byte-eq13.false,
    ne_eqb _ _ c.if-byte-eq9.false,
    ne_eqb _ _ c.if-byte-eq92.false,
    c.if-byte.true,
  )
      c.add_code.ensures.1,
)

pub returns : goal.returns
unfolding shown_byte
returns c = (
  c.add_bytes-2.ensures.0,
  rw (
    ne_eqb _ _ c.if-byte-eq10.false,
    ne_eqb _ _ c.if-byte-eq13.false,
    ne_eqb _ _ c.if-byte-eq9.false,
    ne_eqb _ _ c.if-byte-eq92.false,
    c.if-byte.false,
  )
      c.add_bytes-2.ensures.1,
)

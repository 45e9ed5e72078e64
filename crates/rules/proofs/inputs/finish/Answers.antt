use mathlib.Core.Path.{refl}
use Rattle.rules.proofs.ByState.{give_row}
use Rattle.rules.proofs.inputs.finish.Goals as goal

pub returns : goal.returns
returns c =
    let a = c.args in
    rw (
      c.free_input.ensures,
      c.give_terminators.ensures,
      c.terminators.ensures,
      give_row a.received a.connection a.input.outputs a.outputs,
    ) refl

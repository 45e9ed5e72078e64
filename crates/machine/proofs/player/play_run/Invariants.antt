use Rattle.machine.proofs.PlayerTurns.{Playing}
use Rattle.machine.proofs.player.play_run.Given as goal

abbrev pub invariant-loop-turn : goal.invariant-loop-turn
invariant-loop-turn l =
    Playing l.run l.initial.book l.total l._turn
    (record {
      state = l.state;
      value = l.clock.value;
      next = l.next;
      draw = l.clock.draw;
      accepted = l.accepted;
      pairs = l.pairs;
      serviced = l.serviced;
      book = l.book;
    })

use Rattle.cd_turn.proofs.Writes.{shows_written}
use Rattle.cd_turn_tests.proofs.Counting.{one_more}
use Rattle.cd_turn_tests.proofs.worker.turn_once.Goals as goal
use Rattle.cd_turn_tests.specs.Counts.{Counts}

pub leave-requires-clause-shows : goal.leave-requires-clause-shows
leave-requires-clause-shows g c = let h = c.in-Ok.ensures in let seat = c.in-Ok.held.pass.now.seat in
    shows_written Counts seat c.state.result.now c.state.ensures.value _ _ c.tick.new.self h.shows (λ k fixed before. one_more _ _ c.state.result.now.count c.tick.new.self.count before c.tick.ensures)

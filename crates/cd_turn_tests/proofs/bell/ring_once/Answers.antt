use Rattle.cd_turn.proofs.Writes.{held_written, shows_written}
use Rattle.cd_turn_tests.proofs.Counting.{one_more}
use Rattle.cd_turn_tests.proofs.bell.ring_once.Goals as goal
use Rattle.cd_turn_tests.specs.Towers.{Rung, rung_by}

pub leave-requires-clause-held : goal.leave-requires-clause-held
leave-requires-clause-held g c = let h = c.in-Ok.ensures in let pass = c.in-Ok.held.pass.now in rw h.turn (held_written rung_by _ pass.seat pass.face c.ring.new.self h.held)

pub leave-requires-clause-shows : goal.leave-requires-clause-shows
leave-requires-clause-shows g c = let h = c.in-Ok.ensures in let seat = c.in-Ok.held.pass.now.seat in
    shows_written Rung seat c.state.result.now c.state.ensures.value _ _ c.ring.new.self h.shows (λ k fixed before. one_more _ _ c.state.result.now.rung c.ring.new.self.rung before c.ring.ensures)

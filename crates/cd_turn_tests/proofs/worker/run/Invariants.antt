use Rattle.cd_turn.specs.Turns.{IsPassOf, actor_of, out_of, parent_of}
use Rattle.cd_turn_tests.proofs.worker.run.Given as goal
use Rattle.cd_turn_tests.specs.Ticks.{tick_by}
use Rattle.std.proofs.Common.{◌≡◌}

abbrev pub invariant-loop : goal.invariant-loop
invariant-loop g l = IsPassOf tick_by l.fn.turn l.pass × (actor_of l.pass ≡ actor_of l.fn.pass) × (parent_of l.pass ≡ parent_of l.fn.pass) × (out_of l.pass ≡ out_of l.fn.pass)

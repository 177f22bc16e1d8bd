use Rattle.cd_serve.proofs.Rolling.{rolled_more}
use Rattle.cd_serve.proofs.daemon.Daemon.roll.Goals as goal
use Rattle.std.proofs.Common.{◌∙◌}

pub loop-preserved : goal.loop-preserved
loop-preserved g c = record {
  rolled = rolled_more _ _ _ _ _ _ c.in_ok-word.ensures.ok.0 c.loop.invariant.rolled c.in_ok-word.ensures.ok.1 c.in_ok-word.ensures.ok.2 c.in_ok-word.ensures.ok.3;
  core = c.word.ensures.core ∙ c.loop.invariant.core;
}

use Rattle.cd_turn.proofs.Children.{above_last}
use Rattle.cd_turn_tests.proofs.kin.split_two.Goals as goal
use Rattle.std.proofs.Common.{inl, refl}

pub returns-clause-above : goal.returns-clause-above
returns-clause-above g c = c.in-Ok.ensures.new _ (inl refl)

pub returns-clause-apart : goal.returns-clause-apart
returns-clause-apart g c = above_last _ _ _ c.in-Ok.ensures.split _ c.in-Ok-split.ensures.new

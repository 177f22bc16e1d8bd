-- A daemon that stopped and has no list left.
use Rattle.cd_history.specs.History.{History, handles, is_stopped, kept}
use Rattle.std.specs.Prelude.{length, true, ◌≡◌}

pub record IsSettled (P : History) : Type 0 where
  pub stopped : is_stopped P ≡ true
  pub handled : handles P ≡ length (kept P)

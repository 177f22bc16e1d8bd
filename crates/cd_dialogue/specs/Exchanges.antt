-- What was heard and said while no call on a link failed, and none was quiet.
use Rattle.cd_io.specs.Link.{LinkTells, Spoke}
use Rattle.std.specs.Prelude.{List, ℕ, ◌≡◌}

-- in some calls, none of which failed or was quiet, these bytes were heard and this text was said
pub record Exchanged (heard text : List ℕ) (before after : LinkTells) : Type 0 where
  pub spoke : Spoke heard text before after
  pub faults : after.faults ≡ before.faults
  pub quiets : after.quiets ≡ before.quiets

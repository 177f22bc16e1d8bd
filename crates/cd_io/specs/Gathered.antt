-- What a link tells that keeps what is said, and what saying all of that does.
use Rattle.cd_io.specs.Causes.{Counts}
use Rattle.cd_io.specs.Link.{LinkTells}
use Rattle.cd_io.specs.Told.{Grows}
use Rattle.std.specs.Option.{option_map}
use Rattle.std.specs.Prelude.{Bool, List, [], false, ℕ, ◌++◌, ◌≡◌}

-- what the inner link tells, with what is kept behind what was said
abbrev pub gathered : List ℕ → LinkTells → LinkTells
gathered kept link = record {
  given = link.given;
  left = link.left;
  said = option_map (λ said. said ++ kept) link.said;
  faults = link.faults;
  quiets = link.quiets;
}

-- to say what is kept, whether that failed or not, changes nothing that a gathering link tells but its count of faults
pub record Flushes (failed : Bool) (before after : LinkTells) : Type 0 where
  pub given : after.given ≡ before.given
  pub left : after.left ≡ before.left
  pub said : Grows [] before.said after.said
  pub quiets : after.quiets ≡ before.quiets
  pub faults : Counts failed before.faults after.faults

-- The inner link said all that the gathering link had told as said, up to an end of it that is unsaid: none, where that
-- didn't fail.
pub record Finishes (failed : Bool) (before after : LinkTells) : Type 0 where
  pub unsaid : List ℕ
  pub all : failed ≡ false → unsaid ≡ []
  pub flushes : Flushes failed before (gathered unsaid after)

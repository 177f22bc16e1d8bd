-- What a link tells, and what calls on it do to that.
use Rattle.cd_io.specs.Causes.{Counts, Rose}
use Rattle.cd_io.specs.Told.{Grows, Loses}
use Rattle.cd_io.specs.declared.traits.Failed.{Failed}
use Rattle.cd_io.specs.declared.traits.Heard.TheVariants.{End, Got, Quiet}
use Rattle.cd_io.specs.declared.traits.Heard.{Heard}
use Rattle.std.specs.Prelude.{Bool, Err, IfSome, List, None, Ok, Option, Result, [], false, is_err, length, take, true, ℕ, ◌++◌, ◌<◌, ◌≡◌, ◌≤◌}

-- What a link tells: the bytes that it gave, those that it has left and those that were said, where it tells them; how
-- many calls failed, and how many times nothing came within its limit of waiting.
pub record LinkTells : Type 0 where
  pub given : Option (List ℕ)
  pub left : Option (List ℕ)
  pub said : Option (List ℕ)
  pub faults : ℕ
  pub quiets : ℕ

-- what a link tells that tells no bytes
abbrev pub counts_alone : ℕ → ℕ → LinkTells
counts_alone faults quiets = record { given = None; left = None; said = None; faults = faults; quiets = quiets }

-- in some calls these bytes were heard and this text was said
pub record Spoke (heard text : List ℕ) (before after : LinkTells) : Type 0 where
  pub given : Grows heard before.given after.given
  pub left : Loses heard before.left after.left
  pub said : Grows text before.said after.said
  pub faults : before.faults ≤ after.faults
  pub quiets : before.quiets ≤ after.quiets

-- nothing is left, where the link tells it
abbrev pub HasEnded : LinkTells → Type 0
HasEnded link = IfSome link.left (λ bytes. bytes ≡ [])

-- how many bytes were heard: none at the end, in the quiet and at a fault
abbrev pub heard_count : Result Heard Failed → ℕ
heard_count (Ok (Got n)) = n
heard_count (Ok End) = 0
heard_count (Ok Quiet) = 0
heard_count (Err fault) = 0

abbrev pub is_quiet : Result Heard Failed → Bool
is_quiet (Ok (Got n)) = false
is_quiet (Ok End) = false
is_quiet (Ok Quiet) = true
is_quiet (Err fault) = false

-- how many bytes were said: none at a fault
abbrev pub said_count : Result ℕ Failed → ℕ
said_count (Ok n) = n
said_count (Err fault) = 0

-- what a call of `hear` does that had this answer, and left these bytes in the buffer
pub record Hears (answer : Result Heard Failed) (buffer : List ℕ) (before after : LinkTells) : Type 0 where
  pub spoke : Spoke (take (heard_count answer) buffer) [] before after
  pub ended : answer ≡ Ok End → HasEnded before
  pub quiets : Counts (is_quiet answer) before.quiets after.quiets
  pub faults : Counts (is_err answer) before.faults after.faults

-- what a call of `say` does that had this answer to a text
pub record Says (answer : Result ℕ Failed) (text : List ℕ) (before after : LinkTells) : Type 0 where
  pub spoke : Spoke [] (take (said_count answer) text) before after
  pub given : after.given ≡ before.given
  pub left : after.left ≡ before.left
  pub quiets : after.quiets ≡ before.quiets
  pub faults : Counts (is_err answer) before.faults after.faults

-- what calls of `say` do together of which one may have failed, and which said so many of the first bytes of a text
pub record SaysWhole (count : ℕ) (failed : Bool) (text : List ℕ) (before after : LinkTells) : Type 0 where
  pub spoke : Spoke [] (take count text) before after
  pub given : after.given ≡ before.given
  pub left : after.left ≡ before.left
  pub quiets : after.quiets ≡ before.quiets
  pub faults : Counts failed before.faults after.faults

-- the beginning of a text was said before the link failed, and not all of it
pub record SaidInPart (text : List ℕ) (before after : LinkTells) : Type 0 where
  pub written : List ℕ
  pub unwritten : List ℕ
  pub parts : text ≡ written ++ unwritten
  pub some : 0 < length unwritten
  pub spoke : Spoke [] written before after
  pub rose : Rose before.faults after.faults

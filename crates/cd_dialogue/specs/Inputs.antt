-- What the service of a whole input promises, by what holds of the lines that were served and of their replies.
use Rattle.cd_dialogue.specs.Exchanges.{Exchanged}
use Rattle.cd_io.specs.Causes.{Rose}
use Rattle.cd_io.specs.Link.{HasEnded, LinkTells, Spoke}
use Rattle.cd_sock.specs.Lines.{BeginsWith, Cut, cut, cut_lines, whole_lines}
use Rattle.std.specs.Option.{option_to_list}
use Rattle.std.specs.Prelude.{List, Option, [], length, map, take, ℕ, ◌++◌, ◌<◌, ◌∷◌, ◌≡◌, ◌≤◌, ◌⊎◌}

-- the lines that end with a newline in what is taken of an input: no more than so many bytes
abbrev pub lines_within : ℕ → List ℕ → List Cut
lines_within limit heard = map cut (whole_lines (take limit heard))

-- no call was quiet
abbrev pub WasNeverQuiet : LinkTells → LinkTells → Type 0
WasNeverQuiet before after = after.quiets ≡ before.quiets

-- an input is over: nothing is left of it and no call was quiet, or nothing came for a while
abbrev pub IsOver : LinkTells → LinkTells → Type 0
IsOver before after = (HasEnded after × WasNeverQuiet before after) ⊎ Rose before.quiets after.quiets

-- the first of the lines within the limit; the last line of an input, where it has no newline, is among them only where
-- the input is over and no more came than is taken
abbrev pub AreFirstOf : ℕ → LinkTells → LinkTells → List ℕ → List Cut → Type 0
AreFirstOf limit before after heard lines =
    (WasNeverQuiet before after × BeginsWith (lines_within limit heard) lines)
    ⊎ (IsOver before after × (length heard ≤ limit) × BeginsWith (cut_lines heard) lines)

module _ (holds : List Cut → List ℕ → Type 0) (limit : ℕ) (before after : LinkTells) where
  -- all lines were served, and their replies said; nothing is left, or nothing came for a while
  pub record AllServed : Type 0 where
    pub heard : List ℕ
    pub text : List ℕ
    pub short : length heard ≤ limit
    pub served : holds (cut_lines heard) text
    pub spoke : Spoke heard text before after
    pub faults : after.faults ≡ before.faults
    pub over : IsOver before after

  -- more came than is taken; the lines that end in what is taken were served, and their replies said
  pub record TooMuch : Type 0 where
    pub heard : List ℕ
    pub text : List ℕ
    pub long : limit < length heard
    pub served : holds (lines_within limit heard) text
    pub exchanged : Exchanged heard text before after

  -- the server closed the dialogue with the last of the lines that were served, and their replies were said
  pub record ClosedEarly : Type 0 where
    pub heard : List ℕ
    pub lines : List Cut
    pub first : AreFirstOf limit before after heard lines
    pub text : List ℕ
    pub served : holds lines text
    pub spoke : Spoke heard text before after
    pub faults : after.faults ≡ before.faults

  -- a call of `hear` failed; the lines that end in what was heard were served, and their replies said
  pub record HearingFailed : Type 0 where
    pub heard : List ℕ
    pub text : List ℕ
    pub short : length heard ≤ limit
    pub served : holds (lines_within limit heard) text
    pub spoke : Spoke heard text before after
    pub rose : Rose before.faults after.faults
    pub quiets : WasNeverQuiet before after

-- a call of `say` failed; the first lines were served, the replies to all but the last one were said, and of the last
-- one's the beginning, but not all of it
pub record SayingFailed (holds : List Cut → List ℕ → Cut → List ℕ → Type 0) (limit : ℕ)
    (before after : LinkTells) : Type 0 where
  pub heard : List ℕ
  pub earlier : List Cut
  pub last : Cut
  pub first : AreFirstOf limit before after heard (earlier ++ last ∷ [])
  pub replies : List ℕ
  pub said : List ℕ
  pub unsaid : List ℕ
  pub some : 0 < length unsaid
  pub served : holds earlier replies last (said ++ unsaid)
  pub spoke : Spoke heard (replies ++ said) before after
  pub rose : Rose before.faults after.faults

-- the link failed, by what holds of lines and the replies to them, and by what holds of lines and their replies and of
-- one more line and its reply
abbrev pub LinkLost : (List Cut → List ℕ → Type 0) → (List Cut → List ℕ → Cut → List ℕ → Type 0)
    → ℕ → LinkTells → LinkTells → Type 0
LinkLost holds holds_last limit before after =
    HearingFailed holds limit before after ⊎ SayingFailed holds_last limit before after

-- memory was lacking; the first lines were served and their replies said, but for a last line that may have been given
-- up
pub record MemoryLacked (holds : List Cut → Option Cut → List ℕ → Type 0) (limit : ℕ)
    (before after : LinkTells) : Type 0 where
  pub heard : List ℕ
  pub lines : List Cut
  pub given_up : Option Cut
  pub first : AreFirstOf limit before after heard (lines ++ option_to_list given_up)
  pub text : List ℕ
  pub served : holds lines given_up text
  pub spoke : Spoke heard text before after
  pub faults : after.faults ≡ before.faults

-- What was heard, served and said in a dialogue.
use Rattle.cd_dialogue.specs.Exchanges.{Exchanged}
use Rattle.cd_dialogue.specs.Inputs.{AllServed, ClosedEarly, LinkLost, MemoryLacked, TooMuch}
use Rattle.cd_dialogue.specs.Served.{ClosedAt, Served, ServedTo}
use Rattle.cd_dialogue.specs.declared.dialogue.TheConstants.{PIECE}
use Rattle.cd_dialogue.specs.declared.ends.DialogueFault.TheVariants as faults
use Rattle.cd_dialogue.specs.declared.ends.DialogueFault.{DialogueFault}
use Rattle.cd_dialogue.specs.declared.ends.InputEnd.TheVariants as ends
use Rattle.cd_dialogue.specs.declared.ends.InputEnd.{InputEnd}
use Rattle.cd_dialogue.specs.declared.ends.Step.TheVariants as steps
use Rattle.cd_dialogue.specs.declared.ends.Step.{Step}
use Rattle.cd_dialogue.specs.declared.server.Next.TheVariants as next
use Rattle.cd_dialogue.specs.declared.server.Next.{Next}
use Rattle.cd_io.specs.Causes.{Rose}
use Rattle.cd_io.specs.Link.{HasEnded, LinkTells, Spoke}
use Rattle.cd_sock.specs.Lines.{BeginsWith, Cut, HasCut, cut, cut_lines, whole_lines}
use Rattle.std.specs.Option.{option_to_list}
use Rattle.std.specs.Prelude.{Err, List, None, Ok, Option, Result, Some, [], length, map, take, ℕ, ◌++◌, ◌<◌, ◌∷◌, ◌≡◌, ◌≤◌, ◌⊎◌}

-- the lines that end with a newline in the bytes heard earlier and in these
abbrev pub ended_in : List ℕ → List ℕ → List Cut
ended_in bytes earlier = map cut (whole_lines (earlier ++ bytes))

-- after lines that were given before, these are the first of all lines that there are
abbrev pub AreFirst : (List ℕ → List Cut) → List Cut → Cut → Type 0
AreFirst all lines held = (earlier : List ℕ) (given : List Cut)
    → HasCut earlier given held → BeginsWith (all earlier) (given ++ lines)

module _ {S : Type 0} (serves : Next → Cut → List ℕ → S → S → Type 0) where
  -- ---- parts of a dialogue, by what it holds of an unfinished line

  module _ (held held' : Cut) (old new : S) (before after : LinkTells) where
    -- these bytes were heard, and of them these were taken; the lines that end in what was taken were served, and their
    -- replies said
    pub record WentOn (heard taken : List ℕ) : Type 0 where
      pub lines : List Cut
      pub text : List ℕ
      pub cuts : (earlier : List ℕ) (given : List Cut)
          → HasCut earlier given held → HasCut (earlier ++ taken) (given ++ lines) held'
      pub served : Served (serves next.GoOn) lines text old new
      pub exchanged : Exchanged heard text before after

    -- these bytes were heard; the server closed the dialogue with the last of the lines that were served, which are the
    -- first of all these, and their replies were said
    pub record WasClosed (all : List ℕ → List Cut) (heard : List ℕ) : Type 0 where
      pub lines : List Cut
      pub text : List ℕ
      pub first : AreFirst all lines held
      pub closed : ClosedAt serves lines text old new
      pub exchanged : Exchanged heard text before after

    -- one of these, where these bytes were heard and of them these were taken
    abbrev pub Went : Next → List ℕ → List ℕ → Type 0
    Went next.GoOn heard taken = WentOn heard taken
    Went next.Close heard taken = WasClosed (ended_in taken) heard

    -- nothing was heard, and nothing was done
    pub record Waited : Type 0 where
      pub holds : held' ≡ held
      pub server : new ≡ old
      pub spoke : Spoke [] [] before after
      pub faults : after.faults ≡ before.faults

    -- what a step did that takes no more than so many bytes
    abbrev pub Steps : ℕ → Step → Type 0
    Steps room (steps.Heard count) = (heard : List ℕ)
        × (length heard ≡ count) × (0 < count) × (count ≤ room) × (count ≤ PIECE) × WentOn heard heard
    Steps room steps.TooLong =
        (heard : List ℕ) × (room < length heard) × (length heard ≤ PIECE) × WentOn heard (take room heard)
    Steps room steps.Closed =
        (heard : List ℕ) × (length heard ≤ PIECE) × WasClosed (ended_in (take room heard)) heard
    Steps room steps.Ended = Waited × HasEnded after × (after.quiets ≡ before.quiets)
    Steps room steps.Quiet = Waited × Rose before.quiets after.quiets

    -- the input ended: the last line, where it has bytes but no newline, was served, and its reply said
    pub record Finished (goes : Next) : Type 0 where
      pub lines : List Cut
      pub text : List ℕ
      pub last : (heard : List ℕ) (given : List Cut)
          → HasCut heard given held → given ++ lines ≡ cut_lines heard
      pub served : ServedTo serves goes lines text old new
      pub exchanged : Exchanged [] text before after

  -- ---- where a dialogue broke off

  -- a call of `hear` failed: nothing was heard, and nothing was done
  pub record FailedToHear (old new : S) (before after : LinkTells) : Type 0 where
    pub server : new ≡ old
    pub spoke : Spoke [] [] before after
    pub rose : Rose before.faults after.faults
    pub quiets : after.quiets ≡ before.quiets

  -- the earlier lines were served with these replies, and then the last one with this reply, whatever comes after it
  pub record ServedLast (old new : S)
      (earlier : List Cut) (replies : List ℕ) (last : Cut) (reply : List ℕ) : Type 0 where
    pub between : S
    pub goes : Next
    pub served : Served (serves next.GoOn) earlier replies old between
    pub then : serves goes last reply between new

  module _ (gives_up : Cut → S → S → Type 0) where
    -- this line was given up, or there is none
    abbrev pub GivenUp : Option Cut → S → S → Type 0
    GivenUp None old new = new ≡ old
    GivenUp (Some line) old new = gives_up line old new

    -- the lines were served with these replies, and then this one was given up, or none
    pub record GaveUp (old new : S) (lines : List Cut) (given_up : Option Cut) (text : List ℕ) : Type 0 where
      pub last : S
      pub served : Served (serves next.GoOn) lines text old last
      pub then : GivenUp given_up last new

    module _ (old new : S) (before after : LinkTells) (heard : List ℕ) (lines : List Cut) where
      -- a call of `say` failed: the lines were served, the replies to all but the last one were said, and of the last
      -- one's the beginning, but not all of it
      pub record FailedToSay : Type 0 where
        pub earlier : List Cut
        pub last : Cut
        pub lines_are : lines ≡ earlier ++ last ∷ []
        pub replies : List ℕ
        pub said : List ℕ
        pub unsaid : List ℕ
        pub some : 0 < length unsaid
        pub served : ServedLast old new earlier replies last (said ++ unsaid)
        pub spoke : Spoke heard (replies ++ said) before after
        pub rose : Rose before.faults after.faults
        pub quiets : after.quiets ≡ before.quiets

      -- memory was lacking: the lines were served and their replies said, but for a last line that was given up
      pub record LackedMemory : Type 0 where
        pub earlier : List Cut
        pub given_up : Option Cut
        pub lines_are : lines ≡ earlier ++ option_to_list given_up
        pub text : List ℕ
        pub served : GaveUp old new earlier given_up text
        pub exchanged : Exchanged heard text before after

      abbrev pub BrokeOff : DialogueFault → Type 0
      BrokeOff faults.Link = FailedToSay
      BrokeOff faults.Memory = LackedMemory

    -- in a part of a dialogue: these bytes were heard, and the lines that came to the server are the first of all these
    pub record Broke (fault : DialogueFault) (all : List ℕ → List Cut) (held : Cut) (old new : S)
        (before after : LinkTells) (heard : List ℕ) : Type 0 where
      pub lines : List Cut
      pub first : AreFirst all lines held
      pub broke : BrokeOff old new before after heard lines fault

    module _ (held : Cut) (old new : S) (before after : LinkTells) (room : ℕ) where
      -- .. in what a step heard that takes no more than so many bytes
      abbrev pub BrokeHearing : DialogueFault → Type 0
      BrokeHearing fault =
          (heard : List ℕ) × Broke fault (ended_in (take room heard)) held old new before after heard

      abbrev pub StepBroke : DialogueFault → Type 0
      StepBroke faults.Link = FailedToHear old new before after ⊎ BrokeHearing faults.Link
      StepBroke faults.Memory = BrokeHearing faults.Memory

    -- ---- the service of a whole input, of which no more than so many bytes are taken

    module _ (old new : S) (before after : LinkTells) (limit : ℕ) where
      abbrev pub ServedInOrder : List Cut → List ℕ → Type 0
      ServedInOrder lines text = Served (serves next.GoOn) lines text old new

      -- it broke off
      abbrev pub LeftOff : DialogueFault → Type 0
      LeftOff faults.Link = LinkLost ServedInOrder
          (λ earlier replies last reply. ServedLast old new earlier replies last reply) limit before after
      LeftOff faults.Memory = MemoryLacked
          (λ lines given_up text. GaveUp old new lines given_up text) limit before after

      abbrev pub ServesInput : Result InputEnd DialogueFault → Type 0
      ServesInput (Ok ends.Ended) = AllServed ServedInOrder limit before after
      ServesInput (Ok ends.TooLong) = TooMuch ServedInOrder limit before after
      ServesInput (Ok ends.Closed) =
          ClosedEarly (λ lines text. ClosedAt serves lines text old new) limit before after
      ServesInput (Err fault) = LeftOff fault

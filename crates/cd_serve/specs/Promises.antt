-- What a run promises. This is the public theorem: `run` and `run_of` cite what stands here, with what it cites, and
-- nothing else.
use Rattle.cd_command.specs.Command.{command}
use Rattle.cd_command.specs.declared.command.Command.{Command}
use Rattle.cd_command.specs.declared.command.Mode.TheVariants.{Lines, Test}
use Rattle.cd_command.specs.declared.command.Mode.{Mode}
use Rattle.cd_conf.specs.Canonical.{items_text}
use Rattle.cd_conf.specs.declared.item.Item.{Item}
use Rattle.cd_daemon.specs.Legal.{IsLegal}
use Rattle.cd_daemon.specs.declared.Opening.{Opening}
use Rattle.cd_dialogue.specs.Exchanges.{Exchanged}
use Rattle.cd_dialogue.specs.Inputs.{AllServed, HearingFailed, LinkLost, MemoryLacked, TooMuch}
use Rattle.cd_history.specs.History.{History, handles, kept}
use Rattle.cd_history.specs.Order.{IsFrontOf}
use Rattle.cd_history.specs.declared.given.Given.{Given}
use Rattle.cd_io.specs.Link.{LinkTells, SaidInPart}
use Rattle.cd_io.specs.World.{FileTells}
use Rattle.cd_opening.specs.declared.opening.Opened.{Opened}
use Rattle.cd_serve.specs.Started.{FilesComeTo, IsRefusedAt, loaded_of, opening_of}
use Rattle.cd_serve.specs.Tells.{GaveAll, Pairs}
use Rattle.cd_serve.specs.declared.end.End.TheVariants as ends
use Rattle.cd_serve.specs.declared.end.End.{End}
use Rattle.cd_serve.specs.declared.program.TheConstants.{INPUT_LIMIT}
use Rattle.cd_sock.specs.Lines.{Cut}
use Rattle.cd_transcript.specs.LineRuns.{IsLineRun, Loaded, OnShelf, Opens, ServesLines, returned}
use Rattle.cd_transcript.specs.Transcripts.{IsTranscript, line_says, of_lines}
use Rattle.std.specs.Prelude.{List, Ok, Option, Some, [], length, ℕ, ◌++◌, ◌∷◌, ◌≡◌, ◌≤◌, ◌⊎◌}

-- Each plug-in of the shelf came back having got the calls of the registrations of its name in some history of a
-- one-thread daemon with this in force.
pub record IsBack (K : Opening) (shelf back : List OnShelf) : Type 0 where
  pub history : History
  pub legal : IsLegal K history
  pub told : back ≡ returned history shelf

-- What holds of a run with this in force, where `loads` says which plug-ins of a shelf are loaded, in order, each with
-- its block.
module _ (K : Opening) (loads : List OnShelf → List Loaded) where
  -- The history of a run over these lines: it is a one-thread daemon's, and the one that the loaded plug-ins, the
  -- lines and what was given make, which make no other; every list that was kept was handled; and each plug-in of the
  -- shelf came back having got the calls of the registrations of its name.
  pub record IsRun (shelf back : List OnShelf) (lines : List Cut) (given : List Given) (H : History) : Type 0 where
    pub legal : IsLegal K H
    pub made : IsLineRun K (line_says K) (loads shelf) lines given H
    pub only : (other : History) → IsLineRun K (line_says K) (loads shelf) lines given other → other ≡ H
    pub handled : handles H ≡ length (kept H)
    pub told : back ≡ returned H shelf

  -- These lines were served, in one history with this transcript; and the moments and words that were given are the
  -- first of the clock and the dice, in order.
  pub record HasRun (shelf back : List OnShelf) (given : List Given) (begun : Pairs)
      (lines : List Cut) (text : List ℕ) : Type 0 where
    pub history : History
    pub run : IsRun shelf back lines given history
    pub transcript : IsTranscript (line_says K) lines (of_lines history) text
    pub gave : GaveAll begun given

  -- These lines were served before the run broke off, in a history of a one-thread daemon with this transcript; and the
  -- moments and words that were given for them are the first of the clock and the dice, in order.
  pub record HasBegun (shelf : List OnShelf) (begun : Pairs) (lines : List Cut) (text : List ℕ) : Type 0 where
    pub opened : History
    pub history : History
    pub given_first : List Given
    pub given_lines : List Given
    pub opens : Opens (loads shelf) [] given_first opened
    pub serves : ServesLines K (line_says K) lines opened given_lines history
    pub legal : IsLegal K history
    pub transcript : IsTranscript (line_says K) lines (of_lines history) text
    pub gave : GaveAll begun (given_first ++ given_lines)

  -- .. and nothing was written: all of these lines are blank
  abbrev pub HasBegunUnasked : List OnShelf → Pairs → List Cut → List ℕ → Type 0
  HasBegunUnasked shelf begun lines text = HasBegun shelf begun lines text × (text ≡ [])

  -- The earlier lines were served with these replies, and then a last one with this reply: all of them in one history,
  -- as lines of a run are, and the earlier ones as those of a run that broke off behind them, in the front of that
  -- history.
  pub record HasRunToLast (shelf back : List OnShelf) (given : List Given) (begun : Pairs)
      (earlier : List Cut) (replies : List ℕ) (last : Cut) (reply : List ℕ) : Type 0 where
    pub before : HasBegun shelf begun earlier replies
    pub run : HasRun shelf back given begun (earlier ++ last ∷ []) (replies ++ reply)
    pub front : IsFrontOf before.history run.history

  -- Memory was lacking while lines were served, or in the work behind them; where the link failed, only in the calls that
  -- wait since the opening, while no line was heard that isn't blank.
  pub record HasLacked (shelf back : List OnShelf) (begun : Pairs) (before after : LinkTells) : Type 0 where
    pub returned : IsBack K shelf back
    pub served : MemoryLacked (λ lines given_up text. HasBegun shelf begun lines text) INPUT_LIMIT before after
        ⊎ HearingFailed (HasBegunUnasked shelf begun) INPUT_LIMIT before after

  -- What a run over lines promises at each end, by its shelf before and after, by what was given, by what clock and
  -- dice told at first, and by what the link tells before and after. `cd_dialogue` says which lines were served and
  -- what was said.
  module _ (shelf back : List OnShelf) (given : List Given) (begun : Pairs) (before after : LinkTells) where
    abbrev pub PromisesLines : End → Type 0
    PromisesLines ends.Done = AllServed (HasRun shelf back given begun) INPUT_LIMIT before after
    PromisesLines ends.InputTooLong = TooMuch (HasRun shelf back given begun) INPUT_LIMIT before after
    PromisesLines ends.LinkFault =
        LinkLost (HasRun shelf back given begun) (HasRunToLast shelf back given begun) INPUT_LIMIT before after
    PromisesLines ends.Memory = HasLacked shelf back begun before after
    PromisesLines _ = ⊥

-- What a test of the configuration promises at each end: the canonical text of the items was said whole, or only its
-- beginning where the link failed, or nothing.
module _ (items : List Item) (before after : LinkTells) where
  abbrev pub Writes : End → Type 0
  Writes ends.Done = Exchanged [] (items_text items) before after
  Writes ends.LinkFault = SaidInPart (items_text items) before after
  Writes ends.Memory = Exchanged [] [] before after
  Writes _ = ⊥

-- no plug-in was called, and nothing was asked of clock and dice
pub record IsUncalled (shelf back : List OnShelf) (given : List Given) : Type 0 where
  pub shelves : back ≡ shelf
  pub none : given ≡ []

-- nothing was done
pub record IsUntouched (shelf back : List OnShelf) (given : List Given) (before after : LinkTells) : Type 0 where
  pub uncalled : IsUncalled shelf back given
  pub link : after ≡ before

-- What holds of a run with these words, where the world tells these files, by its shelf before and after, by what was
-- given, by what clock and dice told at first, and by what the link tells before and after.
module _ (words : List (List ℕ)) (files : Option (List FileTells))
    (shelf back : List OnShelf) (given : List Given) (begun : Pairs) (before after : LinkTells) where
  -- the run did what a command of this mode is for, with what its files came to
  abbrev pub Does : Mode → Option (List ℕ) → Opened → End → Type 0
  Does Lines file found end =
      PromisesLines (opening_of found) (loaded_of file found.settings) shelf back given begun before after end
  Does Test file found end = IsUncalled shelf back given × Writes found.items before after end

  -- the words are a command, and it was run with what its files came to
  pub record HasRunCommand (end : End) : Type 0 where
    pub of : Command
    pub is : command words ≡ Some of
    pub found : Opened
    pub comes : FilesComeTo of.file files (Ok found)
    pub does : Does of.mode of.file found end

  -- the words are no command, or its files have a first fault; and nothing was done
  pub record WasRefused (end : End) : Type 0 where
    pub why : IsRefusedAt words files end
    pub untouched : IsUntouched shelf back given before after

  -- What a run promises at its end.
  abbrev pub Promises : End → Type 0
  Promises end = HasRunCommand end ⊎ WasRefused end

-- the input has at most as many bytes as are taken, where it tells
pub record IsWithin (before after : LinkTells) : Type 0 where
  pub bytes : List ℕ
  pub rest : List ℕ
  pub had : before.left ≡ Some bytes
  pub has : after.left ≡ Some rest
  pub few : length bytes ≤ INPUT_LIMIT

-- so it is in a mode that hears lines
abbrev pub IsTaken : Mode → LinkTells → LinkTells → Type 0
IsTaken Lines before after = IsWithin before after
IsTaken Test before after = Unit {0}

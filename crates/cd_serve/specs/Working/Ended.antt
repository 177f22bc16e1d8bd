-- How a run over lines ends.
use Rattle.cd_core.specs.Seen.{CoreSeen, seen}
use Rattle.cd_core.specs.Stands.{Stands}
use Rattle.cd_daemon.specs.Answers.{ready}
use Rattle.cd_daemon.specs.declared.Opening.{Opening}
use Rattle.cd_dialogue.specs.Inputs.{AllServed, LinkLost, MemoryLacked, TooMuch}
use Rattle.cd_history.specs.History.{History, ◌▸◌}
use Rattle.cd_history.specs.Leases.{taken_by}
use Rattle.cd_history.specs.Order.{IsFrontOf}
use Rattle.cd_history.specs.declared.entry.Entry.TheVariants as entry
use Rattle.cd_history.specs.declared.entry.Why.TheVariants as why
use Rattle.cd_history.specs.declared.given.Given.{Given}
use Rattle.cd_io.specs.Link.{LinkTells}
use Rattle.cd_registry.specs.declared.plug.PlugTells.{PlugTells}
use Rattle.cd_registry.specs.declared.probe.ProbeTells.{ProbeTells}
use Rattle.cd_serve.specs.Tells.{Pairs}
use Rattle.cd_serve.specs.Working.Progress.{HasServed, HasWorked, Seen}
use Rattle.cd_serve.specs.Working.Standing.{GoesOn, IsLeftAlone}
use Rattle.cd_serve.specs.declared.daemon.Daemon.{Daemon}
use Rattle.cd_serve.specs.declared.end.End.TheVariants as ends
use Rattle.cd_serve.specs.declared.end.End.{End}
use Rattle.cd_serve.specs.declared.outside.Around.{Around}
use Rattle.cd_serve.specs.declared.program.TheConstants.{INPUT_LIMIT}
use Rattle.cd_sock.specs.Lines.{Cut}
use Rattle.cd_transcript.specs.LineRuns.{ServesLines}
use Rattle.cd_transcript.specs.Transcripts.{IsTranscript, line_says, of_lines}
use Rattle.std.specs.Prelude.{List, None, Option, [], false, true, ℕ, ◌++◌, ◌∷◌, ◌≡◌, ◌⊎◌}

-- what is seen of a daemon around a core, by what its clock, its dice and its objects tell
abbrev pub around_seen : {C D P Q : Type 0} → (C → Option (ℕ × ℕ)) → (D → Option (ℕ × ℕ)) → (P → PlugTells)
    → (Q → ProbeTells) → Daemon (Around C D P Q) → Seen
around_seen clock dice plug probe daemon = record {
  pairs = record { clock = clock daemon.outside.clock; dice = dice daemon.outside.dice };
  core = seen plug probe daemon.outside.core;
  given = daemon.given;
}

-- nothing waits any more, all objects are at home, and nobody was registered, closed or handed out since it was opened
pub record IsOver (K : Opening) (opened : History) (core : CoreSeen) (P : History) : Type 0 where
  pub stands : Stands K core P
  pub home : (r : ℕ) → taken_by r P ≡ None
  pub left : IsLeftAlone opened P
  pub none_ready : ready K P ≡ None

module _ (K : Opening) (begun : Pairs) (opened : History) where
  -- these lines were served, by a daemon that was seen so then
  pub record WasServed (lines : List Cut) (text : List ℕ) : Type 0 where
    pub seen : Seen
    pub served : HasServed K begun opened lines text seen

  -- .. and they asked for nothing: where no event of a line came before them, nothing was written
  pub record WasUnasked (lines : List Cut) (text : List ℕ) : Type 0 where
    pub was : WasServed lines text
    pub silent : of_lines opened ≡ [] → text ≡ []

  -- the earlier lines were served, and then the last one
  pub record HasServedLast (seen : Seen) (earlier : List Cut) (replies : List ℕ) (last : Cut) (reply : List ℕ)
      : Type 0 where
    pub before : WasServed earlier replies
    pub all : HasServed K begun opened (earlier ++ last ∷ []) (replies ++ reply) seen
    pub front : IsFrontOf before.served.past all.past

  -- the lines were served, and the daemon stopped and worked until it was idle
  pub record HasStopped (seen : Seen) (lines : List Cut) (text : List ℕ) : Type 0 where
    pub before : WasServed lines text
    pub worked : HasWorked K true begun (before.served.past ▸ entry.Stop 0 why.ControlEnd) before.seen.given seen

  -- .. the earlier ones, and then the last one
  pub record HasStoppedLast (seen : Seen) (earlier : List Cut) (replies : List ℕ) (last : Cut) (reply : List ℕ)
      : Type 0 where
    pub before : WasServed earlier replies
    pub all : HasStopped seen (earlier ++ last ∷ []) (replies ++ reply)
    pub front : IsFrontOf before.served.past all.before.served.past

  module _ (seen : Seen) (before after : LinkTells) where
    -- How far a run came that was served to this end; what is said of the daemon at want of memory is that it runs on.
    abbrev pub HasCome : End → Type 0
    HasCome ends.Done = AllServed (λ lines text. HasServed K begun opened lines text seen) INPUT_LIMIT before after
    HasCome ends.InputTooLong = TooMuch (λ lines text. HasServed K begun opened lines text seen) INPUT_LIMIT before after
    HasCome ends.LinkFault =
        LinkLost (λ lines text. HasServed K begun opened lines text seen) (HasServedLast seen) INPUT_LIMIT before after
    HasCome ends.Memory =
        MemoryLacked (λ lines given_up text. WasServed lines text) INPUT_LIMIT before after × GoesOn K false opened seen.core
    HasCome _ = ⊥

    -- memory was lacking while lines were served, or in the work after them; where the link failed, only if they asked
    -- for nothing
    abbrev pub HasBrokenOff : Type 0
    HasBrokenOff =
        MemoryLacked (λ lines given_up text. WasServed lines text) INPUT_LIMIT before after
        ⊎ LinkLost WasUnasked (λ earlier replies last reply. WasUnasked (earlier ++ last ∷ []) (replies ++ reply))
        INPUT_LIMIT before after

    -- how it ended
    abbrev pub HasEnded : End → Type 0
    HasEnded ends.Done = AllServed (HasStopped seen) INPUT_LIMIT before after
    HasEnded ends.InputTooLong = TooMuch (HasStopped seen) INPUT_LIMIT before after
    HasEnded ends.LinkFault = LinkLost (HasStopped seen) (HasStoppedLast seen) INPUT_LIMIT before after
    HasEnded ends.Memory = HasBrokenOff × ((P : History) × IsOver K opened seen.core P)
    HasEnded _ = ⊥

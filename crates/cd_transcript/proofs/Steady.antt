-- Whether a line of the socket offers lists doesn't depend on the moment, so that a transcript of such lines is one alone.
use Rattle.cd_daemon.specs.declared.Opening.{Opening}
use Rattle.cd_history.specs.History.{Event}
use Rattle.cd_sock.proofs.Laws.{read_same}
use Rattle.cd_sock.specs.Lines.{Cut}
use Rattle.cd_sock.specs.Meaning.{IsSameButTimes}
use Rattle.cd_sock.specs.declared.command.Command.TheVariants as command
use Rattle.cd_transcript.proofs.Transcripts.{IsSteady, one_transcript}
use Rattle.cd_transcript.specs.Transcripts.{IsTranscript, Said, line_says}
use Rattle.cd_value.specs.declared.data.ValueList.{ValueList}
use Rattle.std.proofs.Common.{Err, List, None, Ok, Some, refl, ℕ, ◌≡◌}
use Rattle.std.specs.Prelude.{IsOkAnd}

at_zero : (lists : List ValueList) (read : Said) → IsOkAnd read (IsSameButTimes (command.PutVal lists)) → (others : List ValueList) × (read ≡ Ok (command.PutVal others))
at_zero lists (Ok command.Blank) h = absurd (cc)
at_zero lists (Ok (command.PutVal others)) h = (others, refl)
at_zero lists (Ok (command.GetVal id)) h = absurd (cc)
at_zero lists (Ok command.ListVal) h = absurd (cc)
at_zero lists (Ok (command.Flush request)) h = absurd (cc)
at_zero lists (Err fault) h = absurd h

steady : (K : Opening) → IsSteady (line_says K)
steady K None now lists is = absurd (cc)
steady K (Some line) now lists is = at_zero lists (line_says K (Some line) 0) (read_same K.types now K.globals.interval line (Ok (command.PutVal lists)) is 0 K.globals.interval)

pub one_of_lines : (K : Opening) (lines : List Cut) (events : List Event) (text other : List ℕ)
    → IsTranscript (line_says K) lines events text → IsTranscript (line_says K) lines events other → text ≡ other
one_of_lines K lines events text other first second = one_transcript (line_says K) (steady K) first second

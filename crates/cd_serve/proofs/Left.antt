-- Work and lines register nobody, close nobody and hand nobody out.
use Rattle.cd_daemon.specs.declared.Opening.{Opening}
use Rattle.cd_history.specs.History.{History}
use Rattle.cd_history.specs.declared.given.Given.{Given}
use Rattle.cd_serve.specs.Working.Standing.{IsLeftAlone}
use Rattle.cd_transcript.specs.LineRuns.{ServesLine, ServesLines, Works, blank, called, flushed, got, handled, listed, none, nothing, one_more, put, refused}
use Rattle.cd_transcript.specs.Transcripts.{Said}
use Rattle.std.proofs.Common.{List, refl, ℕ, ◌∙◌}

pub left-refl : (P : History) → IsLeftAlone P P
left-refl P = record { registered = refl; closed = λ r. refl; retired = λ r. refl }

pub left-trans : {P Q R : History} → IsLeftAlone P Q → IsLeftAlone Q R → IsLeftAlone P R
left-trans a b = record {
  registered = b.registered ∙ a.registered;
  closed = λ r. b.closed r ∙ a.closed r;
  retired = λ r. b.retired r ∙ a.retired r;
}

module _ {K : Opening} where
  pub works_left : {Moment : ℕ → List Given → Type 0} {P Q : History} {given : List Given} → Works K Moment P given Q → IsLeftAlone P Q
  works_left {P = P} nothing = left-refl P
  works_left (called w is next) = let left = works_left w in record { registered = left.registered; closed = left.closed; retired = left.retired }
  works_left (handled w is within at) = let left = works_left w in record { registered = left.registered; closed = left.closed; retired = left.retired }

  module _ {Line : Type 0} {says : Line → ℕ → Said} where
    line_left : {l : Line} {P Q : History} {given : List Given} → ServesLine K says l P given Q → IsLeftAlone P Q
    line_left {P = P} (blank is) = left-refl P
    line_left (refused is w) = works_left w.works
    line_left (put at_zero is many w) = let left = works_left w.works in record { registered = left.registered; closed = left.closed; retired = left.retired }
    line_left (got is w) = let left = works_left w.works in record { registered = left.registered; closed = left.closed; retired = left.retired }
    line_left (listed is w) = let left = works_left w.works in record { registered = left.registered; closed = left.closed; retired = left.retired }
    line_left (flushed is number w) = let left = works_left w.works in record { registered = left.registered; closed = left.closed; retired = left.retired }

    pub lines_left : {lines : List Line} {P Q : History} {given : List Given} → ServesLines K says lines P given Q → IsLeftAlone P Q
    lines_left {P = P} none = left-refl P
    lines_left (one_more lines line) = left-trans (lines_left lines) (line_left line)

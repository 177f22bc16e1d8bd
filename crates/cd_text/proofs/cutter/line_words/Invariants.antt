use Rattle.cd_text.proofs.cutter.line_words.Given as goal
use Rattle.cd_text.specs.Cutting.{BeginsWord, left}
use Rattle.cd_text.specs.Quoting.{words_of}
use Rattle.std.proofs.Common.{length, ◌+◌, ◌≡◌}

-- the words so far and those of what is left are the line's
abbrev pub invariant-loop-rest : goal.invariant-loop-rest
invariant-loop-rest l = record {
  same : left l.words l.rest ≡ words_of l.line;
  sum : l.rest.place + length l.rest.text.now ≡ length l.line;
  begins : (length l.rest.text.now ≡ 0 → ⊥) → BeginsWord l.rest.text.now;
}

abbrev pub decreases-loop-rest : goal.decreases-loop-rest
decreases-loop-rest l = length l.rest.text.now

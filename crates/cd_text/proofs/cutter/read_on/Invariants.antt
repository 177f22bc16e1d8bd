use Rattle.cd_text.proofs.cutter.read_on.Given as goal
use Rattle.cd_text.specs.Cutting.{Reads}
use Rattle.std.proofs.Common.{length, ◌≡◌}
use Rattle.std.specs.Str.{encode_utf8_all}

-- the characters so far were read into the word
abbrev pub invariant-loop-c : goal.invariant-loop-c
invariant-loop-c l = record {
  used : l.word.used ≡ length (encode_utf8_all l.yielded);
  reads : Reads l.word l.yielded;
}

use Rattle.cd_text.proofs.cutter.words.Given as goal
use Rattle.std.proofs.Common.{take, ◌≡◌}

-- the words so far are those of the cut ones
abbrev pub invariant-loop-word : goal.invariant-loop-word
invariant-loop-word l = l.words ≡ take l.word-index l.word-items

use Rattle.cd_sock.proofs.flush.read_timeout.Given as goal
use Rattle.cd_sock.specs.Meaning.{last_timeout}
use Rattle.std.proofs.Common.{Ok, take, ◌≡◌}

abbrev pub invariant-loop-word : goal.invariant-loop-word
invariant-loop-word l = last_timeout (take l.word-index l.options) ≡ Ok l.timeout

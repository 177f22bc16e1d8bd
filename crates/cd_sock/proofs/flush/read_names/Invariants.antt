use Rattle.cd_sock.proofs.flush.read_names.Given as goal
use Rattle.cd_sock.specs.Meaning.{names_in}
use Rattle.std.proofs.Common.{Ok, take, ◌≡◌}

abbrev pub invariant-loop-word : goal.invariant-loop-word
invariant-loop-word l = names_in (take l.word-index l.options) ≡ Ok l.names

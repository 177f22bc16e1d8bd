use Rattle.cd_sock.proofs.lists.earlier_lists.Given as goal
use Rattle.cd_sock.specs.Meaning.{lists_of}
use Rattle.std.proofs.Common.{Some, take, ◌≡◌}

abbrev pub invariant-loop-word : goal.invariant-loop-word
invariant-loop-word l = Some l.lists.items ≡ lists_of l.sources l.id l.now l.interval (take l.word-index l.words)

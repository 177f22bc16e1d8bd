use Rattle.cd_sock.proofs.flush.read_plugins.Given as goal
use Rattle.cd_sock.specs.Arguments.{arguments_of}
use Rattle.std.proofs.Common.{codes, take, ◌≡◌}

abbrev pub invariant-loop-word : goal.invariant-loop-word
invariant-loop-word l = l.plugins ≡ arguments_of (codes "plugin") (take l.word-index l.options)

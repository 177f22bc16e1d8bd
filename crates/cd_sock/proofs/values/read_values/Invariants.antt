use Rattle.cd_sock.proofs.Readings.{onto_front, pairwise}
use Rattle.cd_sock.proofs.values.read_values.Given as goal
use Rattle.cd_sock.specs.Values.{texts_in}
use Rattle.std.proofs.Common.{drop, option_copied, ◌≡◌}

-- the values so far and those that are still to be read are all values
abbrev pub invariant-loop-source : goal.invariant-loop-source
invariant-loop-source l =
    onto_front l.values.items (pairwise (drop l.source-index l.sources) (texts_in (option_copied l.left))) ≡ pairwise l.sources (texts_in (option_copied l.fn.rest))

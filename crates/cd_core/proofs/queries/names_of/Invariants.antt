use Rattle.cd_core.proofs.queries.names_of.Given as goal
use Rattle.std.proofs.Common.{map, take, ◌≡◌}

abbrev pub invariant-loop-source : goal.invariant-loop-source
invariant-loop-source l = l.names ≡ map (λ source. source.name) (take l.source-index l.sources)

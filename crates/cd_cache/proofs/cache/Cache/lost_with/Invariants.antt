-- The names so far with those that are left are those of the walk.
use Rattle.cd_cache.proofs.cache.Cache.lost_with.Given as goal
use Rattle.std.proofs.Common.{map, ◌++◌, ◌≡◌}
use Rattle.std.specs.Map.Iter.{deref}

abbrev pub invariant-loop-name : goal.invariant-loop-name
invariant-loop-name l = l.names.items ++ map deref l.name-iterator ≡ map deref l.initial.name-iterator

use Rattle.std.proofs.Common.{◌≡◌, ◌++◌, map, take}
use Rattle.std.specs.List.{filter_map}
use Rattle.cd_chain.specs.Tables.{jump_of}
use Rattle.cd_chain.proofs.jumps.push_jumps.Given as goal

abbrev pub invariant-loop-target : goal.invariant-loop-target
invariant-loop-target l = map (λ name. name.now) l.names.items ≡ map (λ name. name.now) l.initial.names.items ++ filter_map jump_of (take l.target-index l.targets)

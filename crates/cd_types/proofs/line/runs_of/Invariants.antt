use Rattle.cd_types.proofs.line.runs_of.Given as goal
use Rattle.std.proofs.Common.{filter, length, map, take, ◌≡◌}
use Rattle.std.specs.Prelude.{nat_lt}

abbrev pub invariant-loop-part : goal.invariant-loop-part
invariant-loop-part l = map (λ p. p.now) l.runs.items ≡ filter (λ p. nat_lt 0 (length p)) (map (λ p. p.now) (take l.part-index l.part-items))

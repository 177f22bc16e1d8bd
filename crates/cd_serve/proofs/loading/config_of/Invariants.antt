use Rattle.cd_serve.proofs.loading.config_of.Given as goal
use Rattle.std.proofs.Common.{drop, ◌≡◌}
use Rattle.std.specs.List.{find}
use Rattle.std.specs.Str.{bytes_eq}

abbrev pub invariant-loop-block : goal.invariant-loop-block
invariant-loop-block l = find (λ block. bytes_eq l.name block.name) l.blocks ≡ find (λ block. bytes_eq l.name block.name) (drop l.block-index l.blocks)

use Rattle.cd_types.proofs.MergedSets.{builtin_valid, merged_valid}
use Rattle.cd_types.proofs.ReadSets.{read_valid}
use Rattle.cd_types.proofs.laws.known_sets_are_valid.Goals as goal

pub returns : goal.returns
returns c = record { read = read_valid; builtin = builtin_valid; merged = merged_valid }

use Rattle.cd_types.proofs.PrintedSets.{print_reads}
use Rattle.cd_types.proofs.ReadSets.{read_valid}
use Rattle.cd_types.proofs.laws.print_is_read_again.Goals as goal

pub returns : goal.returns
returns c = record {
  valid = print_reads;
  read = λ bytes sets read short. print_reads sets (read_valid bytes sets read) short;
}

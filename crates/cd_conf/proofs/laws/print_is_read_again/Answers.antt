use Rattle.cd_conf.proofs.ReadStatements.{print_is_one, print_reads}
use Rattle.cd_conf.proofs.laws.print_is_read_again.Goals as goal

pub returns : goal.returns
returns c = record { read = print_reads; form = print_is_one }

use Rattle.cd_types.proofs.PrintedNumbers.{bound_reads}
use Rattle.cd_types.proofs.laws.printed_bounds_are_read_again.Goals as goal

pub returns : goal.returns
returns c = bound_reads

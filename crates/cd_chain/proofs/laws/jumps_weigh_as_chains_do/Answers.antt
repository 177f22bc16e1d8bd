use Rattle.cd_chain.proofs.Accepting.{no_loop}
use Rattle.cd_chain.proofs.Running.{weight-is}
use Rattle.cd_chain.proofs.laws.jumps_weigh_as_chains_do.Goals as goal

pub returns : goal.returns
returns c = λ table name chain fine is. weight-is table (no_loop table fine) name chain is

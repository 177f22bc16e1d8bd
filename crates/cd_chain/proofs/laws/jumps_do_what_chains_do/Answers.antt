use Rattle.cd_chain.proofs.OfAccepted.{jumps_are_runs}
use Rattle.cd_chain.proofs.laws.jumps_do_what_chains_do.Goals as goal

pub returns : goal.returns
returns c = λ scene table name chain list fine is. jumps_are_runs scene table fine name chain is list

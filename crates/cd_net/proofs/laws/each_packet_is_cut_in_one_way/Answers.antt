use Rattle.cd_net.proofs.Cutting.{cut_in_one_way}
use Rattle.cd_net.proofs.laws.each_packet_is_cut_in_one_way.Goals as goal

pub returns : goal.returns
returns c = cut_in_one_way

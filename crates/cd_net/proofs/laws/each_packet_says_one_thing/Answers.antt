use Rattle.cd_net.proofs.Decoding.{says_one_thing}
use Rattle.cd_net.proofs.laws.each_packet_says_one_thing.Goals as goal

pub returns : goal.returns
returns c = says_one_thing

use Rattle.cd_conf.proofs.OneTree.{one_tree}
use Rattle.cd_conf.proofs.laws.each_text_has_one_tree.Goals as goal

pub returns : goal.returns
returns c = one_tree

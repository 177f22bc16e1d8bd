use Rattle.cd_opening.proofs.OneAnswer.{one_answer}
use Rattle.cd_opening.proofs.laws.texts_have_one_answer.Goals as goal

pub returns : goal.returns
returns c = one_answer c.each_text_has_one_tree.ensures

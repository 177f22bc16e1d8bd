use Rattle.cd_transcript.proofs.Steady.{one_of_lines}
use Rattle.cd_transcript.proofs.laws.one_transcript.Goals as goal

pub returns : goal.returns
returns c = one_of_lines

use Rattle.cd_net.proofs.Cutting.{parts_once}
use Rattle.cd_net.proofs.cut.parts.Goals as goal
use Rattle.cd_net.specs.Packet.{AreParts}
use Rattle.cd_net.specs.declared.packet.Part.{Part}
use Rattle.std.proofs.Common.{List, [], subst}
use Rattle.std.proofs.lemmas.List.{append-nil}

pub returns-in-Err-clause-cut : goal.returns-in-Err-clause-cut
returns-in-Err-clause-cut c =
    subst (λ (parts : List Part). AreParts c.args.bytes.now 0 parts c.in-Err.end) (append-nil c.loop-part.list)
    (c.loop-part.invariant.goes_on [] c.in-Err.end c.in-Err.ensures.end)

pub returns-in-Err-clause-only : goal.returns-in-Err-clause-only
returns-in-Err-clause-only c = λ others end cut. parts_once c.args.bytes.now 0 c.loop-part.list others c.in-Err.end end (returns-in-Err-clause-cut c) cut

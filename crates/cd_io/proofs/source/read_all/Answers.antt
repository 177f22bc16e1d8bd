use Rattle.cd_io.proofs.Taking.{takes_more}
use Rattle.cd_io.proofs.source.read_all.Goals as goal

pub returns-in_err-extend_from_slice-clause-takes : goal.returns-in_err-extend_from_slice-clause-takes
returns-in_err-extend_from_slice-clause-takes g c =
    (_, takes_more _ _ _ _ _ c.loop-bytes.invariant.takes c.in_ok-count.ensures.reads.takes)

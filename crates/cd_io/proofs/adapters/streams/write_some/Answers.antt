use Rattle.cd_io.proofs.Writing.{keeps_none}
use Rattle.cd_io.proofs.adapters.streams.write_some.Goals as goal

pub loop-init : goal.loop-init
loop-init g c = keeps_none (g.W.Write.contents c.args.writer.now)

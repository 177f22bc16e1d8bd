use Rattle.cd_io.proofs.adapters.streams.write_some.Given as goal
use Rattle.std.specs.Io.KnownBytes.{Keeps}

-- the calls so far failed, and wrote nothing
abbrev pub invariant-loop : goal.invariant-loop
invariant-loop g l = Keeps (g.W.Write.contents l.fn.writer) (g.W.Write.contents l.writer)

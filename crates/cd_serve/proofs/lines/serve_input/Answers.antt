use Rattle.cd_serve.proofs.Promises.{has_come, has_given_up, nothing_heard}
use Rattle.cd_serve.proofs.lines.serve_input.Goals as goal
use Rattle.cd_serve.specs.Working.Ended.{HasCome, around_seen}
use Rattle.cd_serve.specs.declared.end.End.{End}
use Rattle.std.proofs.Common.{subst, sym}

pub returns-then-not-is_whole-clause-ends : goal.returns-then-not-is_whole-clause-ends
returns-then-not-is_whole-clause-ends g c = λ K begun opened h.
    let view = around_seen g.C.Clock.clock_pair g.D.Dice.dice_pair g.P.TellsCalls.plug_tells g.Q.TellsReadings.probe_tells in
    let link = g.L.Link.link_tells c.args.input.now in
    has_given_up K begun opened (view c.args.daemon.now) (view c.drain.new.self) link link (nothing_heard (view c.args.daemon.now) link h) c.drain.ensures.none

pub returns-clause-ends : goal.returns-clause-ends
returns-clause-ends g c = λ K begun opened h.
    let view = around_seen g.C.Clock.clock_pair g.D.Dice.dice_pair g.P.TellsCalls.plug_tells g.Q.TellsReadings.probe_tells in
    let link = g.L.Link.link_tells in
    let come = has_come view _ (λ line old new keeps. keeps) K begun opened _ _ _ _ h _ c.serve_all-served.ensures in
    let H : End → Type 0 = λ e. HasCome K begun opened (view c.serve_all-served.new.server) (link c.args.input.now) (link c.serve_all-served.new.link) e in
    c.end_run.ensures K begun opened (link c.args.input.now) (link c.serve_all-served.new.link) (subst H (sym c.end_of.ensures) come)

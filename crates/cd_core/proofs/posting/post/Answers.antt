use Rattle.cd_core.proofs.Room.{is_posted, not_posted}
use Rattle.cd_core.proofs.posting.post.Goals as goal
use Rattle.cd_registry.specs.Registry.{rows}
use Rattle.std.proofs.Common.{false, sym, true, ◌∙◌, ◌≡◌}

pub returns-in-Ok-clause-rows : goal.returns-in-Ok-clause-rows
returns-in-Ok-clause-rows g c =
    c.in-Ok.ensures.ok ∙ is_posted (rows g.P.TellsCalls.plug_tells g.Q.TellsReadings.probe_tells c.args.registry.now) c.args.reg c.args.call (c.is_live.ensures.0 c.if-is_live.true)

pub returns-else-is_live-clause-rows : goal.returns-else-is_live-clause-rows
returns-else-is_live-clause-rows g c =
    not_posted (rows g.P.TellsCalls.plug_tells g.Q.TellsReadings.probe_tells c.args.registry.now) c.args.reg c.args.call
    (λ live. let both : true ≡ false = sym (c.is_live.ensures.1 live) ∙ c.if-is_live.false in absurd (cc))

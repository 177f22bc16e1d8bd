use Rattle.cd_program.proofs.Behind.{completes_so, ends_so, promises_gathered, promises_link, same_places, tried_so, unheard_so}
use Rattle.cd_serve.specs.Started.{IsFree}
use Rattle.cd_program.proofs.outcome.run_gathered.Goals as goal
use Rattle.cd_serve.proofs.Loadable.{one_loadable}
use Rattle.std.proofs.Common.{codes, refl}

pub run-ran-requires-clause-loadable : goal.run-ran-requires-clause-loadable
run-ran-requires-clause-loadable g c = λ _ _.
    one_loadable _ _ (codes "w") c.in-Ok.ensures.names c.new.ensures.items refl

pub returns-clause-promises : goal.returns-clause-promises
returns-clause-promises g c =
    promises_gathered _ _ _ _ _ _ _ _ _ _ _ c.run-ran.result.end _ _ c.in-Ok.ensures.shelf c.new-gathering.ensures.tells
    c.run-ran.ensures.promises c.finish-link.ensures.finishes c.end_after.ensures

pub returns-clause-link : goal.returns-clause-link
returns-clause-link g c = promises_link _ _ _ _ _ _ _ _ _ (returns-clause-promises g c)

pub returns-clause-tries : goal.returns-clause-tries
returns-clause-tries g c = tried_so _ c.run-ran.result.end _ _ _ c.end_after.ensures c.run-ran.ensures.tries

pub returns-clause-usage : goal.returns-clause-usage
returns-clause-usage g c = λ none.
    unheard_so c.finish-link.result.1 _ _ c.run-ran.result.end _ c.finish-link.ensures.failed (c.run-ran.ensures.unheard none) c.new-gathering.ensures.kept
    c.end_after.ensures (c.run-ran.ensures.usage none)

pub returns-clause-faults : goal.returns-clause-faults
returns-clause-faults g c = λ of fault is refused none fine.
    ends_so _ (IsFree of.file (g.W.World.world_tells c.args.world.now).files) _ _ _ _ _ _ _ _ _ _ c.run-ran.result.end _ _ c.new-gathering.ensures.tells c.run-ran.ensures.promises c.finish-link.ensures.finishes c.end_after.ensures
    (c.run-ran.ensures.faults of fault is refused none) fine

pub returns-clause-complete : goal.returns-clause-complete
returns-clause-complete g c = λ of is accepted none fine taken.
    completes_so of.mode (IsFree of.file (g.W.World.world_tells c.args.world.now).files) _ _ _ _ _ _ _ _ _ _ c.run-ran.result.end _ _ c.new-gathering.ensures.tells c.run-ran.ensures.promises c.finish-link.ensures.finishes c.end_after.ensures
    (c.run-ran.ensures.complete of is accepted none) fine taken

pub returns-clause-back : goal.returns-clause-back
returns-clause-back g c = same_places _ _ _ c.in-Ok.ensures.shelf c.run-ran.ensures.back

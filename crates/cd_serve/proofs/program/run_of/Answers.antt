use Rattle.cd_serve.proofs.Outcomes.{done_refused, done_served, fault_accepted, fault_refused, written}
use Rattle.cd_serve.proofs.Settled.{none_blocked, settings_bounded}
use Rattle.cd_serve.proofs.program.run_of.Goals as goal
use Rattle.cd_serve.specs.Started.{IsFree}
use Rattle.cd_serve.specs.declared.end.End.TheVariants as ends
use Rattle.cd_serve.specs.declared.end.End.{End}
use Rattle.std.proofs.Common.{map, string_bytes, subst, sym, ◌≡◌, ◌⊎◌}

pub serve_lines-requires-clause-bounded : goal.serve_lines-requires-clause-bounded
serve_lines-requires-clause-bounded g c = λ _ _.
    settings_bounded c.in-Ok.started.0.file (g.W.World.world_tells c.args.world.now).files c.in-Ok.started.1 c.in-Ok.ensures.comes

pub serve_lines-requires-clause-blocks : goal.serve_lines-requires-clause-blocks
serve_lines-requires-clause-blocks g c = λ _ _.
    none_blocked c.in-Ok.started.0.file (g.W.World.world_tells c.args.world.now).files c.in-Ok.started.1 c.in-Ok.ensures.comes

pub returns-in-Err-clause-faults : goal.returns-in-Err-clause-faults
returns-in-Err-clause-faults g c =
    fault_refused (map string_bytes c.args.words.now) (g.W.World.world_tells c.args.world.now).files
    c.in-Err.end _ _ _ c.in-Err.ensures.refused c.in-Err.ensures.failed c.uncalled.ensures.end

pub returns-in-Err-clause-complete : goal.returns-in-Err-clause-complete
returns-in-Err-clause-complete g c = λ of is accepted none fine taken.
    done_refused (map string_bytes c.args.words.now) (g.W.World.world_tells c.args.world.now).files
    c.in-Err.end _ _ _ c.in-Err.ensures.refused c.in-Err.ensures.failed c.uncalled.ensures.end of is accepted none

pub returns-in-Test-clause-faults : goal.returns-in-Test-clause-faults
returns-in-Test-clause-faults g c = λ of fault is refused none.
    fault_accepted (map string_bytes c.args.words.now) (g.W.World.world_tells c.args.world.now).files
    c.in-Ok.started.0 c.in-Ok.started.1 _ c.in-Ok.ensures.command c.in-Ok.ensures.comes of fault is refused

pub returns-clause-faults : goal.returns-clause-faults
returns-clause-faults g c = λ of fault is refused none.
    fault_accepted (map string_bytes c.args.words.now) (g.W.World.world_tells c.args.world.now).files
    c.in-Ok.started.0 c.in-Ok.started.1 _ c.in-Ok.ensures.command c.in-Ok.ensures.comes of fault is refused

pub returns-clause-complete : goal.returns-clause-complete
returns-clause-complete g c = λ of is accepted none fine taken.
    done_served (g.W.World.world_tells c.args.world.now).files _ c.in-Ok.started.0 _ _ _ _ _ _ _ _ _ c.in-Ok.ensures.command c.in-Lines.is c.serve_lines.ensures.serves of is fine taken

pub returns-in-Test-clause-complete : goal.returns-in-Test-clause-complete
returns-in-Test-clause-complete g c = λ of is accepted none fine taken.
    subst (λ (e : End). (e ≡ ends.Done) ⊎ IsFree of.file (g.W.World.world_tells c.args.world.now).files e) (sym c.uncalled-in-Test.ensures.end)
    (written c.in-Ok.started.1.items _ _ of.file (g.W.World.world_tells c.args.world.now).files c.say_items-end.result c.say_items-end.ensures fine)

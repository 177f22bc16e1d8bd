use Rattle.cd_serve.proofs.Keeping.{keeps_then}
use Rattle.cd_serve.proofs.Unasked.{call_is_work, list_is_work, on_err}
use Rattle.cd_serve.proofs.Steps.{calls_then_handles, worked}
use Rattle.cd_serve.proofs.daemon.Daemon.work.Goals as goal
use Rattle.std.proofs.Common.{arith, length, ◌<◌, ◌≡◌}

pub loop-alloc-preserved : goal.loop-alloc-preserved
loop-alloc-preserved g c = record {
  works = calls_then_handles _ _ _ c.loop-alloc.invariant.works c.in_ok-handle.ensures.ok;
  keeps = keeps_then _ _ _ c.loop-alloc.invariant.keeps c.handle.ensures.keeps;
  fewer = let less = c.in_ok-handle.ensures.queue in let few = c.loop-alloc.invariant.fewer in omega (arith, less, few);
}

pub returns-in_err-handle-clause-keeps : goal.returns-in_err-handle-clause-keeps
returns-in_err-handle-clause-keeps g c = keeps_then _ _ _ c.loop-alloc.invariant.keeps c.handle.ensures.keeps

pub returns-in_err-make_calls-clause-lacked : goal.returns-in_err-make_calls-clause-lacked
returns-in_err-make_calls-clause-lacked g c = on_err c.from_residual.result (call_is_work _ c.in_err-make_calls.ensures.lacked)

pub returns-in_err-handle-clause-lacked : goal.returns-in_err-handle-clause-lacked
returns-in_err-handle-clause-lacked g c =
    let few = c.loop-alloc.invariant.fewer in
    let some : 0 < length (g.O.Outside.outside_core c.args.self.now.outside).queue = omega (arith, few) in
    on_err c.from_residual-in_err-handle.result (list_is_work _ some)

pub returns-clause-ok : goal.returns-clause-ok
returns-clause-ok g c =
    let none : length (g.O.Outside.outside_core c.loop-alloc.self.outside).queue ≡ 0 = omega arith in
    worked _ _ c.loop-alloc.invariant.works none

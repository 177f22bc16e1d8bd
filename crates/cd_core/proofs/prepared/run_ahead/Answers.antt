use Rattle.cd_chain.specs.Chains.{run_numbered}
use Rattle.cd_chain.specs.declared.data.Run.{Run}
use Rattle.cd_core.proofs.prepared.run_ahead.Goals as goal
use Rattle.cd_match.specs.Matches.{Scene}
use Rattle.cd_value.specs.declared.data.Rate.{Rate}
use Rattle.std.proofs.Common.{List, Option, ap, ℕ, ◌∙◌}
use Rattle.std.proofs.lemmas.Result.{IfOk-weaker}

pub returns-clause-run : goal.returns-clause-run
returns-clause-run c =
    IfOk-weaker c.run.result _ _
    (λ done is. is
    ∙ ap (λ (rates : List ℕ → Option (List Rate)).
    let scene : Scene = record { set = c.args.set.now; rates = rates; now = c.args.now } in
    run_numbered scene c.args.chains.now c.args.number c.args.list.now)
    (c.in_ok-ahead.ensures c.args.now))
    c.run.ensures.run

pub returns-clause-actions : goal.returns-clause-actions
returns-clause-actions c = IfOk-weaker c.run.result _ _ (λ done is. ap (λ (run : Run). run.actions) is) (returns-clause-run c)

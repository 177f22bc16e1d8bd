use Rattle.std.proofs.Common.{◌∙◌, ◌++◌, ◌∷◌, List, [], ap, refl, subst, sym}
use Rattle.cd_chain.proofs.Stepping.{at_start, nearer_in_loop, told_in_loop}
use Rattle.cd_chain.proofs.evaluate.run_on.Goals as goal
use Rattle.cd_chain.specs.Chains.{run_numbered, run_of}
use Rattle.cd_chain.specs.Tables.{jump_table}
use Rattle.cd_chain.specs.declared.data.Chain.{Chain}
use Rattle.cd_chain.specs.declared.frame.Frame.{Frame}
use Rattle.cd_match.specs.Matches.{Scene}
use Rattle.cd_value.specs.declared.data.ValueList.{ValueList}
use Rattle.cd_walks.specs.Walks.{IsFree}
use Rattle.std.specs.Prelude.{Ok}

pub loop-evaluation-init : goal.loop-evaluation-init
loop-evaluation-init g c =
    let scene : Scene = record { set = c.args.set.now; rates = g.V.RateView.rates_at c.args.view.now; now = c.args.now } in
    record {
      same = refl;
      given = refl;
      means = at_start scene c.args.chains.now c.args.chain c.of.result c.push.new.self.items _ _ c.args.list.now c.of.ensures
          (c.in_ok-push.ensures.items ∙ ap (λ (frames : List Frame). frames ++ c.of.result ∷ []) c.new-frames.ensures.items)
          c.new.ensures refl;
    }

pub step-requires : goal.step-requires
step-requires g c =
    subst (λ (table : List Chain). IsFree (jump_table table)) (sym c.loop-evaluation.invariant.same) c.requires

-- where the step gave no verdict, what is left comes to the same
pub loop-evaluation-preserved : goal.loop-evaluation-preserved
loop-evaluation-preserved g c =
    let scene : Scene = record { set = c.args.set.now; rates = g.V.RateView.rates_at c.args.view.now; now = c.args.now } in
    let table = c.args.chains.now in
    let before = c.loop-evaluation.invariant in
    record {
      same = c.step.ensures.same ∙ before.same;
      given = c.step.ensures.given ∙ before.given;
      means = sym (rw c.in_default.is at (told_in_loop scene table c.loop-evaluation.chains (run_numbered scene table c.args.chain c.args.list.now) c.loop-evaluation.evaluation c.step.new.self (Ok c.in_ok-end.end) before.same before.means c.in_ok-end.ensures.means));
    }

pub loop-evaluation-smaller : goal.loop-evaluation-smaller
loop-evaluation-smaller g c =
    rw c.in_default.is at (nearer_in_loop c.args.chains.now c.loop-evaluation.chains c.loop-evaluation.evaluation c.step.new.self (Ok c.in_ok-end.end) c.loop-evaluation.invariant.same c.in_ok-end.ensures.fewer)

pub returns-in-Some-clause-run : goal.returns-in-Some-clause-run
returns-in-Some-clause-run g c =
    let scene : Scene = record { set = c.args.set.now; rates = g.V.RateView.rates_at c.args.view.now; now = c.args.now } in
    let table = c.args.chains.now in
    let before = c.loop-evaluation.invariant in
    ap (λ (given : ValueList). run_of given (record { verdict = c.in-Some.verdict; changed = c.step.new.self.changed; actions = c.step.new.self.actions })) (sym (c.step.ensures.given ∙ before.given))
    ∙ sym (rw c.in-Some.is at (told_in_loop scene table c.loop-evaluation.chains (run_numbered scene table c.args.chain c.args.list.now) c.loop-evaluation.evaluation c.step.new.self (Ok c.in_ok-end.end) before.same before.means c.in_ok-end.ensures.means))

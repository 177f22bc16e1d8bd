use Rattle.cd_chain.proofs.Accepting.{accepted, no_loop}
use Rattle.cd_chain.proofs.OfAccepted.{numbered_keeps}
use Rattle.cd_chain.proofs.table.ChainTable.run.Goals as goal
use Rattle.cd_chain.specs.Chains.{run_numbered, run_of}
use Rattle.cd_chain.specs.Tables.{jump_table}
use Rattle.cd_chain.specs.declared.data.Chain.{Chain}
use Rattle.cd_chain.specs.declared.data.Evaluated.{Evaluated}
use Rattle.cd_chain.specs.declared.data.Run.{Run}
use Rattle.cd_match.specs.Matches.{Scene}
use Rattle.cd_target.specs.Targets.{Keeps}
use Rattle.cd_value.specs.declared.data.ValueList.{ValueList}
use Rattle.cd_value.specs.declared.memory.Memory.{Memory}
use Rattle.cd_walks.specs.Walks.{IsFree}
use Rattle.std.proofs.Common.{◌≡◌, Err, IfOk, List, Ok, Result, subst, sym}

-- what `run_numbered` keeps, a run that equals it keeps
keeping : (list : ValueList) (whole : Run) (r : Result Evaluated Memory) → Keeps list whole.list → IfOk r (λ done. run_of list done ≡ whole) → IfOk r (λ done. Keeps list (run_of list done).list)
keeping list whole (Ok done) keeps is = subst (λ (run : Run). Keeps list run.list) (sym is) keeps
keeping list whole (Err memory) keeps is = tt

pub run_on-requires : goal.run_on-requires
run_on-requires g c =
    subst (λ (table : List Chain). IsFree (jump_table table)) (sym c.as_mut_slice.ensures.value)
    (no_loop c.self.inside.chains.items (accepted c.self.inside.chains.items c.self.invariant))

pub returns-clause-keeps : goal.returns-clause-keeps
returns-clause-keeps g c =
    let scene : Scene = record { set = c.args.set.now; rates = g.V.RateView.rates_at c.args.view.now; now = c.args.now } in
    keeping c.args.list.now (run_numbered scene c.as_mut_slice.result.now c.args.chain c.args.list.now) c.run_on.result
    (numbered_keeps scene c.as_mut_slice.result.now c.args.chain c.args.list.now) c.run_on.ensures.run

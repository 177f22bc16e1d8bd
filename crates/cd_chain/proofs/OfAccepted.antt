-- Laws of what a chain does.
use Rattle.std.proofs.Common.{◌≡◌, ℕ, zero, suc, true, false, cond, List, [], ◌∷◌, length, Option, None, Some, refl, ◌∙◌}
use Rattle.std.specs.Prelude.{slice_get}
use Rattle.cd_value.specs.declared.data.ValueList.{ValueList}
use Rattle.cd_chain.specs.declared.data.Chain.{Chain}
use Rattle.cd_chain.specs.declared.data.Rule.{Rule}
use Rattle.cd_chain.specs.declared.data.Run.{Run}
use Rattle.cd_target.specs.declared.target.Target.{Target}
use Rattle.cd_target.specs.declared.target.Target.TheVariants as targets
use Rattle.cd_chain.specs.declared.data.Verdict.{Verdict}
use Rattle.cd_chain.specs.declared.data.Verdict.TheVariants.{Continue, Return, Stop}
use Rattle.cd_chain.specs.Chains.{and_then, at_depth, chain_named, ended, out, returned, run_chain, run_numbered, run_rules, run_targets, step_or, through}
use Rattle.cd_chain.specs.Tables.{fault_of}
use Rattle.cd_match.specs.Matches.{Scene, all_hold}
use Rattle.cd_target.specs.Targets.{Keeps, rewritten}
use Rattle.cd_target.proofs.Identifiers.{keeps_after}
use Rattle.cd_chain.proofs.Accepting.{no_loop}
use Rattle.cd_chain.proofs.Running.{out-is, runs_local}
use Rattle.cd_chain.proofs.Settling.{only}

-- in an accepted table each chain does what its rules and targets say, a jump what the other chain does ..
pub jumps_are_runs : (scene : Scene) (table : List Chain) → fault_of table ≡ None → (name : List ℕ) (chain : Chain) → chain_named name table ≡ Some chain → (list : ValueList) → out scene table name list ≡ run_chain scene (out scene table) chain list
jumps_are_runs scene table fine name chain is list = out-is scene table (no_loop table fine) name chain is list

-- .. and nothing else does
pub only_this : (scene : Scene) (table : List Chain) → fault_of table ≡ None → (f : List ℕ → ValueList → Run) → ((name : List ℕ) → f name ≡ step_or (run_chain scene) (ended Continue) f (chain_named name table)) → (name : List ℕ) → f name ≡ out scene table name
only_this scene table fine f solves name = only (run_chain scene) (runs_local scene) (ended Continue) table (no_loop table fine) f solves name

-- ---- a chain changes no type, time, interval or value

stays : (list : ValueList) → Keeps list list
stays list = record { type_name = refl; time = refl; interval = refl; values = refl }

both : (a b c : ValueList) → Keeps a b → Keeps b c → Keeps a c
both a b c k l = record { type_name = l.type_name ∙ k.type_name; time = l.time ∙ k.time; interval = l.interval ∙ k.interval; values = l.values ∙ k.values }

rewriting : (target : Target) (list : ValueList) → Keeps list (rewritten target list)
rewriting target list = keeps_after target list (rewritten target list) refl

AllKeep : (ValueList → Run) → Type 0
AllKeep f = (list : ValueList) → Keeps list (f list).list

then_keeps : (list : ValueList) (run : Run) (next : ValueList → Run) → Keeps list run.list → AllKeep next → Keeps list (and_then run next).list
unfolding AllKeep
then_keeps list run next k all = by run.verdict
  where
    by : (verdict : Verdict) → Keeps list (and_then (record { verdict = verdict; list = run.list; actions = run.actions }) next).list
    by Continue = both list run.list (next run.list).list k (all run.list)
    by Return = k
    by Stop = k

targets_keep : (scene : Scene) (jump : List ℕ → ValueList → Run) → ((name : List ℕ) → AllKeep (jump name)) → (ts : List Target) → AllKeep (run_targets scene jump ts)
unfolding AllKeep
targets_keep scene jump jumps [] list = stays list
targets_keep scene jump jumps (targets.Return ∷ ts) list = stays list
targets_keep scene jump jumps (targets.Stop ∷ ts) list = stays list
targets_keep scene jump jumps (targets.Jump name ∷ ts) list = then_keeps list (returned (jump name list)) (run_targets scene jump ts) (jumps name list) (targets_keep scene jump jumps ts)
targets_keep scene jump jumps (targets.Write names ∷ ts) list = targets_keep scene jump jumps ts list
targets_keep scene jump jumps (targets.Set options ∷ ts) list = both list _ _ (rewriting (targets.Set options) list) (targets_keep scene jump jumps ts (rewritten (targets.Set options) list))
targets_keep scene jump jumps (targets.Replace options ∷ ts) list = both list _ _ (rewriting (targets.Replace options) list) (targets_keep scene jump jumps ts (rewritten (targets.Replace options) list))
targets_keep scene jump jumps (targets.Notification message severity ∷ ts) list = targets_keep scene jump jumps ts list

rules_keep : (scene : Scene) (jump : List ℕ → ValueList → Run) → ((name : List ℕ) → AllKeep (jump name)) → (rules : List Rule) (defaults : List Target) → AllKeep (run_rules scene jump rules defaults)
unfolding AllKeep
rules_keep scene jump jumps [] defaults list = targets_keep scene jump jumps defaults list
rules_keep scene jump jumps (rule ∷ rules) defaults list =
    elim (all_hold scene rule.matches list) as (λ b. Keeps list (cond b (and_then (run_targets scene jump rule.targets list) (run_rules scene jump rules defaults)) (run_rules scene jump rules defaults list)).list) [
      | true ↦ then_keeps list (run_targets scene jump rule.targets list) (run_rules scene jump rules defaults) (targets_keep scene jump jumps rule.targets list) (rules_keep scene jump jumps rules defaults)
      | false ↦ rules_keep scene jump jumps rules defaults list
    ]

option_keeps : (scene : Scene) (jump : List ℕ → ValueList → Run) → ((name : List ℕ) → AllKeep (jump name)) → (o : Option Chain) → AllKeep (step_or (run_chain scene) (ended Continue) jump o)
unfolding AllKeep
option_keeps scene jump jumps None list = stays list
option_keeps scene jump jumps (Some chain) list = rules_keep scene jump jumps chain.rules chain.defaults list

depth_keeps : (scene : Scene) (table : List Chain) (n : ℕ) (name : List ℕ) → AllKeep (at_depth (run_chain scene) (ended Continue) table n name)
unfolding AllKeep
depth_keeps scene table zero name list = stays list
depth_keeps scene table (suc n) name list = option_keeps scene (at_depth (run_chain scene) (ended Continue) table n) (depth_keeps scene table n) (chain_named name table) list

pub out_keeps : (scene : Scene) (table : List Chain) (name : List ℕ) (list : ValueList) → Keeps list (out scene table name list).list
unfolding AllKeep through
out_keeps scene table name list = depth_keeps scene table (length table) name list

pub numbered_keeps : (scene : Scene) (table : List Chain) (number : ℕ) (list : ValueList) → Keeps list (run_numbered scene table number list).list
unfolding AllKeep
numbered_keeps scene table number list = option_keeps scene (out scene table) (out_keeps scene table) (slice_get table number) list

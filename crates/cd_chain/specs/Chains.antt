-- What a chain does with a value list: a verdict, the list as it leaves it, and actions in order.
use Rattle.std.specs.Prelude.{ℕ, zero, suc, ◌+◌, if◌then◌else◌, List, [], ◌∷◌, ◌++◌, length, slice_get, position, Option, None, Some, unwrap_or}
use Rattle.std.specs.List.{flat_map, sum_by}
use Rattle.std.specs.Str.{bytes_eq}
use Rattle.cd_value.specs.declared.data.ValueList.{ValueList}
use Rattle.cd_chain.specs.declared.data.Action.{Action}
use Rattle.cd_chain.specs.declared.data.Action.TheVariants as actions
use Rattle.cd_chain.specs.declared.data.Chain.{Chain}
use Rattle.cd_chain.specs.declared.data.Evaluated.{Evaluated}
use Rattle.cd_chain.specs.declared.data.Rule.{Rule}
use Rattle.cd_chain.specs.declared.data.Run.{Run}
use Rattle.cd_target.specs.declared.target.Target.{Target}
use Rattle.cd_target.specs.declared.target.Target.TheVariants as targets
use Rattle.cd_chain.specs.declared.data.Verdict.{Verdict}
use Rattle.cd_chain.specs.declared.data.Verdict.TheVariants.{Continue, Return, Stop}
use Rattle.cd_match.specs.Matches.{Scene, all_hold}
use Rattle.cd_target.specs.Placeholders.{message_of}
use Rattle.cd_target.specs.Targets.{rewritten}
use Rattle.cd_value.specs.declared.data.Notification.{Notification}
use Rattle.cd_value.specs.declared.data.Severity.{Severity}

-- ---- chains by name

-- the number of the chain of a name
abbrev pub number_of : List ℕ → List Chain → Option ℕ
number_of name table = position (λ chain. bytes_eq chain.name name) table

abbrev pub chain_at : List Chain → Option ℕ → Option Chain
chain_at table None = None
chain_at table (Some number) = slice_get table number

-- the chain of a name
abbrev pub chain_named : List ℕ → List Chain → Option Chain
chain_named name table = chain_at table (number_of name table)

abbrev pub step_or : {X : Type 0} →
    ((List ℕ → X) → Chain → X) → X → (List ℕ → X) → Option Chain → X
step_or step none deeper None = none
step_or step none deeper (Some chain) = step deeper chain

abbrev pub at_depth : {X : Type 0} → ((List ℕ → X) → Chain → X) → X → List Chain → ℕ → List ℕ → X
at_depth step none table zero name = none
at_depth step none table (suc depth) name = step_or step none (at_depth step none table depth) (chain_named name table)

-- What the chain of a name comes to, where `step` says what a chain comes to by what the chains come to that it jumps
-- to. Jumps are followed as deep as there are chains, which is deep enough where no chain reaches itself.
unfoldable pub through : {X : Type 0} → ((List ℕ → X) → Chain → X) → X → List Chain → List ℕ → X
through step none table name = at_depth step none table (length table) name

-- ---- what a chain does

abbrev pub ended : Verdict → ValueList → Run
ended verdict list = record { verdict = verdict; list = list; actions = [] }

-- the notification of a target: the moment, the fields of the list, and the message
abbrev pub notice : Scene → List ℕ → Severity → ValueList → Notification
notice scene message severity list = record {
  severity = severity;
  time = scene.now;
  host = list.id.host;
  plugin = list.id.plugin;
  plugin_instance = list.id.plugin_instance;
  type_name = list.id.type_name;
  type_instance = list.id.type_instance;
  message = message_of list.id message;
}

-- an action, and then a run
abbrev pub acting : Action → Run → Run
acting action run = record run { actions = action ∷ run.actions }

-- after a jump: what comes next goes on with the list as the other chain left it, unless that chain stopped all
abbrev pub and_then : Run → (ValueList → Run) → Run
and_then run next =
    elim run.verdict [
      | Continue ↦ let more = next run.list in record more { actions = run.actions ++ more.actions }
      | Return ↦ run
      | Stop ↦ run
    ]

-- to the chain that jumped, a Return is like a Continue
abbrev pub returned : Run → Run
returned run = record run { verdict = elim run.verdict [ Continue ↦ Continue | Return ↦ Continue | Stop ↦ Stop ] }

-- jump name list is the run of the chain of that name
abbrev pub run_targets : Scene → (List ℕ → ValueList → Run) → List Target → ValueList → Run
run_targets scene jump [] list = ended Continue list
run_targets scene jump (targets.Return ∷ more) list = ended Return list
run_targets scene jump (targets.Stop ∷ more) list = ended Stop list
run_targets scene jump (targets.Jump name ∷ more) list =
    and_then (returned (jump name list)) (run_targets scene jump more)
run_targets scene jump (targets.Write names ∷ more) list =
    acting (actions.Write names list) (run_targets scene jump more list)
run_targets scene jump (targets.Set options ∷ more) list =
    run_targets scene jump more (rewritten (targets.Set options) list)
run_targets scene jump (targets.Replace options ∷ more) list =
    run_targets scene jump more (rewritten (targets.Replace options) list)
run_targets scene jump (targets.Notification message severity ∷ more) list =
    acting (actions.Notify (notice scene message severity list)) (run_targets scene jump more list)

abbrev pub run_rules : Scene → (List ℕ → ValueList → Run) → List Rule → List Target → ValueList → Run
run_rules scene jump [] defaults list = run_targets scene jump defaults list
run_rules scene jump (rule ∷ rules) defaults list =
    if all_hold scene rule.matches list
    then and_then (run_targets scene jump rule.targets list) (run_rules scene jump rules defaults)
    else run_rules scene jump rules defaults list

abbrev pub run_chain : Scene → (List ℕ → ValueList → Run) → Chain → ValueList → Run
run_chain scene jump chain list = run_rules scene jump chain.rules chain.defaults list

abbrev pub out : Scene → List Chain → List ℕ → ValueList → Run
out scene table name = through (run_chain scene) (ended Continue) table name

-- ---- what a chain weighs

abbrev pub targets_of : Chain → List Target
targets_of chain = flat_map (λ rule. rule.targets) chain.rules ++ chain.defaults

-- a target weighs 1, and a jump 1 more than the chain that it goes to
abbrev pub target_weight : (List ℕ → ℕ) → Target → ℕ
target_weight weight (targets.Jump name) = 1 + weight name
target_weight weight _ = 1

abbrev pub chain_weight : (List ℕ → ℕ) → Chain → ℕ
chain_weight weight chain = sum_by (target_weight weight) (targets_of chain)

abbrev pub weight : List Chain → List ℕ → ℕ
weight table name = through chain_weight 0 table name

-- what the chain of a number does
abbrev pub run_numbered : Scene → List Chain → ℕ → ValueList → Run
run_numbered scene table number list =
    step_or (run_chain scene) (ended Continue) (out scene table) (slice_get table number) list

-- the run of a list that its owner keeps: where it was not changed, that list goes on
abbrev pub run_of : ValueList → Evaluated → Run
run_of list done =
    record { verdict = done.verdict; list = unwrap_or done.changed list; actions = done.actions }

-- The equation of chains: in a table without a cycle, a jump is the run of the chain that it goes to.
use Rattle.std.proofs.Common.{◌≡◌, ℕ, ◌+◌, cond, List, [], ◌∷◌, ◌++◌, None, Some, refl, sym, ap, ◌∙◌}
use Rattle.std.proofs.Math.Path.{fun_ext}
use Rattle.std.proofs.lemmas.List.Sums.{sum_by-cons}
use Rattle.std.specs.List.{flat_map, AllByRecursion, sum_by}
use Rattle.cd_value.specs.declared.data.ValueList.{ValueList}
use Rattle.cd_chain.specs.declared.data.Action.TheVariants as actions
use Rattle.cd_chain.specs.declared.data.Chain.{Chain}
use Rattle.cd_chain.specs.declared.data.Rule.{Rule}
use Rattle.cd_chain.specs.declared.data.Run.{Run}
use Rattle.cd_target.specs.declared.target.Target.{Target}
use Rattle.cd_target.specs.declared.target.Target.TheVariants as targets
use Rattle.cd_chain.specs.declared.data.Verdict.TheVariants.{Continue}
use Rattle.cd_chain.specs.Chains.{acting, and_then, chain_named, chain_weight, ended, out, returned, run_chain, run_rules, run_targets, step_or, target_weight, targets_of, weight}
use Rattle.cd_match.specs.Matches.{Scene, all_hold}
use Rattle.cd_target.specs.Targets.{rewritten}
use Rattle.cd_chain.specs.Chains.{notice}
use Rattle.cd_chain.specs.Tables.{jump_table}
use Rattle.cd_walks.specs.Walks.{IsFree}
use Rattle.cd_chain.proofs.Settling.{Agrees, Local, through-is}

targets_same : (scene : Scene) (f g : List ℕ → ValueList → Run) (ts : List Target) → AllByRecursion (Agrees f g) ts → (list : ValueList) → run_targets scene f ts list ≡ run_targets scene g ts list
targets_same scene f g [] all list = refl
targets_same scene f g (targets.Return ∷ ts) all list = refl
targets_same scene f g (targets.Stop ∷ ts) all list = refl
targets_same scene f g (targets.Jump name ∷ ts) all list =
    ap (λ (h : ValueList → Run). and_then (returned (h list)) (run_targets scene f ts)) all.0
    ∙ ap (and_then (returned (g name list))) (fun_ext (targets_same scene f g ts all.1))
targets_same scene f g (targets.Write names ∷ ts) all list = ap (acting (actions.Write names list)) (targets_same scene f g ts all.1 list)
targets_same scene f g (targets.Set options ∷ ts) all list = targets_same scene f g ts all.1 (rewritten (targets.Set options) list)
targets_same scene f g (targets.Replace options ∷ ts) all list = targets_same scene f g ts all.1 (rewritten (targets.Replace options) list)
targets_same scene f g (targets.Notification message severity ∷ ts) all list =
    ap (acting (actions.Notify (notice scene message severity list))) (targets_same scene f g ts all.1 list)

parted : {X : Type 0} (P : X → Type 0) (xs ys : List X) → AllByRecursion P (xs ++ ys) → AllByRecursion P xs × AllByRecursion P ys
parted P [] ys all = (tt, all)
parted P (x ∷ xs) ys all = let rest = parted P xs ys all.1 in ((all.0, rest.0), rest.1)

rules_same : (scene : Scene) (f g : List ℕ → ValueList → Run) (rules : List Rule) (defaults : List Target) → AllByRecursion (Agrees f g) (flat_map (λ rule. rule.targets) rules) → AllByRecursion (Agrees f g) defaults → (list : ValueList) → run_rules scene f rules defaults list ≡ run_rules scene g rules defaults list
rules_same scene f g [] defaults all all' list = targets_same scene f g defaults all' list
rules_same scene f g (rule ∷ rules) defaults all all' list =
    let own = parted (Agrees f g) rule.targets (flat_map (λ rule. rule.targets) rules) all in
    let more = rules_same scene f g rules defaults own.1 all' in
    ap (λ (run : Run). cond (all_hold scene rule.matches list) (and_then run (run_rules scene f rules defaults)) (run_rules scene f rules defaults list)) (targets_same scene f g rule.targets own.0 list)
    ∙ ap (λ (next : ValueList → Run). cond (all_hold scene rule.matches list) (and_then (run_targets scene g rule.targets list) next) (next list)) (fun_ext more)

pub runs_local : (scene : Scene) → Local (run_chain scene)
runs_local scene = record {
  asks = λ f g chain all.
      let own = parted (Agrees f g) (flat_map (λ rule. rule.targets) chain.rules) chain.defaults all in
      fun_ext (rules_same scene f g chain.rules chain.defaults own.0 own.1);
}

sum_same : (f g : List ℕ → ℕ) (ts : List Target) → AllByRecursion (Agrees f g) ts → sum_by (target_weight f) ts ≡ sum_by (target_weight g) ts
sum_same f g [] all = refl
sum_same f g (t ∷ ts) all =
    sum_by-cons (target_weight f) t ts ∙ ap (λ n. n + sum_by (target_weight f) ts) (one t all.0) ∙ ap (λ n. target_weight g t + n) (sum_same f g ts all.1) ∙ sym (sum_by-cons (target_weight g) t ts)
  where
    one : (t : Target) → Agrees f g t → target_weight f t ≡ target_weight g t
    one (targets.Jump name) same = ap (λ n. 1 + n) same
    one targets.Return same = refl
    one targets.Stop same = refl
    one (targets.Write names) same = refl
    one (targets.Set options) same = refl
    one (targets.Replace options) same = refl
    one (targets.Notification message severity) same = refl

pub weighs_local : Local chain_weight
weighs_local = record { asks = λ f g chain all. sum_same f g (targets_of chain) all }

-- ---- the equations

-- a jump is the run of the chain that it goes to
pub out-is : (scene : Scene) (table : List Chain) → IsFree (jump_table table) → (name : List ℕ) (chain : Chain) → chain_named name table ≡ Some chain → (list : ValueList) → out scene table name list ≡ run_chain scene (out scene table) chain list
out-is scene table loopless name chain is list =
    ap (λ (h : ValueList → Run). h list)
    (through-is (run_chain scene) (runs_local scene) (ended Continue) table loopless name ∙ ap (step_or (run_chain scene) (ended Continue) (out scene table)) is)

pub weight-is : (table : List Chain) → IsFree (jump_table table) → (name : List ℕ) (chain : Chain) → chain_named name table ≡ Some chain → weight table name ≡ chain_weight (weight table) chain
weight-is table loopless name chain is =
    through-is chain_weight weighs_local 0 table loopless name ∙ ap (step_or chain_weight 0 (weight table)) is

-- a name without a chain
pub out-none : (scene : Scene) (table : List Chain) → IsFree (jump_table table) → (name : List ℕ) → chain_named name table ≡ None → (list : ValueList) → out scene table name list ≡ ended Continue list
out-none scene table loopless name is list =
    ap (λ (h : ValueList → Run). h list)
    (through-is (run_chain scene) (runs_local scene) (ended Continue) table loopless name ∙ ap (step_or (run_chain scene) (ended Continue) (out scene table)) is)

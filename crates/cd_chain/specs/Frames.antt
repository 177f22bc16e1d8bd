-- What is left of the chains that are under way: of each the targets of the rule that it is at, its
-- further rules, and its default targets.
use Rattle.cd_chain.specs.Chains.{and_then, ended, out, returned, run_rules, run_targets, target_weight, weight}
use Rattle.cd_chain.specs.declared.data.Action.{Action}
use Rattle.cd_chain.specs.declared.data.Chain.{Chain}
use Rattle.cd_chain.specs.declared.data.Rule.{Rule}
use Rattle.cd_chain.specs.declared.data.Run.{Run}
use Rattle.cd_chain.specs.declared.data.Verdict.TheVariants.{Continue}
use Rattle.cd_chain.specs.declared.data.Verdict.{Verdict}
use Rattle.cd_chain.specs.declared.evaluate.Evaluation.{Evaluation}
use Rattle.cd_chain.specs.declared.frame.Frame.{Frame}
use Rattle.cd_match.specs.Matches.{Scene, match_holds}
use Rattle.cd_match.specs.declared.data.Match.{Match}
use Rattle.cd_target.specs.declared.target.Target.{Target}
use Rattle.cd_value.specs.declared.data.DataSet.{DataSet}
use Rattle.cd_value.specs.declared.memory.Memory.{Memory}
use Rattle.cd_value.specs.declared.data.Rate.{Rate}
use Rattle.cd_value.specs.declared.data.ValueList.{ValueList}
use Rattle.std.specs.List.{flat_map, list_all, sum_by}
use Rattle.std.specs.Prelude.{Bool, IfOk, List, MatchOption, None, Option, Result, Some, [], drop, if◌then◌else◌, length, map, nat_le, nat_lt, not, slice_get, unwrap_or, ℕ, ◌&&◌, ◌++◌, ◌+◌, ◌-◌, ◌==◌, ◌∷◌, ◌<◌, ◌≡◌, ◌≤◌}

-- ---- places in a chain

abbrev pub targets_or : Option Rule → List Target → List Target
targets_or None defaults = defaults
targets_or (Some rule) defaults = rule.targets

-- the targets of the last of so many rules, or where there are fewer rules the default ones
abbrev pub slot : Chain → ℕ → List Target
slot chain begun =
    if begun == 0 then [] else targets_or (slice_get chain.rules (begun - 1)) chain.defaults

pub record Rest : Type 0 where
  pub targets : List Target
  pub rules : List Rule
  pub defaults : List Target

-- what is left of a chain after so many rules have begun, and so many targets of the last one of
-- these have run
abbrev pub rest_in : Chain → Frame → Rest
rest_in chain frame = record {
  targets = drop frame.target (slot chain frame.begun);
  rules = drop frame.begun chain.rules;
  defaults = if nat_le frame.begun (length chain.rules) then chain.defaults else [];
}

abbrev pub rest_or : Option Chain → Frame → Rest
rest_or None frame = record { targets = []; rules = []; defaults = [] }
rest_or (Some chain) frame = rest_in chain frame

abbrev pub rest_of : List Chain → Frame → Rest
rest_of table frame = rest_or (slice_get table frame.chain) frame

-- ---- the next place

-- all matches hold of a list, with these rates under its name
abbrev pub meets : DataSet → Option (List Rate) → ℕ → ValueList → List Match → Bool
meets set rates now list matches = list_all (λ test. match_holds test set rates now list) matches

-- a rule runs where it has targets and all its matches hold
abbrev pub runs : (List Match → Bool) → Rule → Bool
runs hold rule = not (length rule.targets == 0) && hold rule.matches

-- the place behind the first one that passes, where the list begins at a place
abbrev pub behind_first : {A : Type 0} → (A → Bool) → ℕ → List A → Option ℕ
behind_first passes n [] = None
behind_first passes n (x ∷ xs) = if passes x then Some (n + 1) else behind_first passes (n + 1) xs

abbrev pub at_defaults : Chain → Frame → Option Frame
at_defaults chain frame =
    if nat_le frame.begun (length chain.rules) && not (length chain.defaults == 0)
    then Some (record frame { begun = length chain.rules + 1; target = 0 })
    else None

abbrev pub at_rule : Chain → Frame → Option ℕ → Option Frame
at_rule chain frame None = at_defaults chain frame
at_rule chain frame (Some begun) = Some (record frame { begun = begun; target = 0 })

-- the place of the next target to run
abbrev pub next_in : (List Match → Bool) → Frame → Chain → Option Frame
next_in hold frame chain =
    if nat_lt frame.target (length (slot chain frame.begun))
    then Some frame
    else at_rule chain frame (behind_first (runs hold) frame.begun (drop frame.begun chain.rules))

abbrev pub next_or : (List Match → Bool) → Frame → Option Chain → Option Frame
next_or hold frame None = None
next_or hold frame (Some chain) = next_in hold frame chain

abbrev pub next_place : (List Match → Bool) → List Chain → Frame → Option Frame
next_place hold table frame = next_or hold frame (slice_get table frame.chain)

abbrev pub after : Frame → Frame
after frame = record frame { target = frame.target + 1 }

-- ---- what an evaluation comes to

-- the same with a target before it
abbrev pub with_target : Target → Rest → Rest
with_target target rest = record { targets = target ∷ rest.targets; rules = rest.rules; defaults = rest.defaults }

abbrev pub resume : Scene → (List ℕ → ValueList → Run) → Rest → ValueList → Run
resume scene jump rest list =
    and_then (run_targets scene jump rest.targets list) (run_rules scene jump rest.rules rest.defaults)

-- what the chains under way make of a run of the innermost one, the outermost chain first
abbrev pub back : Scene → (List ℕ → ValueList → Run) → List Rest → Run → Run
back scene jump [] run = run
back scene jump (rest ∷ inner) run = and_then (returned (back scene jump inner run)) (resume scene jump rest)

-- actions that came before a run
abbrev pub after_actions : List Action → Run → Run
after_actions before run = record run { actions = before ++ run.actions }

abbrev pub of_rules : (List ℕ → ℕ) → List Rule → ℕ
of_rules weight rules = sum_by (target_weight weight) (flat_map (λ rule. rule.targets) rules)

abbrev pub rest_weight : (List ℕ → ℕ) → Rest → ℕ
rest_weight weight rest =
    sum_by (target_weight weight) rest.targets
    + (of_rules weight rest.rules + sum_by (target_weight weight) rest.defaults)

-- how many steps there are at most
abbrev pub steps_left : (List ℕ → ℕ) → List Rest → ℕ
steps_left weight [] = 0
steps_left weight (rest ∷ inner) = 1 + (rest_weight weight rest + rest_weight weight rest) + steps_left weight inner

-- the list as it is now
abbrev pub list_now : Evaluation → ValueList
list_now e = unwrap_or e.changed e.given.now

abbrev pub meaning : Scene → List Chain → Evaluation → Run
meaning scene table e =
    after_actions e.actions
    (back scene (out scene table) (map (rest_of table) e.frames.items) (ended Continue (list_now e)))

-- the same, where the innermost chain is at a place
abbrev pub meaning_at : Scene → List Chain → Evaluation → Rest → Run
meaning_at scene table e rest =
    after_actions e.actions
    (back scene (out scene table) (map (rest_of table) e.frames.items) (resume scene (out scene table) rest (list_now e)))

abbrev pub steps_to_go : List Chain → Evaluation → ℕ
steps_to_go table e = steps_left (weight table) (map (rest_of table) e.frames.items)

abbrev pub steps_at : List Chain → Evaluation → Rest → ℕ
steps_at table e rest =
    steps_to_go table e + (1 + (rest_weight (weight table) rest + rest_weight (weight table) rest))

-- what a place of the next target is to what was left before
pub record Goes (scene : Scene) (jump : List ℕ → ValueList → Run) (list : ValueList) (rest next : Rest) : Type 0 where
  pub same : resume scene jump rest list ≡ resume scene jump next list
  pub some : 0 < length next.targets
  pub lighter : (weight : List ℕ → ℕ) → rest_weight weight next ≤ rest_weight weight rest

-- ---- what a step tells

-- it ended as what stood before it says, or what is left comes to that
abbrev pub Told : Scene → List Chain → Run → Evaluation → Result (Option Verdict) Memory → Type 0
Told scene table before e result =
    IfOk result (λ end. MatchOption end
    (before ≡ meaning scene table e)
    (λ verdict. before ≡ record { verdict = verdict; list = list_now e; actions = e.actions }))

-- it ended, or fewer steps are left
abbrev pub IsNearer : List Chain → ℕ → Evaluation → Result (Option Verdict) Memory → Type 0
IsNearer table steps e result =
    IfOk result (λ end. MatchOption end (steps_to_go table e < steps) (λ verdict. Unit {0}))

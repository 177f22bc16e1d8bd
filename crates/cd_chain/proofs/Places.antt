-- The next place of a chain under way: what is left from there is what was left.
use Rattle.std.proofs.Common.{◌≡◌, ℕ, zero, suc, ◌+◌, ◌<◌, ◌≤◌, Bool, true, false, cond, not, ◌&&◌, ◌==◌, nat_lt, List, [], ◌∷◌, length, drop, length-drop, ◌-◌, Option, None, Some, MatchOption, get_or, set, ◌⊎◌, inl, inr, refl, sym, ap, ◌∙◌, subst, arith}
use Rattle.std.specs.Prelude.{nat_le, slice_get}
use Rattle.std.specs.List.{flat_map, sum_by}
use Rattle.std.proofs.lemmas.Bool.{le-leb, leb-false, leb-true, ltb-false, ltb-true}
use Rattle.std.proofs.lemmas.List.{append-nil, drop_all, drop_more, set-get_or}
use Rattle.std.proofs.lemmas.Option.{slice_get_cases, slice_get_past}
use Rattle.std.proofs.lemmas.List.Sums.{sum_by-append}
use Rattle.cd_value.specs.declared.data.ValueList.{ValueList}
use Rattle.cd_chain.specs.declared.data.Chain.{Chain}
use Rattle.cd_chain.specs.declared.data.Rule.{Rule}
use Rattle.cd_chain.specs.declared.data.Run.{Run}
use Rattle.cd_chain.specs.declared.data.Verdict.{Verdict}
use Rattle.cd_chain.specs.declared.data.Verdict.TheVariants.{Continue, Return, Stop}
use Rattle.cd_chain.specs.declared.frame.Frame.{Frame}
use Rattle.cd_match.specs.Matches.{Scene, all_hold}
use Rattle.cd_target.specs.declared.target.Target.{Target}
use Rattle.cd_chain.specs.Chains.{and_then, chain_at, ended, number_of, out, run_chain, run_numbered, run_rules, run_targets, step_or, target_weight, weight}
use Rattle.cd_chain.specs.Tables.{jump_table}
use Rattle.cd_walks.specs.Walks.{IsFree}
use Rattle.cd_chain.proofs.Running.{out-is, out-none, weight-is}
use Rattle.cd_chain.proofs.Steps.{whole_weight}
use Rattle.cd_chain.specs.Frames.{Goes, Rest, after, at_rule, behind_first, next_in, next_or, next_place, of_rules, rest_in, rest_of, rest_or, rest_weight, resume, runs, slot, targets_or, with_target}

-- ---- lists

get_at : {A : Type 0} (xs : List A) (n : ℕ) (x : A) (rest : List A) → drop n xs ≡ x ∷ rest → slice_get xs n ≡ Some x
get_at [] zero x rest is = absurd (cc)
get_at [] (suc n) x rest is = absurd (cc)
get_at (y ∷ ys) zero x rest is = let e : y ≡ x = cc in ap Some e
get_at (y ∷ ys) (suc n) x rest is = get_at ys n x rest is

drop_next : {A : Type 0} (xs : List A) (n : ℕ) (x : A) (rest : List A) → drop n xs ≡ x ∷ rest → drop (suc n) xs ≡ rest
drop_next [] zero x rest is = absurd (cc)
drop_next [] (suc n) x rest is = absurd (cc)
drop_next (y ∷ ys) zero x rest is = cc
drop_next (y ∷ ys) (suc n) x rest is = drop_next ys n x rest is

drop_inside : {A : Type 0} (xs : List A) (n : ℕ) (x : A) (rest : List A) → drop n xs ≡ x ∷ rest → n < length xs
drop_inside [] zero x rest is = absurd (cc)
drop_inside [] (suc n) x rest is = absurd (cc)
drop_inside (y ∷ ys) zero x rest is = omega arith
drop_inside (y ∷ ys) (suc n) x rest is = let l = drop_inside ys n x rest is in omega arith

one_more : (n : ℕ) → n + 1 ≡ suc n
one_more n = omega arith

not_zero : (n : ℕ) → (n + 1 == 0) ≡ false
not_zero n = grind arith

back_one : (n : ℕ) → n + 1 - 1 ≡ n
back_one n = omega arith

-- ---- runs

-- nothing comes next
pub closing : (run : Run) → and_then run (ended Continue) ≡ run
closing run = by_verdict run.verdict run.list run.actions
  where
    by_verdict : (verdict : Verdict) (list : ValueList) (actions : List _) → and_then (record { verdict = verdict; list = list; actions = actions }) (ended Continue) ≡ record { verdict = verdict; list = list; actions = actions }
    by_verdict Continue list actions = λ i. record { verdict = Continue; list = list; actions = append-nil actions i }
    by_verdict Return list actions = refl
    by_verdict Stop list actions = refl

counts : (n : ℕ) → not (suc n == 0) ≡ true
counts n = grind arith

empty_targets : (ts : List Target) → not (length ts == 0) ≡ false → ts ≡ []
empty_targets [] e = refl
empty_targets (t ∷ ts) e = let f = counts (length ts) in absurd (cc)

some_targets : (ts : List Target) → not (length ts == 0) ≡ true → 0 < length ts
some_targets [] e = absurd (cc)
some_targets (t ∷ ts) e = omega arith

both : (a b : Bool) → (a && b) ≡ true → (a ≡ true) × (b ≡ true)
both a b h = (grind arith, grind arith)

module _ (scene : Scene) (jump : List ℕ → ValueList → Run) (list : ValueList) where
  -- a rule that doesn't run is passed over
  passed : (rule : Rule) (rules : List Rule) (defaults : List Target) → runs (λ matches. all_hold scene matches list) rule ≡ false → run_rules scene jump (rule ∷ rules) defaults list ≡ run_rules scene jump rules defaults list
  passed rule rules defaults e = by (not (length rule.targets == 0)) refl (all_hold scene rule.matches list) refl e
    where
      by : (a : Bool) → not (length rule.targets == 0) ≡ a → (b : Bool) → all_hold scene rule.matches list ≡ b → (a && b) ≡ false → cond b (and_then (run_targets scene jump rule.targets list) (run_rules scene jump rules defaults)) (run_rules scene jump rules defaults list) ≡ run_rules scene jump rules defaults list
      by a is false no' h = refl
      by true is true yes' h = absurd (cc)
      by false is true yes' h = ap (λ (ts : List Target). and_then (run_targets scene jump ts list) (run_rules scene jump rules defaults)) (empty_targets rule.targets is)

  begun : (rule : Rule) (rules : List Rule) (defaults : List Target) → runs (λ matches. all_hold scene matches list) rule ≡ true → run_rules scene jump (rule ∷ rules) defaults list ≡ and_then (run_targets scene jump rule.targets list) (run_rules scene jump rules defaults)
  begun rule rules defaults e =
      ap (λ (b : Bool). cond b (and_then (run_targets scene jump rule.targets list) (run_rules scene jump rules defaults)) (run_rules scene jump rules defaults list))
      (both (not (length rule.targets == 0)) (all_hold scene rule.matches list) e).1

  -- where no rule runs, the default targets do
  none_runs : (n : ℕ) (rules : List Rule) (defaults : List Target) → behind_first (runs (λ matches. all_hold scene matches list)) n rules ≡ None → run_rules scene jump rules defaults list ≡ run_targets scene jump defaults list
  none_runs n [] defaults e = refl
  none_runs n (rule ∷ rules) defaults e = by (runs (λ matches. all_hold scene matches list) rule) refl e (none_runs (n + 1) rules defaults)
    where
      by : (t : Bool) → runs (λ matches. all_hold scene matches list) rule ≡ t → cond t (Some (n + 1)) (behind_first (runs (λ matches. all_hold scene matches list)) (n + 1) rules) ≡ None → (behind_first (runs (λ matches. all_hold scene matches list)) (n + 1) rules ≡ None → run_rules scene jump rules defaults list ≡ run_targets scene jump defaults list) → run_rules scene jump (rule ∷ rules) defaults list ≡ run_targets scene jump defaults list
      by true is h later = absurd (cc)
      by false is h later = passed rule rules defaults is ∙ later h

-- the first rule that runs
pub record Found (scene : Scene) (jump : List ℕ → ValueList → Run) (list : ValueList) (rules left : List Rule) (defaults : List Target) (begun : ℕ) : Type 0 where
  pub number : ℕ
  pub rule : Rule
  pub behind : begun ≡ number + 1
  pub there : slice_get rules number ≡ Some rule
  pub inside : number < length rules
  pub some : 0 < length rule.targets
  pub run : run_rules scene jump left defaults list ≡ and_then (run_targets scene jump rule.targets list) (run_rules scene jump (drop begun rules) defaults)
  pub lighter : (weight : List ℕ → ℕ) → sum_by (target_weight weight) rule.targets + of_rules weight (drop begun rules) ≤ of_rules weight left

weigh : (weight : List ℕ → ℕ) (rule : Rule) (left : List Rule) → of_rules weight (rule ∷ left) ≡ sum_by (target_weight weight) rule.targets + of_rules weight left
weigh weight rule left = sum_by-append (target_weight weight) rule.targets (flat_map (λ rule. rule.targets) left)

module _ (scene : Scene) (jump : List ℕ → ValueList → Run) (list : ValueList) (rules : List Rule) (defaults : List Target) where
  found_here : (n : ℕ) (rule : Rule) (left : List Rule) (k : ℕ) → drop n rules ≡ rule ∷ left → runs (λ matches. all_hold scene matches list) rule ≡ true → n + 1 ≡ k → Found scene jump list rules (rule ∷ left) defaults k
  found_here n rule left k is yes' same =
      let rest : drop k rules ≡ left = ap (λ m. drop m rules) (sym same ∙ one_more n) ∙ drop_next rules n rule left is in
      record {
        number = n;
        rule = rule;
        behind = sym same;
        there = get_at rules n rule left is;
        inside = drop_inside rules n rule left is;
        some = some_targets rule.targets (both (not (length rule.targets == 0)) (all_hold scene rule.matches list) yes').0;
        run = begun scene jump list rule left defaults yes' ∙ ap (λ (rs : List Rule). and_then (run_targets scene jump rule.targets list) (run_rules scene jump rs defaults)) (sym rest);
        lighter = λ weight. let e = weigh weight rule left in let f = ap (of_rules weight) rest in omega arith;
      }

  found_further : (rule : Rule) (left : List Rule) (k : ℕ) → runs (λ matches. all_hold scene matches list) rule ≡ false → Found scene jump list rules left defaults k → Found scene jump list rules (rule ∷ left) defaults k
  found_further rule left k no' found = record {
    number = found.number;
    rule = found.rule;
    behind = found.behind;
    there = found.there;
    inside = found.inside;
    some = found.some;
    run = passed scene jump list rule left defaults no' ∙ found.run;
    lighter = λ weight. let e = weigh weight rule left in let f = found.lighter weight in omega arith;
  }

  one_runs : (n : ℕ) (left : List Rule) (k : ℕ) → drop n rules ≡ left → behind_first (runs (λ matches. all_hold scene matches list)) n left ≡ Some k → Found scene jump list rules left defaults k
  one_runs n [] k is e = absurd (cc)
  one_runs n (rule ∷ left) k is e =
      by (runs (λ matches. all_hold scene matches list) rule) refl e
      (one_runs (n + 1) left k (ap (λ m. drop m rules) (one_more n) ∙ drop_next rules n rule left is))
    where
      by : (t : Bool) → runs (λ matches. all_hold scene matches list) rule ≡ t → cond t (Some (n + 1)) (behind_first (runs (λ matches. all_hold scene matches list)) (n + 1) left) ≡ Some k → (behind_first (runs (λ matches. all_hold scene matches list)) (n + 1) left ≡ Some k → Found scene jump list rules left defaults k) → Found scene jump list rules (rule ∷ left) defaults k
      by true yes' h later = let e : n + 1 ≡ k = cc in found_here n rule left k is yes' e
      by false no' h later = found_further rule left k no' (later h)

-- ---- what is left at a place

abbrev defaults_in : Chain → Frame → List Target
defaults_in chain frame = cond (nat_le frame.begun (length chain.rules)) chain.defaults []

-- behind a rule of the chain
at_rest : (chain : Chain) (frame : Frame) (number : ℕ) (rule : Rule) → slice_get chain.rules number ≡ Some rule → number < length chain.rules → frame.begun ≡ number + 1 → frame.target ≡ 0 → rest_in chain frame ≡ record { targets = rule.targets; rules = drop frame.begun chain.rules; defaults = chain.defaults }
at_rest chain frame number rule there inside begun none = λ i. record { targets = targets i; rules = drop frame.begun chain.rules; defaults = defaults i }
  where
    slots : slot chain (number + 1) ≡ rule.targets
    slots =
        ap (λ (b : Bool). cond b [] (targets_or (slice_get chain.rules (number + 1 - 1)) chain.defaults)) (not_zero number)
        ∙ ap (λ n. targets_or (slice_get chain.rules n) chain.defaults) (back_one number)
        ∙ ap (λ (o : Option Rule). targets_or o chain.defaults) there

    targets : drop frame.target (slot chain frame.begun) ≡ rule.targets
    targets = ap (λ n. drop n (slot chain frame.begun)) none ∙ ap (slot chain) begun ∙ slots

    defaults : defaults_in chain frame ≡ chain.defaults
    defaults = ap (λ (b : Bool). cond b chain.defaults []) (le-leb frame.begun (length chain.rules) (omega arith))

-- in the default targets
in_defaults : (chain : Chain) (frame : Frame) → frame.begun ≡ length chain.rules + 1 → frame.target ≡ 0 → rest_in chain frame ≡ record { targets = chain.defaults; rules = []; defaults = [] }
in_defaults chain frame begun none = λ i. record { targets = targets i; rules = rules i; defaults = defaults i }
  where
    slots : slot chain (length chain.rules + 1) ≡ chain.defaults
    slots =
        ap (λ (b : Bool). cond b [] (targets_or (slice_get chain.rules (length chain.rules + 1 - 1)) chain.defaults)) (not_zero (length chain.rules))
        ∙ ap (λ n. targets_or (slice_get chain.rules n) chain.defaults) (back_one (length chain.rules))
        ∙ ap (λ (o : Option Rule). targets_or o chain.defaults) (slice_get_past chain.rules (length chain.rules) (omega arith))

    targets : drop frame.target (slot chain frame.begun) ≡ chain.defaults
    targets = ap (λ n. drop n (slot chain frame.begun)) none ∙ ap (slot chain) begun ∙ slots

    rules : drop frame.begun chain.rules ≡ []
    rules = drop_all frame.begun chain.rules (omega arith)

    past : (b : Bool) → nat_le frame.begun (length chain.rules) ≡ b → b ≡ false
    past true is = let l = leb-true frame.begun (length chain.rules) is in absurd (omega arith)
    past false is = refl

    defaults : defaults_in chain frame ≡ []
    defaults = ap (λ (b : Bool). cond b chain.defaults []) (past (nat_le frame.begun (length chain.rules)) refl)

-- a chain of which no rule has begun
pub at_start : (chain : Chain) (frame : Frame) → frame.begun ≡ 0 → frame.target ≡ 0 → rest_in chain frame ≡ record { targets = []; rules = chain.rules; defaults = chain.defaults }
at_start chain frame begun none = λ i. record { targets = targets i; rules = rules i; defaults = defaults i }
  where
    targets : drop frame.target (slot chain frame.begun) ≡ []
    targets = ap (λ n. drop n (slot chain frame.begun)) none ∙ ap (slot chain) begun

    rules : drop frame.begun chain.rules ≡ chain.rules
    rules = ap (λ n. drop n chain.rules) begun

    defaults : defaults_in chain frame ≡ chain.defaults
    defaults = ap (λ (b : Bool). cond b chain.defaults []) (le-leb frame.begun (length chain.rules) (omega arith))

-- ---- the next place

module _ (scene : Scene) (jump : List ℕ → ValueList → Run) (list : ValueList) where
  -- a frame whose targets have all run goes on with its rules
  on_rules : (chain : Chain) (frame : Frame) → nat_lt frame.target (length (slot chain frame.begun)) ≡ false → resume scene jump (rest_in chain frame) list ≡ run_rules scene jump (drop frame.begun chain.rules) (defaults_in chain frame) list
  on_rules chain frame past =
      ap (λ (ts : List Target). and_then (run_targets scene jump ts list) (run_rules scene jump (drop frame.begun chain.rules) (cond (nat_le frame.begun (length chain.rules)) chain.defaults [])))
      (drop_all frame.target (slot chain frame.begun) (ltb-false frame.target (length (slot chain frame.begun)) past))

  abbrev GoesTo : Chain → Frame → Frame → Type 0
  GoesTo chain frame here = (here.chain ≡ frame.chain) × Goes scene jump list (rest_in chain frame) (rest_in chain here)

  -- there is a rule left to begin
  before_end : (chain : Chain) (frame : Frame) (k : ℕ) → behind_first (runs (λ matches. all_hold scene matches list)) frame.begun (drop frame.begun chain.rules) ≡ Some k → defaults_in chain frame ≡ chain.defaults
  before_end chain frame k is = by (nat_le frame.begun (length chain.rules)) refl
    where
      by : (b : Bool) → nat_le frame.begun (length chain.rules) ≡ b → cond b chain.defaults [] ≡ chain.defaults
      by true low = refl
      by false high =
          let l = leb-false frame.begun (length chain.rules) high in
          let none : drop frame.begun chain.rules ≡ [] = drop_all frame.begun chain.rules (omega arith) in
          let e = sym is ∙ ap (behind_first (runs (λ matches. all_hold scene matches list)) frame.begun) none in
          absurd (cc)

  to_rule : (chain : Chain) (frame : Frame) (k : ℕ) → nat_lt frame.target (length (slot chain frame.begun)) ≡ false → behind_first (runs (λ matches. all_hold scene matches list)) frame.begun (drop frame.begun chain.rules) ≡ Some k → GoesTo chain frame (record frame { begun = k; target = 0 })
  to_rule chain frame k past is =
      let found = one_runs scene jump list chain.rules chain.defaults frame.begun (drop frame.begun chain.rules) k refl is in
      let here : Frame = record frame { begun = k; target = 0 } in
      let rest = at_rest chain here found.number found.rule found.there found.inside found.behind refl in
      let own = before_end chain frame k is in (
        refl,
        record {
          same =
              on_rules chain frame past
              ∙ ap (λ (ds : List Target). run_rules scene jump (drop frame.begun chain.rules) ds list) own
              ∙ found.run
              ∙ sym (ap (λ (rest : Rest). resume scene jump rest list) rest);
          some = subst (λ (rest : Rest). 0 < length rest.targets) (sym rest) found.some;
          lighter = λ weight.
              let w = ap (rest_weight weight) rest in
              let l = found.lighter weight in
              let d = ap (sum_by (target_weight weight)) own in
              omega arith;
        },
      )

  to_defaults : (chain : Chain) (frame : Frame) → nat_lt frame.target (length (slot chain frame.begun)) ≡ false → behind_first (runs (λ matches. all_hold scene matches list)) frame.begun (drop frame.begun chain.rules) ≡ None → nat_le frame.begun (length chain.rules) ≡ true → 0 < length chain.defaults → GoesTo chain frame (record frame { begun = length chain.rules + 1; target = 0 })
  to_defaults chain frame past is low some' =
      let here : Frame = record frame { begun = length chain.rules + 1; target = 0 } in
      let rest = in_defaults chain here refl refl in
      let own : cond (nat_le frame.begun (length chain.rules)) chain.defaults [] ≡ chain.defaults = ap (λ (b : Bool). cond b chain.defaults []) low in (
        refl,
        record {
          same =
              on_rules chain frame past
              ∙ ap (λ (ds : List Target). run_rules scene jump (drop frame.begun chain.rules) ds list) own
              ∙ none_runs scene jump list frame.begun (drop frame.begun chain.rules) chain.defaults is
              ∙ sym (closing (run_targets scene jump chain.defaults list))
              ∙ sym (ap (λ (rest : Rest). resume scene jump rest list) rest);
          some = subst (λ (rest : Rest). 0 < length rest.targets) (sym rest) some';
          lighter = λ weight.
              let w = ap (rest_weight weight) rest in
              let d = ap (sum_by (target_weight weight)) own in
              omega arith;
        },
      )

  goes_in : (chain : Chain) (frame here : Frame) → next_in (λ matches. all_hold scene matches list) frame chain ≡ Some here → GoesTo chain frame here
  goes_in chain frame here is =
      by (nat_lt frame.target (length (slot chain frame.begun))) refl is
    where
      at_end : nat_lt frame.target (length (slot chain frame.begun)) ≡ false → behind_first (runs (λ matches. all_hold scene matches list)) frame.begun (drop frame.begun chain.rules) ≡ None → (b : Bool) → nat_le frame.begun (length chain.rules) ≡ b → (t : Bool) → not (length chain.defaults == 0) ≡ t → cond (b && t) (Some (record frame { begun = length chain.rules + 1; target = 0 })) None ≡ Some here → GoesTo chain frame here
      at_end past none false low t some' h = absurd (cc)
      at_end past none true low false some' h = absurd (cc)
      at_end past none true low true some' h =
          let e : ◌≡◌ {A = Frame} (record frame { begun = length chain.rules + 1; target = 0 }) here = cc in
          subst (GoesTo chain frame) e (to_defaults chain frame past none low (some_targets chain.defaults some'))

      of_rule : nat_lt frame.target (length (slot chain frame.begun)) ≡ false → (o : Option ℕ) → behind_first (runs (λ matches. all_hold scene matches list)) frame.begun (drop frame.begun chain.rules) ≡ o → at_rule chain frame o ≡ Some here → GoesTo chain frame here
      of_rule past None none h = at_end past none (nat_le frame.begun (length chain.rules)) refl (not (length chain.defaults == 0)) refl h
      of_rule past (Some k) found h =
          let e : ◌≡◌ {A = Frame} (record frame { begun = k; target = 0 }) here = cc in
          subst (GoesTo chain frame) e (to_rule chain frame k past found)

      stays : frame ≡ here → 0 < length (drop frame.target (slot chain frame.begun)) → GoesTo chain frame here
      stays e some' = subst (λ (f : Frame). (f.chain ≡ frame.chain) × Goes scene jump list (rest_in chain frame) (rest_in chain f)) e (refl, record { same = refl; some = some'; lighter = λ weight. omega arith })

      by : (t : Bool) → nat_lt frame.target (length (slot chain frame.begun)) ≡ t → cond t (Some frame) (at_rule chain frame (behind_first (runs (λ matches. all_hold scene matches list)) frame.begun (drop frame.begun chain.rules))) ≡ Some here → GoesTo chain frame here
      by true inside h =
          let e : frame ≡ here = cc in
          let l = ltb-true frame.target (length (slot chain frame.begun)) inside in
          let d = length-drop frame.target (slot chain frame.begun) in
          stays e (omega arith)
      by false past h = of_rule past (behind_first (runs (λ matches. all_hold scene matches list)) frame.begun (drop frame.begun chain.rules)) refl h

  ends_in : (chain : Chain) (frame : Frame) → next_in (λ matches. all_hold scene matches list) frame chain ≡ None → resume scene jump (rest_in chain frame) list ≡ ended Continue list
  ends_in chain frame is = by (nat_lt frame.target (length (slot chain frame.begun))) refl is
    where
      no_defaults : (b : Bool) → nat_le frame.begun (length chain.rules) ≡ b → (t : Bool) → not (length chain.defaults == 0) ≡ t → cond (b && t) (Some (record frame { begun = length chain.rules + 1; target = 0 })) None ≡ None → cond b chain.defaults [] ≡ []
      no_defaults false low t some' h = refl
      no_defaults true low false none h = empty_targets chain.defaults none
      no_defaults true low true some' h = absurd (cc)

      of_rule : nat_lt frame.target (length (slot chain frame.begun)) ≡ false → (o : Option ℕ) → behind_first (runs (λ matches. all_hold scene matches list)) frame.begun (drop frame.begun chain.rules) ≡ o → at_rule chain frame o ≡ None → resume scene jump (rest_in chain frame) list ≡ ended Continue list
      of_rule past (Some k) found h = absurd (cc)
      of_rule past None none h =
          on_rules chain frame past
          ∙ none_runs scene jump list frame.begun (drop frame.begun chain.rules) (cond (nat_le frame.begun (length chain.rules)) chain.defaults []) none
          ∙ ap (λ (ds : List Target). run_targets scene jump ds list) (no_defaults (nat_le frame.begun (length chain.rules)) refl (not (length chain.defaults == 0)) refl h)

      by : (t : Bool) → nat_lt frame.target (length (slot chain frame.begun)) ≡ t → cond t (Some frame) (at_rule chain frame (behind_first (runs (λ matches. all_hold scene matches list)) frame.begun (drop frame.begun chain.rules))) ≡ None → resume scene jump (rest_in chain frame) list ≡ ended Continue list
      by true inside h = absurd (cc)
      by false past h = of_rule past (behind_first (runs (λ matches. all_hold scene matches list)) frame.begun (drop frame.begun chain.rules)) refl h

  -- the same in a table
  pub goes : (table : List Chain) (frame here : Frame) → next_place (λ matches. all_hold scene matches list) table frame ≡ Some here → Goes scene jump list (rest_of table frame) (rest_of table here)
  goes table frame here is = by (slice_get table frame.chain) refl is
    where
      by : (o : Option Chain) → slice_get table frame.chain ≡ o → next_or (λ matches. all_hold scene matches list) frame o ≡ Some here → Goes scene jump list (rest_or o frame) (rest_of table here)
      by None at h = absurd (cc)
      by (Some chain) at h =
          let g = goes_in chain frame here h in
          subst (λ (o : Option Chain). Goes scene jump list (rest_in chain frame) (rest_or o here)) (sym at ∙ ap (slice_get table) (sym g.0)) g.1

  pub ends : (table : List Chain) (frame : Frame) → next_place (λ matches. all_hold scene matches list) table frame ≡ None → resume scene jump (rest_of table frame) list ≡ ended Continue list
  ends table frame is = by (slice_get table frame.chain) is
    where
      by : (o : Option Chain) → next_or (λ matches. all_hold scene matches list) frame o ≡ None → resume scene jump (rest_or o frame) list ≡ ended Continue list
      by None h = refl
      by (Some chain) h = ends_in chain frame h

-- ---- the target of a place

drop_get : {A : Type 0} (xs : List A) (n : ℕ) (x : A) → slice_get xs n ≡ Some x → drop n xs ≡ x ∷ drop (n + 1) xs
drop_get [] zero x is = absurd (cc)
drop_get [] (suc n) x is = absurd (cc)
drop_get (y ∷ ys) zero x is = let e : y ≡ x = cc in ap (λ z. z ∷ ys) e
drop_get (y ∷ ys) (suc n) x is = drop_get ys n x is ∙ ap (λ m. x ∷ drop m (y ∷ ys)) (again n)
  where
    again : (n : ℕ) → suc (n + 1) ≡ suc n + 1
    again n = omega arith

drop_past : {A : Type 0} (xs : List A) (n : ℕ) → slice_get xs n ≡ None → drop n xs ≡ []
drop_past [] zero is = refl
drop_past [] (suc n) is = refl
drop_past (y ∷ ys) zero is = absurd (cc)
drop_past (y ∷ ys) (suc n) is = drop_past ys n is

pub in_table : (table : List Chain) (here : Frame) (chain : Chain) {X : Type 0} (o : Option X) (target : X → Target) (behind : X → Frame) → Some chain ≡ slice_get table here.chain
    → MatchOption o (slice_get (slot chain here.begun) here.target ≡ None) (λ p. (slice_get (slot chain here.begun) here.target ≡ Some (target p)) × (behind p ≡ after here))
    → MatchOption o ((rest_of table here).targets ≡ []) (λ p. rest_of table here ≡ with_target (target p) (rest_of table (behind p)))
in_table table here chain None target behind there is = ap (λ (o : Option Chain). (rest_or o here).targets) (sym there) ∙ drop_past (slot chain here.begun) here.target is
in_table table here chain (Some p) target behind there is =
    ap (λ (o : Option Chain). rest_or o here) (sym there)
    ∙ (λ i. record { targets = drop_get (slot chain here.begun) here.target (target p) is.0 i; rules = drop here.begun chain.rules; defaults = cond (nat_le here.begun (length chain.rules)) chain.defaults [] })
    ∙ ap (λ (o : Option Chain). with_target (target p) (rest_or o (after here))) there
    ∙ ap (λ (f : Frame). with_target (target p) (rest_of table f)) (sym is.1)

pub outside : (table : List Chain) (here : Frame) → None ≡ slice_get table here.chain → (rest_of table here).targets ≡ []
outside table here is = ap (λ (o : Option Chain). (rest_or o here).targets) (sym is)

-- ---- rules, one after another

at_next : {A : Type 0} (passes : A → Bool) (xs : List A) (i : ℕ) (x : A) → i < length xs → x ≡ get_or xs i x → behind_first passes i (drop i xs) ≡ cond (passes x) (Some (i + 1)) (behind_first passes (i + 1) (drop (i + 1) xs))
at_next passes xs i x below read = ap (behind_first passes i) (drop_more xs i x below ∙ ap (λ y. y ∷ drop (i + 1) xs) (sym read))

pub went_on : {A : Type 0} (passes : A → Bool) (xs : List A) (i : ℕ) (o : Option ℕ) (found t : Bool) → i < length xs → ((x : A) → found ≡ passes (get_or xs i x)) → found ≡ t → behind_first passes i (drop i xs) ≡ o → cond t (Some (i + 1)) (behind_first passes (i + 1) (drop (i + 1) xs)) ≡ o
went_on passes xs i o found t below is told same = by (slice_get_cases xs i).1
  where
    by : ((x : _) × (i < length xs) × (slice_get xs i ≡ Some x) × (get_or xs i x ≡ x)) ⊎ ((length xs ≤ i) × (slice_get xs i ≡ None)) → cond t (Some (i + 1)) (behind_first passes (i + 1) (drop (i + 1) xs)) ≡ o
    by (inl w) =
        ap (λ (b : Bool). cond b (Some (i + 1)) (behind_first passes (i + 1) (drop (i + 1) xs))) (sym told ∙ is w.0 ∙ ap passes w.3)
        ∙ sym (at_next passes xs i w.0 below (sym w.3)) ∙ same
    by (inr w) = let l = w.0 in absurd (omega arith)

pub none_left : {A : Type 0} (passes : A → Bool) (xs : List A) (i : ℕ) (o : Option ℕ) → length xs ≤ i → behind_first passes i (drop i xs) ≡ o → None ≡ o
none_left passes xs i o past same = sym (ap (behind_first passes i) (drop_all i xs past)) ∙ same

-- ---- a chain to which another jumps

pub jump_run : (scene : Scene) (table : List Chain) → IsFree (jump_table table) → (name : List ℕ) (number : ℕ) (frame : Frame) → Some number ≡ number_of name table → frame ≡ record { chain = number; begun = 0; target = 0 } → (list : ValueList) → out scene table name list ≡ resume scene (out scene table) (rest_of table frame) list
jump_run scene table free name number frame is start list = by (slice_get table number) refl
  where
    by : (o : Option Chain) → slice_get table number ≡ o → out scene table name list ≡ resume scene (out scene table) (rest_of table frame) list
    by None there =
        out-none scene table free name (ap (chain_at table) (sym is) ∙ there) list
        ∙ sym (ap (λ (f : Frame). resume scene (out scene table) (rest_of table f) list) start ∙ ap (λ (o : Option Chain). resume scene (out scene table) (rest_or o (record { chain = number; begun = 0; target = 0 })) list) there)
    by (Some chain) there =
        out-is scene table free name chain (ap (chain_at table) (sym is) ∙ there) list
        ∙ sym (ap (λ (f : Frame). resume scene (out scene table) (rest_of table f) list) start ∙ ap (λ (o : Option Chain). resume scene (out scene table) (rest_or o (record { chain = number; begun = 0; target = 0 })) list) there
        ∙ ap (λ (rest : Rest). resume scene (out scene table) rest list) (at_start chain (record { chain = number; begun = 0; target = 0 }) refl refl))

pub jump_weight : (table : List Chain) → IsFree (jump_table table) → (name : List ℕ) (number : ℕ) (frame : Frame) → Some number ≡ number_of name table → frame ≡ record { chain = number; begun = 0; target = 0 } → rest_weight (weight table) (rest_of table frame) ≤ weight table name
jump_weight table free name number frame is start = by (slice_get table number) refl
  where
    by : (o : Option Chain) → slice_get table number ≡ o → rest_weight (weight table) (rest_of table frame) ≤ weight table name
    by None there =
        let e = ap (λ (f : Frame). rest_weight (weight table) (rest_of table f)) start ∙ ap (λ (o : Option Chain). rest_weight (weight table) (rest_or o (record { chain = number; begun = 0; target = 0 }))) there in
        omega arith
    by (Some chain) there =
        let e = ap (λ (f : Frame). rest_weight (weight table) (rest_of table f)) start ∙ ap (λ (o : Option Chain). rest_weight (weight table) (rest_or o (record { chain = number; begun = 0; target = 0 }))) there ∙ whole_weight (weight table) chain (rest_in chain (record { chain = number; begun = 0; target = 0 })) (at_start chain (record { chain = number; begun = 0; target = 0 }) refl refl) in
        let w = weight-is table free name chain (ap (chain_at table) (sym is) ∙ there) in
        omega arith

-- an evaluation at its start is the chain
pub starts : (scene : Scene) (table : List Chain) (number : ℕ) (frame : Frame) (list : ValueList) → frame ≡ record { chain = number; begun = 0; target = 0 } → resume scene (out scene table) (rest_of table frame) list ≡ run_numbered scene table number list
starts scene table number frame list start = ap (λ (f : Frame). resume scene (out scene table) (rest_of table f) list) start ∙ by (slice_get table number)
  where
    by : (o : Option Chain) → resume scene (out scene table) (rest_or o (record { chain = number; begun = 0; target = 0 })) list ≡ step_or (run_chain scene) (ended Continue) (out scene table) o list
    by None = refl
    by (Some chain) = ap (λ (rest : Rest). resume scene (out scene table) rest list) (at_start chain (record { chain = number; begun = 0; target = 0 }) refl refl)

-- a list into which an element was put back
pub put_back : {A : Type 0} (xs ys : List A) (i : ℕ) (x y : A) → ys ≡ set xs i y → y ≡ x → x ≡ get_or xs i x → ys ≡ xs
put_back xs ys i x y is same read = is ∙ ap (set xs i) (same ∙ read) ∙ set-get_or xs i x

-- The steps of an evaluation.
use Rattle.std.proofs.Common.{◌≡◌, ℕ, ◌+◌, ◌<◌, List, [], ◌∷◌, ◌++◌, length, map, refl, sym, ap, ◌∙◌, append_assoc, zero-add, arith}
use Rattle.std.proofs.lemmas.List.{append-nil, map_push, length-map}
use Rattle.std.proofs.lemmas.List.Sums.{sum_by-append, sum_by-cons}
use Rattle.std.specs.List.{flat_map}
use Rattle.cd_value.specs.declared.data.ValueList.{ValueList}
use Rattle.cd_chain.specs.declared.data.Action.{Action}
use Rattle.cd_chain.specs.declared.data.Chain.{Chain}
use Rattle.cd_chain.specs.declared.data.Run.{Run}
use Rattle.cd_chain.specs.declared.data.Verdict.{Verdict}
use Rattle.cd_chain.specs.declared.data.Verdict.TheVariants.{Continue, Return, Stop}
use Rattle.cd_chain.specs.declared.frame.Frame.{Frame}
use Rattle.cd_match.specs.Matches.{Scene}
use Rattle.cd_target.specs.declared.target.Target.{Target}
use Rattle.cd_target.specs.declared.target.Target.TheVariants as targets
use Rattle.cd_chain.specs.Chains.{acting, and_then, chain_weight, ended, returned, run_chain, run_rules, run_targets, target_weight}
use Rattle.cd_chain.specs.Frames.{Rest, after_actions, back, rest_of, rest_weight, resume, steps_left, with_target}

-- ---- chains under way

assoc : (run : Run) (f g : ValueList → Run) → and_then (and_then run f) g ≡ and_then run (λ list. and_then (f list) g)
assoc run f g = by_verdict run.verdict run.list run.actions
  where
    then_on : (actions : List Action) (more : Run) → and_then (record more { actions = actions ++ more.actions }) g ≡ (let next = and_then more g in record next { actions = actions ++ next.actions })
    then_on actions more = by_next more.verdict more.list more.actions
      where
        by_next : (verdict : Verdict) (list : ValueList) (after : List Action) → and_then (record { verdict = verdict; list = list; actions = actions ++ after }) g ≡ (let next = and_then (record { verdict = verdict; list = list; actions = after }) g in record next { actions = actions ++ next.actions })
        by_next Continue list after = λ i. record { verdict = (g list).verdict; list = (g list).list; actions = append_assoc actions after (g list).actions i }
        by_next Return list after = refl
        by_next Stop list after = refl

    by_verdict : (verdict : Verdict) (list : ValueList) (actions : List Action) → (let run : Run = record { verdict = verdict; list = list; actions = actions } in and_then (and_then run f) g ≡ and_then run (λ list. and_then (f list) g))
    by_verdict Continue list actions = then_on actions (f list)
    by_verdict Return list actions = refl
    by_verdict Stop list actions = refl

acting_then : (action : Action) (run : Run) (next : ValueList → Run) → and_then (acting action run) next ≡ acting action (and_then run next)
acting_then action run next = by_verdict run.verdict run.list run.actions
  where
    by_verdict : (verdict : Verdict) (list : ValueList) (actions : List Action) → (let run : Run = record { verdict = verdict; list = list; actions = actions } in and_then (acting action run) next ≡ acting action (and_then run next))
    by_verdict Continue list actions = refl
    by_verdict Return list actions = refl
    by_verdict Stop list actions = refl

acting_returned : (action : Action) (run : Run) → returned (acting action run) ≡ acting action (returned run)
acting_returned action run = refl

module _ (scene : Scene) (jump : List ℕ → ValueList → Run) (table : List Chain) where
  -- what is left, where the innermost chain has that left
  abbrev at : List Action → List Frame → Rest → ValueList → Run
  at acts below rest list = after_actions acts (back scene jump (map (rest_of table) below) (resume scene jump rest list))

  -- what is left, where the innermost chain is the last of these
  abbrev all : List Action → List Frame → ValueList → Run
  all acts frames list = after_actions acts (back scene jump (map (rest_of table) frames) (ended Continue list))

  back_push : (frames : List Rest) (rest : Rest) (run : Run) → back scene jump (frames ++ rest ∷ []) run ≡ back scene jump frames (and_then (returned run) (resume scene jump rest))
  back_push [] rest run = refl
  back_push (frame ∷ frames) rest run = ap (λ (run : Run). and_then (returned run) (resume scene jump frame)) (back_push frames rest run)

  back_acting : (frames : List Rest) (action : Action) (run : Run) → back scene jump frames (acting action run) ≡ acting action (back scene jump frames run)
  back_acting [] action run = refl
  back_acting (frame ∷ frames) action run =
      ap (λ (run : Run). and_then (returned run) (resume scene jump frame)) (back_acting frames action run)
      ∙ acting_then action (returned (back scene jump frames run)) (resume scene jump frame)

  back_stop : (frames : List Rest) (list : ValueList) → back scene jump frames (ended Stop list) ≡ ended Stop list
  back_stop [] list = refl
  back_stop (frame ∷ frames) list = ap (λ (run : Run). and_then (returned run) (resume scene jump frame)) (back_stop frames list)

  back_return : (frames : List Rest) (list : ValueList) → 0 < length frames → back scene jump frames (ended Return list) ≡ back scene jump frames (ended Continue list)
  back_return [] list some = absurd (omega arith)
  back_return (frame ∷ []) list some = refl
  back_return (frame ∷ inner ∷ frames) list some = ap (λ (run : Run). and_then (returned run) (resume scene jump frame)) (back_return (inner ∷ frames) list (omega arith))

  -- what an evaluation comes to, where its chains under way end in one more
  pub on : (acts : List Action) (frames below : List Frame) (frame : Frame) (list : ValueList) → frames ≡ below ++ frame ∷ [] → all acts frames list ≡ at acts below (rest_of table frame) list
  on acts frames below frame list is =
      ap (λ (frames : List Frame). all acts frames list) is
      ∙ ap (λ (rests : List Rest). after_actions acts (back scene jump rests (ended Continue list))) (map_push (rest_of table) below frame)
      ∙ ap (after_actions acts) (back_push (map (rest_of table) below) (rest_of table frame) (ended Continue list))

  -- the target that is next
  of_kind : (rest here : Rest) (list : ValueList) (t kind : Target) → here ≡ with_target t rest → t ≡ kind → resume scene jump here list ≡ resume scene jump (with_target kind rest) list
  of_kind rest here list t kind is kind_is = ap (λ (rest : Rest). resume scene jump rest list) is ∙ ap (λ (t : Target). resume scene jump (with_target t rest) list) kind_is

  -- a chain that is done
  pub done : (acts : List Action) (frames below : List Frame) (frame : Frame) (list : ValueList) → frames ≡ below ++ frame ∷ [] → resume scene jump (rest_of table frame) list ≡ ended Continue list → all acts frames list ≡ all acts below list
  done acts frames below frame list is end =
      on acts frames below frame list is ∙ ap (λ (run : Run). after_actions acts (back scene jump (map (rest_of table) below) run)) end

  -- a chain that goes on at another place
  pub moved : (acts : List Action) (frames below : List Frame) (frame : Frame) (list : ValueList) (here : Rest) → frames ≡ below ++ frame ∷ [] → resume scene jump (rest_of table frame) list ≡ resume scene jump here list → all acts frames list ≡ at acts below here list
  moved acts frames below frame list here is same =
      on acts frames below frame list is ∙ ap (λ (run : Run). after_actions acts (back scene jump (map (rest_of table) below) run)) same

  pub stopped : (acts : List Action) (below : List Frame) (rest here : Rest) (list : ValueList) (t : Target) → here ≡ with_target t rest → t ≡ targets.Stop
      → at acts below here list ≡ record { verdict = Stop; list = list; actions = acts }
  stopped acts below rest here list t is kind =
      ap (λ (run : Run). after_actions acts (back scene jump (map (rest_of table) below) run)) (of_kind rest here list t targets.Stop is kind)
      ∙ ap (after_actions acts) (back_stop (map (rest_of table) below) list)
      ∙ (λ i. record { verdict = Stop; list = list; actions = append-nil acts i })

  pub returned_back : (acts : List Action) (below : List Frame) (rest here : Rest) (list : ValueList) (t : Target) → here ≡ with_target t rest → t ≡ targets.Return → 0 < length below
      → at acts below here list ≡ all acts below list
  returned_back acts below rest here list t is kind some =
      ap (λ (run : Run). after_actions acts (back scene jump (map (rest_of table) below) run)) (of_kind rest here list t targets.Return is kind)
      ∙ ap (after_actions acts) (back_return (map (rest_of table) below) list (let l = length-map below (rest_of table) in omega arith))

  pub returned_last : (acts : List Action) (below : List Frame) (rest here : Rest) (list : ValueList) (t : Target) → here ≡ with_target t rest → t ≡ targets.Return → below ≡ []
      → at acts below here list ≡ record { verdict = Return; list = list; actions = acts }
  returned_last acts below rest here list t is kind none =
      ap (λ (below : List Frame). at acts below here list) none
      ∙ ap (λ (run : Run). after_actions acts run) (of_kind rest here list t targets.Return is kind)
      ∙ (λ i. record { verdict = Return; list = list; actions = append-nil acts i })

  pub acted : (acts acts' : List Action) (below frames' : List Frame) (rest : Frame) (here : Rest) (list : ValueList) (action : Action) (t kind : Target) → here ≡ with_target t (rest_of table rest) → t ≡ kind
      → ((ts : List Target) → run_targets scene jump (kind ∷ ts) list ≡ acting action (run_targets scene jump ts list))
      → frames' ≡ below ++ rest ∷ [] → acts' ≡ acts ++ action ∷ []
      → at acts below here list ≡ all acts' frames' list
  acted acts acts' below frames' rest here list action t kind is kind_is acts_is frames_are more =
      let own = rest_of table rest in
      let run = back scene jump (map (rest_of table) below) (resume scene jump own list) in
      ap (λ (run : Run). after_actions acts (back scene jump (map (rest_of table) below) run)) (of_kind own here list t kind is kind_is ∙ ap (λ (run : Run). and_then run (run_rules scene jump own.rules own.defaults)) (acts_is own.targets) ∙ acting_then action (run_targets scene jump own.targets list) (run_rules scene jump own.rules own.defaults))
      ∙ ap (after_actions acts) (back_acting (map (rest_of table) below) action (resume scene jump own list))
      ∙ (λ i. record { verdict = run.verdict; list = run.list; actions = sym (append_assoc acts (action ∷ []) run.actions) i })
      ∙ ap (λ (acts : List Action). after_actions acts run) (sym more)
      ∙ sym (on acts' frames' below rest list frames_are)

  pub rewrote : (acts : List Action) (below frames' : List Frame) (rest : Frame) (here : Rest) (list list' : ValueList) (t kind : Target) → here ≡ with_target t (rest_of table rest) → t ≡ kind
      → ((ts : List Target) → run_targets scene jump (kind ∷ ts) list ≡ run_targets scene jump ts list')
      → frames' ≡ below ++ rest ∷ []
      → at acts below here list ≡ all acts frames' list'
  rewrote acts below frames' rest here list list' t kind is kind_is change frames_are =
      let own = rest_of table rest in
      ap (λ (run : Run). after_actions acts (back scene jump (map (rest_of table) below) run)) (of_kind own here list t kind is kind_is ∙ ap (λ (run : Run). and_then run (run_rules scene jump own.rules own.defaults)) (change own.targets))
      ∙ sym (on acts frames' below rest list' frames_are)

  pub jumped : (acts : List Action) (below middle frames' : List Frame) (rest whole : Frame) (here : Rest) (list : ValueList) (name : List ℕ) (t : Target) → here ≡ with_target t (rest_of table rest) → t ≡ targets.Jump name
      → middle ≡ below ++ rest ∷ [] → frames' ≡ middle ++ whole ∷ [] → jump name list ≡ resume scene jump (rest_of table whole) list
      → at acts below here list ≡ all acts frames' list
  jumped acts below middle frames' rest whole here list name t is kind middle_is frames_are run_is =
      let own = rest_of table rest in
      ap (λ (run : Run). after_actions acts (back scene jump (map (rest_of table) below) run)) (of_kind own here list t (targets.Jump name) is kind ∙ assoc (returned (jump name list)) (run_targets scene jump own.targets) (run_rules scene jump own.rules own.defaults))
      ∙ ap (after_actions acts) (sym (back_push (map (rest_of table) below) own (jump name list)))
      ∙ ap (λ (rests : List Rest). after_actions acts (back scene jump rests (jump name list))) (sym (map_push (rest_of table) below rest) ∙ ap (map (rest_of table)) (sym middle_is))
      ∙ ap (λ (run : Run). after_actions acts (back scene jump (map (rest_of table) middle) run)) run_is
      ∙ sym (on acts frames' middle whole list frames_are)

  -- a jump to no chain
  pub passed : (acts : List Action) (below frames' : List Frame) (rest : Frame) (here : Rest) (list : ValueList) (name : List ℕ) (t : Target) → here ≡ with_target t (rest_of table rest) → t ≡ targets.Jump name
      → frames' ≡ below ++ rest ∷ [] → jump name list ≡ ended Continue list
      → at acts below here list ≡ all acts frames' list
  passed acts below frames' rest here list name t is kind frames_are none =
      let own = rest_of table rest in
      ap (λ (run : Run). after_actions acts (back scene jump (map (rest_of table) below) run)) (of_kind own here list t (targets.Jump name) is kind ∙ ap (λ (run : Run). and_then (and_then (returned run) (run_targets scene jump own.targets)) (run_rules scene jump own.rules own.defaults)) none)
      ∙ sym (on acts frames' below rest list frames_are)

-- ---- how many steps there are

steps_push : (weight : List ℕ → ℕ) (frames : List Rest) (rest : Rest) → steps_left weight (frames ++ rest ∷ []) ≡ steps_left weight frames + (1 + (rest_weight weight rest + rest_weight weight rest))
steps_push weight [] rest = omega arith
steps_push weight (frame ∷ frames) rest = let e = steps_push weight frames rest in omega arith

pub steps : (table : List Chain) (weight : List ℕ → ℕ) (frames below : List Frame) (frame : Frame) → frames ≡ below ++ frame ∷ [] → steps_left weight (map (rest_of table) frames) ≡ steps_left weight (map (rest_of table) below) + (1 + (rest_weight weight (rest_of table frame) + rest_weight weight (rest_of table frame)))
steps table weight frames below frame is = ap (λ (frames : List Frame). steps_left weight (map (rest_of table) frames)) is ∙ ap (steps_left weight) (map_push (rest_of table) below frame) ∙ steps_push weight (map (rest_of table) below) (rest_of table frame)

-- the weight of a target that is next
pub lighter : (weight : List ℕ → ℕ) (rest here : Rest) (t kind : Target) → here ≡ with_target t rest → t ≡ kind → rest_weight weight here ≡ target_weight weight kind + rest_weight weight rest
lighter weight rest here t kind is kind_is =
    ap (rest_weight weight) is ∙ ap (λ (t : Target). rest_weight weight (with_target t rest)) kind_is
    ∙ (let e = sum_by-cons (target_weight weight) kind rest.targets in omega arith)

-- a whole chain
abbrev pub whole_of : Chain → Rest
whole_of chain = record { targets = []; rules = chain.rules; defaults = chain.defaults }

pub whole_run : (scene : Scene) (jump : List ℕ → ValueList → Run) (chain : Chain) (rest : Rest) (list : ValueList) → rest ≡ whole_of chain → run_chain scene jump chain list ≡ resume scene jump rest list
whole_run scene jump chain rest list is = ap (λ (rest : Rest). resume scene jump rest list) (sym is)

pub whole_weight : (weight : List ℕ → ℕ) (chain : Chain) (rest : Rest) → rest ≡ whole_of chain → rest_weight weight rest ≡ chain_weight weight chain
whole_weight weight chain rest is =
    ap (rest_weight weight) is
    ∙ zero-add _
    ∙ sym (sum_by-append (target_weight weight) (flat_map (λ rule. rule.targets) chain.rules) chain.defaults)

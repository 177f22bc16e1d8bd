-- What a step tells, carried to what stood before it and to the table as it was.
use Rattle.std.proofs.Common.{◌≡◌, ℕ, ◌≤◌, List, [], ◌∷◌, ◌++◌, map, Option, None, Some, Result, Ok, Err, sym, ap, ◌∙◌, subst, arith}
use Rattle.cd_value.specs.Identifier.{name_of}
use Rattle.cd_value.specs.declared.data.ValueList.{ValueList}
use Rattle.cd_value.specs.declared.memory.Memory.{Memory}
use Rattle.cd_chain.specs.declared.data.Action.{Action}
use Rattle.cd_chain.specs.declared.data.Chain.{Chain}
use Rattle.cd_chain.specs.declared.data.Run.{Run}
use Rattle.cd_chain.specs.declared.data.Verdict.{Verdict}
use Rattle.cd_chain.specs.declared.data.Verdict.TheVariants.{Continue}
use Rattle.cd_chain.specs.declared.evaluate.Evaluation.{Evaluation}
use Rattle.cd_chain.specs.declared.frame.Frame.{Frame}
use Rattle.cd_match.specs.Matches.{Scene}
use Rattle.cd_chain.specs.Chains.{ended, out, run_numbered, weight}
use Rattle.cd_chain.specs.Frames.{Goes, IsNearer, Told, after_actions, back, meaning, meets, next_place, rest_of, resume, steps_at, steps_to_go}
use Rattle.cd_chain.proofs.Places.{starts}
use Rattle.cd_chain.proofs.Steps.{on, steps}

pub told_on : (scene : Scene) (table other : List Chain) (before then' : Run) (e : Evaluation) (r : Result (Option Verdict) Memory) → other ≡ table → before ≡ then' → Told scene other then' e r → Told scene table before e r
told_on scene table other before then' e r same is told =
    subst (λ (table : List Chain). Told scene table before e r) same (subst (λ (run : Run). Told scene other run e r) (sym is) told)

nearer_by : (table : List Chain) (m n : ℕ) (e : Evaluation) (r : Result (Option Verdict) Memory) → m ≤ n → IsNearer table m e r → IsNearer table n e r
nearer_by table m n e (Ok None) le near = omega arith
nearer_by table m n e (Ok (Some verdict)) le near = tt
nearer_by table m n e (Err memory) le near = tt

pub nearer_on : (table other : List Chain) (m n : ℕ) (e : Evaluation) (r : Result (Option Verdict) Memory) → other ≡ table → m ≤ n → IsNearer other m e r → IsNearer table n e r
nearer_on table other m n e r same le near = nearer_by table m n e r le (subst (λ (table : List Chain). IsNearer table m e r) same near)

-- the next place, by the list as it is now
pub place_of : (scene : Scene) (table : List Chain) (frame : Frame) (seen list : ValueList) (next place : Option Frame) → seen ≡ list
    → next ≡ next_place (meets scene.set (scene.rates (name_of seen.id)) scene.now seen) table frame → next ≡ place
    → next_place (meets scene.set (scene.rates (name_of list.id)) scene.now list) table frame ≡ place
place_of scene table frame seen list next place same at is =
    ap (λ (list : ValueList). next_place (meets scene.set (scene.rates (name_of list.id)) scene.now list) table frame) (sym same) ∙ sym at ∙ is

-- the steps that are left at the next place
pub steps_there : (scene : Scene) (table other : List Chain) (jump : List ℕ → ValueList → Run) (list : ValueList) (old popped : Evaluation) (frame here : Frame) → other ≡ table → old.frames.items ≡ popped.frames.items ++ frame ∷ [] → Goes scene jump list (rest_of table frame) (rest_of table here) → steps_at other popped (rest_of other here) ≤ steps_to_go table old
steps_there scene table other jump list old popped frame here same is goes =
    let e = ap (λ (t : List Chain). steps_at t popped (rest_of t here)) same in
    let s = steps table (weight table) old.frames.items popped.frames.items frame is in
    let l = goes.lighter (weight table) in
    omega arith

-- a step of a loop that began with the table as it was, and with what the whole evaluation comes to
pub told_in_loop : (scene : Scene) (table now : List Chain) (whole : Run) (e new : Evaluation) (r : Result (Option Verdict) Memory) → now ≡ table → meaning scene table e ≡ whole → Told scene now (meaning scene now e) new r → Told scene table whole new r
told_in_loop scene table now whole e new r same means told =
    told_on scene table now whole (meaning scene now e) new r same (sym means ∙ ap (λ (table : List Chain). meaning scene table e) (sym same)) told

-- where an evaluation begins
pub at_start : (scene : Scene) (table : List Chain) (number : ℕ) (frame : Frame) (frames : List Frame) (acts : List Action) (list given : ValueList) → frame ≡ record { chain = number; begun = 0; target = 0 } → frames ≡ frame ∷ [] → acts ≡ [] → list ≡ given
    → after_actions acts (back scene (out scene table) (map (rest_of table) frames) (ended Continue list)) ≡ run_numbered scene table number given
at_start scene table number frame frames acts list given start is none same =
    on scene (out scene table) table acts frames [] frame list is
    ∙ ap (λ (acts : List Action). after_actions acts (resume scene (out scene table) (rest_of table frame) list)) none
    ∙ starts scene table number frame list start
    ∙ ap (run_numbered scene table number) same

pub nearer_in_loop : (table now : List Chain) (e new : Evaluation) (r : Result (Option Verdict) Memory) → now ≡ table → IsNearer now (steps_to_go now e) new r → IsNearer table (steps_to_go table e) new r
nearer_in_loop table now e new r same near = subst (λ (table : List Chain). IsNearer table (steps_to_go table e) new r) same near

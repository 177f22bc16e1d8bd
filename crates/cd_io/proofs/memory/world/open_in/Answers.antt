use Rattle.cd_io.proofs.Files.{found_at, opened_first, opens_first, opens_nothing}
use Rattle.cd_io.proofs.memory.world.open_in.Goals as goal
use Rattle.cd_io.specs.MemFile.{plan_of, shown}
use Rattle.cd_io.specs.MemSource.{BeginsBy, PlanTells, tells_of, told_first}
use Rattle.cd_io.specs.World.{later}
use Rattle.cd_io.specs.declared.memory.file.MemFile.{MemFile}
use Rattle.cd_io.specs.declared.memory.source.MemSource.{MemSource}
use Rattle.std.proofs.Common.{Bool, Err, IfSome, IsSome, List, None, Ok, OnErr, Option, Result, Some, ap, subst, sym, ℕ, ◌∙◌, ◌≡◌}
use Rattle.std.proofs.Math.Seq.{map-set_same}
use Rattle.std.specs.List.{position, slice_get}
use Rattle.std.specs.Option.{option_map}
use Rattle.std.specs.Str.{bytes_eq}

pub returns-in_default-clause-found : goal.returns-in_default-clause-found
returns-in_default-clause-found c =
    let test : MemFile → Bool = λ file. bytes_eq (shown file).path c.args.path.now in
    let files = c.args.files.now.items in
    let missed : position test files ≡ None =
    sym (c.in_default.ensures.place ∙ ap (position test) c.deref.ensures.value) in
    sym (ap (option_map told_first) (opens_nothing shown c.args.path.now files missed))

pub returns-in_default-2-clause-found : goal.returns-in_default-2-clause-found
returns-in_default-2-clause-found c =
    let test : MemFile → Bool = λ file. bytes_eq (shown file).path c.args.path.now in
    let files = c.args.files.now.items in
    let place = c.in-Some.place in
    let file = c.index.result.now in
    let found : position test files ≡ Some place =
    sym (c.in-Some.ensures.place ∙ ap (position test) c.deref.ensures.value) in
    sym (ap (option_map tells_of) c.in_default-2.is) ∙ c.in_ok-source.ensures.found
    ∙ ap (λ (f : MemFile). option_map told_first (slice_get (shown f).texts 0)) c.index.ensures
    ∙ sym (ap (option_map told_first) (opens_first shown c.args.path.now files place file found))

pub returns-clause-found : goal.returns-clause-found
returns-clause-found c =
    let test : MemFile → Bool = λ file. bytes_eq (shown file).path c.args.path.now in
    let files = c.args.files.now.items in
    let place = c.in-Some.place in
    let file = c.index.result.now in
    let found : position test files ≡ Some place =
    sym (c.in-Some.ensures.place ∙ ap (position test) c.deref.ensures.value) in
    sym (ap (option_map tells_of) c.in-Some-2.is) ∙ c.in_ok-source.ensures.found
    ∙ ap (λ (f : MemFile). option_map told_first (slice_get (shown f).texts 0)) c.index.ensures
    ∙ sym (ap (option_map told_first) (opens_first shown c.args.path.now files place file found))

pub returns-clause-files : goal.returns-clause-files
returns-clause-files c =
    let test : MemFile → Bool = λ file. bytes_eq (shown file).path c.args.path.now in
    let files = c.args.files.now.items in
    let found : position test files ≡ Some c.in-Some.place =
    sym (c.in-Some.ensures.place ∙ ap (position test) c.deref.ensures.value) in
    opened_first shown c.args.path.now files c.in-Some.place c.advance.new.self c.index_mut.result.now found
    (c.advance.ensures.shown ∙ ap (λ (f : MemFile). later (shown f)) c.index_mut.ensures.value)

pub returns-clause-begins : goal.returns-clause-begins
returns-clause-begins c =
    let test : MemFile → Bool = λ file. bytes_eq (shown file).path c.args.path.now in
    let files = c.args.files.now.items in
    let place = c.in-Some.place in
    let file = c.index.result.now in
    let source = c.in-Some-2.source in
    let found : position test files ≡ Some place =
    sym (c.in-Some.ensures.place ∙ ap (position test) c.deref.ensures.value) in
    let P : Option MemSource → Type 0 = λ o. IfSome o (BeginsBy (plan_of file)) in
    let Q : MemFile → Type 0 = λ f. BeginsBy (plan_of f) source in
    let R : Option PlanTells → Type 0 = λ o. IfSome o (λ plan. BeginsBy plan source) in
    subst R (sym (ap (option_map plan_of) (found_at test files place file found)))
    (subst Q c.index.ensures (subst P c.in-Some-2.is c.in_ok-source.ensures.begins))

on_err : {A E : Type 0} (answer : Result A E) (P : Type 0) → P → OnErr answer P
on_err (Ok x) P is = tt
on_err (Err e) P is = is

pub returns-in_err-source-clause-lacking : goal.returns-in_err-source-clause-lacking
returns-in_err-source-clause-lacking c =
    let test : MemFile → Bool = λ file. bytes_eq (shown file).path c.args.path.now in
    let files = c.args.files.now.items in
    let place = c.in-Some.place in
    let file = c.index.result.now in
    let found : position test files ≡ Some place =
    sym (c.in-Some.ensures.place ∙ ap (position test) c.deref.ensures.value) in
    let P : Option (List ℕ) → Type 0 = λ o. IsSome o in
    let Q : MemFile → Type 0 = λ f. IsSome (slice_get (shown f).texts 0) in
    on_err c.from_residual.result _
    (subst P (sym (opens_first shown c.args.path.now files place file found)) (subst Q c.index.ensures c.in_err-source.ensures.lacking))

pub returns-clause-plans : goal.returns-clause-plans
returns-clause-plans c =
    let file = c.index_mut.result.now in
    map-set_same plan_of c.args.files.now.items c.in-Some.place c.advance.new.self file
    (c.advance.ensures.plan ∙ ap plan_of c.index_mut.ensures.value)

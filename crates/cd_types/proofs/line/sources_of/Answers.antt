-- The sources of the entries, one after the other.
use Rattle.cd_reading.proofs.Verdicts.{ends, goes_on, is_done}
use Rattle.cd_reading.specs.Gives.{Refuses}
use Rattle.cd_types.proofs.Entries.{at_place}
use Rattle.cd_types.proofs.line.sources_of.Goals as goal
use Rattle.cd_types.specs.Entry.{source_behind}
use Rattle.cd_types.specs.Faults.{kind_fault}
use Rattle.cd_types.specs.Line.{sources_of}
use Rattle.cd_types.specs.declared.fault.TypesKind.{TypesKind}
use Rattle.cd_value.specs.declared.data.DataSource.{DataSource}
use Rattle.std.proofs.Common.{Bor, List, Result, [], arith, length, map, subst, sym, ℕ, ◌<◌, ◌∙◌, ◌≤◌}
use Rattle.std.proofs.lemmas.List.{length-map}
use Rattle.std.proofs.lemmas.Result.{err_from_is_err_and}

pub returns-in_err-source : goal.returns-in_err-source
returns-in_err-source c =
    let entries = map (λ (entry : Bor (List ℕ)). entry.now) c.args.entries.now in
    let lt : c.loop-i.i < length entries = omega (arith, length-map c.args.entries.now (λ (entry : Bor (List ℕ)). entry.now)) in
    let p = err_from_is_err_and c.from_residual.result c.from_residual.ensures.1 in
    let refused = subst (λ (r : Result DataSource TypesKind). Refuses (kind_fault c.in_err-source.field-0.0) r) (at_place c.args.entries.now c.loop-i.i _ c.loop-i-test.true) c.in_err-source.ensures in
    rw (p.1, p.2)
    (ends source_behind entries c.loop-i.i [] c.loop-i.sources (kind_fault c.in_err-source.field-0.0) (sources_of entries) lt refused c.loop-i.invariant)

pub loop-i-preserved : goal.loop-i-preserved
loop-i-preserved c =
    let entries = map (λ (entry : Bor (List ℕ)). entry.now) c.args.entries.now in
    let lt : c.loop-i.i < length entries = omega (arith, length-map c.args.entries.now (λ (entry : Bor (List ℕ)). entry.now)) in
    goes_on source_behind entries c.loop-i.i [] c.loop-i.sources c.push.new.self c.in_ok-source.source (sources_of entries) lt
    (sym (at_place c.args.entries.now c.loop-i.i _ c.loop-i-test.true) ∙ c.in_ok-source.ensures) c.in_ok-push.ensures.ok c.loop-i.invariant

pub returns : goal.returns
returns c =
    let entries = map (λ (entry : Bor (List ℕ)). entry.now) c.args.entries.now in
    let le : length entries ≤ c.loop-i.i = omega (arith, length-map c.args.entries.now (λ (entry : Bor (List ℕ)). entry.now)) in
    is_done source_behind entries c.loop-i.i c.loop-i.sources (sources_of entries) le c.loop-i.invariant

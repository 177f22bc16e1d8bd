use Rattle.cd_registry.specs.Faults.{is_reserved}
use Rattle.cd_registry.specs.declared.faults.TheConstants.{LIVE_LIMIT}
use Rattle.cd_serve.proofs.PassedNames.{differ_more, first_fault, has_fault, length_on, none_differ, none_more}
use Rattle.cd_serve.proofs.checking.check_shelves.Goals as goal
use Rattle.cd_serve.specs.Shelf.{names_on}
use Rattle.std.proofs.Common.{length, refl, rules, sym, take, ◌<◌, ◌∙◌, ◌≤◌}
use Rattle.std.specs.List.{list_any}
use Rattle.std.specs.Str.{bytes_eq}

pub loop-place-init : goal.loop-place-init
loop-place-init g c = (none_differ, refl)

pub loop-place-preserved : goal.loop-place-preserved
loop-place-preserved g c =
    let names = names_on c.args.plugs.now c.args.probes.now in (
      differ_more names c.loop-place.place c.name_at-name.result.now c.name_at-name.ensures c.loop-place.invariant.0 (sym c.stands_before.ensures ∙ c.if-stands_before.false),
      none_more is_reserved names c.loop-place.place c.name_at-name.result.now c.name_at-name.ensures c.loop-place.invariant.1 (sym c.is_reserved.ensures ∙ c.if-is_reserved.false),
    )

pub returns-then-is_reserved-clause-err : goal.returns-then-is_reserved-clause-err
returns-then-is_reserved-clause-err g c =
    let names = names_on c.args.plugs.now c.args.probes.now in
    let many = length_on c.args.plugs.now c.args.probes.now in
    let few : length names ≤ LIVE_LIMIT = search (rules, many) in
    let within : c.loop-place.place < length names = search (rules, many) in (
      first_fault names c.loop-place.place few within c.loop-place.invariant.0 c.loop-place.invariant.1,
      has_fault is_reserved names c.loop-place.place c.name_at-name.result.now c.name_at-name.ensures (sym c.is_reserved.ensures ∙ c.if-is_reserved.true),
    )

pub returns-then-stands_before-clause-err : goal.returns-then-stands_before-clause-err
returns-then-stands_before-clause-err g c =
    let names = names_on c.args.plugs.now c.args.probes.now in
    let many = length_on c.args.plugs.now c.args.probes.now in
    let few : length names ≤ LIVE_LIMIT = search (rules, many) in
    let within : c.loop-place.place < length names = search (rules, many) in (
      first_fault names c.loop-place.place few within c.loop-place.invariant.0 c.loop-place.invariant.1,
      has_fault (λ name. list_any (bytes_eq name) (take c.loop-place.place names)) names c.loop-place.place c.name_at-name.result.now c.name_at-name.ensures
          (sym c.stands_before.ensures ∙ c.if-stands_before.true),
    )

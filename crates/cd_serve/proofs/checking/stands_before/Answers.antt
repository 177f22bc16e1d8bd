use Rattle.cd_serve.proofs.PassedNames.{any_before, none_more}
use Rattle.cd_serve.proofs.checking.stands_before.Goals as goal
use Rattle.cd_serve.specs.Shelf.{names_on}
use Rattle.std.proofs.Common.{ap₂, sym, ◌∙◌}
use Rattle.std.specs.Str.{bytes_eq}

pub returns-then-eq : goal.returns-then-eq
returns-then-eq g c =
    sym (any_before (bytes_eq c.args.name.now) (names_on c.args.plugs.now c.args.probes.now) c.loop-earlier.earlier c.args.place
    c.name_at.result.now c.name_at.ensures c.loop-earlier-test.true c.requires.there
    (sym (ap₂ bytes_eq c.as_str.ensures c.as_str-in-loop-earlier.ensures) ∙ sym c.eq.ensures ∙ c.if-eq.true))

pub loop-earlier-preserved : goal.loop-earlier-preserved
loop-earlier-preserved g c =
    none_more (bytes_eq c.args.name.now) (names_on c.args.plugs.now c.args.probes.now) c.loop-earlier.earlier
    c.name_at.result.now c.name_at.ensures c.loop-earlier.invariant
    (sym (ap₂ bytes_eq c.as_str.ensures c.as_str-in-loop-earlier.ensures) ∙ sym c.eq.ensures ∙ c.if-eq.false)

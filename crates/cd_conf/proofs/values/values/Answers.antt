use Rattle.cd_conf.proofs.Repeating.{faults, goes_on, stops}
use Rattle.cd_conf.proofs.values.values.Goals as goal
use Rattle.cd_conf.specs.Faults.{conf_fault}
use Rattle.cd_conf.specs.Place.{position}
use Rattle.cd_conf.specs.Position.{Position}
use Rattle.cd_conf.specs.Seen.{seen_one}
use Rattle.cd_conf.specs.Values.{value_at, values_at}
use Rattle.cd_conf.specs.declared.item.Arg.{Arg}
use Rattle.cd_conf.specs.declared.place.Place.{Place}
use Rattle.std.proofs.Common.{Ok, Option, [], ap, arith, length, ◌∙◌, ◌∷◌}
use Rattle.std.proofs.lemmas.Result.{err_from_is_err_and}
use Rattle.std.specs.Option.{option_map}

pub returns-in_err-arg-clause-value : goal.returns-in_err-arg-clause-value
returns-in_err-arg-clause-value c =
    let p = err_from_is_err_and c.from_residual.result c.from_residual.ensures.1 in
    rw (p.1, p.2)
    (faults (λ (p : Position). length p.rest) value_at c.loop-args.args (position c.loop-args.place) (conf_fault c.in_err-arg.field-0.0) (values_at (position c.args.place))
    c.loop-args.invariant.going c.in_err-arg.ensures.value)

pub loop-args-preserved : goal.loop-args-preserved
loop-args-preserved c =
    let later = rw c.in-Some.is at c.in_ok-arg.ensures.later in
    record {
      going = goes_on (λ (p : Position). length p.rest) value_at c.loop-args.args c.push.new.self (c.in-Some.arg ∷ []) (position c.loop-args.place) (position c.in-Some.behind)
          (values_at (position c.args.place)) c.loop-args.invariant.going
          (c.in_ok-arg.ensures.value ∙ ap (λ (found : Option (Arg × Place)). Ok (option_map seen_one found)) c.in-Some.is) later c.in_ok-push.ensures.ok;
      later = omega (arith, later);
    }

pub returns-clause-value : goal.returns-clause-value
returns-clause-value c =
    stops (λ (p : Position). length p.rest) value_at c.loop-args.args (position c.loop-args.place) (values_at (position c.args.place)) c.loop-args.invariant.going
    (c.in_ok-arg.ensures.value ∙ ap (λ (found : Option (Arg × Place)). Ok (option_map seen_one found)) c.in_default.is)

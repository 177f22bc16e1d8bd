use Rattle.cd_history.specs.declared.entry.Entry.TheVariants as entry
use Rattle.cd_history.specs.declared.entry.Joining.TheVariants as joining
use Rattle.cd_core.specs.Seen.{seen}
use Rattle.cd_core.specs.Stands.{Anyhow, Makes}
use Rattle.cd_serve.proofs.Refusals.{never_refused}
use Rattle.cd_serve.proofs.loading.load.Goals as goal
use Rattle.cd_serve.specs.Working.Loading.{PlaceSeen, place_seen}
use Rattle.std.proofs.Common.{List, Ok, ap, subst, sym, ℕ, ◌∙◌}
use Rattle.std.specs.Option.{option_map}

pub unreachable-requires-in_default-why : goal.unreachable-requires-in_default-why
unreachable-requires-in_default-why g c =
    never_refused (seen g.P.TellsCalls.plug_tells g.Q.TellsReadings.probe_tells c.args.core.now) (seen g.P.TellsCalls.plug_tells g.Q.TellsReadings.probe_tells c.register.new.self)
    (place_seen g.P.TellsCalls.plug_tells c.args.place.now) c.requires c.in_ok-name.name _ c.in-Err.field-0 c.in_ok-name.ensures c.in-Err.ensures.step c.in_default-why.not-Memory

pub returns-in-Ok-clause-ok : goal.returns-in-Ok-clause-ok
returns-in-Ok-clause-ok g c =
    let tells = g.P.TellsCalls.plug_tells in
    let M : List ℕ → List ℕ → Type 0 = λ name config. (actor : ℕ) → Makes (seen g.P.TellsCalls.plug_tells g.Q.TellsReadings.probe_tells c.args.core.now)
    (seen g.P.TellsCalls.plug_tells g.Q.TellsReadings.probe_tells c.register.new.self) Anyhow
    (entry.Register actor name (joining.Plug c.args.place.now.kinds config (tells c.in-Some.object)) (Ok c.in-Ok.field-0)) in
    let N : List ℕ → Type 0 = λ name. M name c.in_ok-config.config in
    let F : List ℕ → Type 0 = λ config. M c.args.place.now.name config in
    record {
      told = tells c.in-Some.object;
      was = ap (option_map tells) (sym c.replace.ensures.value ∙ c.in-Some.is);
      is = ap (λ object. let place : PlaceSeen = record { name = c.args.place.now.name; kinds = c.args.place.now.kinds; tells = option_map tells object } in place) c.replace.ensures.after;
      reg = c.in-Ok.field-0;
      makes = subst F c.in_ok-config.ensures (subst N c.in_ok-name.ensures c.in-Ok.ensures.step);
    }

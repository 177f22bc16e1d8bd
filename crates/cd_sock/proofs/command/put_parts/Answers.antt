use Rattle.cd_reading.specs.Gives.{Gives}
use Rattle.cd_sock.proofs.Meanings.{known, unknown}
use Rattle.cd_sock.proofs.command.put_parts.Goals as goal
use Rattle.cd_sock.specs.Faults.{line_fault}
use Rattle.cd_sock.specs.Meaning.{Request, at_moment, put_known, put_parts}
use Rattle.cd_sock.specs.declared.fault.LineFault.{LineFault}
use Rattle.cd_types.specs.Types.{set_named}
use Rattle.cd_value.specs.Identifier.{Fields}
use Rattle.cd_value.specs.declared.data.DataSource.{DataSource}
use Rattle.std.proofs.Common.{List, Result, ap, subst, sym, ℕ, ◌∙◌, ◌≡◌}

pub returns-in_default : goal.returns-in_default
returns-in_default c =
    ap (at_moment c.args.now c.args.interval)
    (unknown c.args.types.now c.args.name.now c.args.options.now c.args.values.now c.in_ok-id.id (sym c.is_empty.ensures ∙ c.if-is_empty.false) c.in_ok-id.ensures.ok
    (c.in_default.ensures ∙ ap (λ (name : List ℕ). set_named name c.args.types.now) (c.as_str.ensures ∙ ap (λ (id : Fields). id.type_name) c.id.view_is)))

pub returns : goal.returns
returns c =
    let same : put_known c.in_ok-id.id c.as_slice.result.now c.args.options.now c.args.values.now ≡ put_parts c.args.types.now c.args.name.now c.args.options.now c.args.values.now
    = ap (λ (sources : List DataSource). put_known c.in_ok-id.id sources c.args.options.now c.args.values.now) c.as_slice.ensures
    ∙ sym (known c.args.types.now c.args.name.now c.args.options.now c.args.values.now c.in_ok-id.id c.in-Some.set.now (sym c.is_empty.ensures ∙ c.if-is_empty.false) c.in_ok-id.ensures.ok
    (c.in-Some.ensures ∙ ap (λ (name : List ℕ). set_named name c.args.types.now) (c.as_str.ensures ∙ ap (λ (id : Fields). id.type_name) c.id.view_is))) in
    subst (λ (r : Result Request LineFault). Gives (λ command. command) line_fault c.put_known.result (at_moment c.args.now c.args.interval r)) same c.put_known.ensures

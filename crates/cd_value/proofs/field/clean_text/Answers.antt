use Rattle.cd_value.proofs.Cleaned.{clean_field-kept, is_field-clean_field, slash-clean_field}
use Rattle.cd_value.proofs.Fronts.{IsUtf8-clean}
use Rattle.cd_value.proofs.field.clean_text.Goals as goal
use Rattle.cd_value.specs.Clean.{clean_byte, clean_field}
use Rattle.cd_value.specs.Identifier.{is_field, is_slash}
use Rattle.std.proofs.Common.{ap, map, rules, subst, sym, ◌∙◌, ◌≡◌}
use Rattle.std.proofs.lemmas.Str.{IsUtf8-string_bytes}
use Rattle.std.specs.List.{list_any}
use Rattle.std.specs.Str.{IsUtf8}
use Rattle.std.specs.String.{string_bytes}

pub unwrap-string-requires : goal.unwrap-string-requires
unwrap-string-requires c =
    let old = string_bytes c.into_string.result in
    let replaced : c.clean_bytes-bytes.result.items ≡ map (clean_byte c.args.slash) old =
    c.clean_bytes-bytes.ensures ∙ ap (λ v. map (clean_byte c.args.slash) v.items) c.into_bytes.ensures.value in
    c.from_utf8.ensures.succeeds (subst IsUtf8 (sym replaced) (IsUtf8-clean c.args.slash old (IsUtf8-string_bytes c.into_string.result)))

pub returns-clause-field : goal.returns-clause-field
returns-clause-field c =
    let value : c.from_string.result ≡ clean_field c.args.slash c.args.text = search rules in
    ap is_field value ∙ is_field-clean_field c.args.slash c.args.text

pub returns-clause-without_slash : goal.returns-clause-without_slash
returns-clause-without_slash c = λ e.
    let value : c.from_string.result ≡ clean_field c.args.slash c.args.text = search rules in
    ap (list_any is_slash) value ∙ slash-clean_field c.args.slash c.args.text e

pub returns-clause-kept : goal.returns-clause-kept
returns-clause-kept c = λ h.
    let value : c.from_string.result ≡ clean_field c.args.slash c.args.text = search rules in
    value ∙ clean_field-kept c.args.slash c.args.text h

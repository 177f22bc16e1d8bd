use Rattle.cd_value.proofs.Cuts.{list_any_before_first}
use Rattle.cd_value.proofs.Names.{read_again}
use Rattle.cd_value.proofs.Readable.{readable}
use Rattle.cd_value.proofs.identifier.Identifier.read.Goals as goal
use Rattle.cd_value.specs.Identifier.{Fields, fields_of, has_bad_field, has_long_field, is_control, is_dash, is_identifier, name_of, plugin_part, read_identifier}
use Rattle.cd_value.specs.Parts.{shown}
use Rattle.std.proofs.Common.{List, ap, false, subst, sym, true, ℕ, ◌∙◌, ◌≡◌}
use Rattle.std.specs.List.{list_any}
use Rattle.std.specs.Prelude.{Ok}

makes : (text : List ℕ) (id : Fields) → id ≡ fields_of text → list_any is_control text ≡ false → has_bad_field id ≡ false → has_long_field id ≡ false → is_identifier (fields_of text) ≡ true
makes text id same plain bad long = readable text plain (ap has_bad_field (sym same) ∙ bad) (ap has_long_field (sym same) ∙ long)

pub own-requires : goal.own-requires
own-requires c =
    ap is_identifier c.in-Some.ensures.1
    ∙ makes c.args.text.now (shown c.in-Some.parts) c.in-Some.ensures.1 (sym c.has_control.ensures ∙ c.if-has_control.false)
    (sym c.has_bad_field.ensures ∙ c.if-has_bad_field.false) (sym c.has_long_field.ensures ∙ c.if-has_long_field.false)

pub returns-clause-again : goal.returns-clause-again
returns-clause-again c =
    let text = c.args.text.now in
    let whole : is_identifier (fields_of text) ≡ true =
    makes text (shown c.in-Some.parts) c.in-Some.ensures.1 (sym c.has_control.ensures ∙ c.if-has_control.false)
    (sym c.has_bad_field.ensures ∙ c.if-has_bad_field.false) (sym c.has_long_field.ensures ∙ c.if-has_long_field.false) in
    let value : c.in_ok-own.field-0 ≡ fields_of text = c.in_ok-own.ensures ∙ c.in-Some.ensures.1 in
    subst (λ (id : Fields). read_identifier (name_of id) ≡ Ok id) (sym value) (read_again (fields_of text) whole (list_any_before_first is_dash (plugin_part text)))

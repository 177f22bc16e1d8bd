use Rattle.cd_pattern.proofs.Finding.{first_by_text}
use Rattle.cd_pattern.proofs.pattern.Pattern.first.Goals as goal
use Rattle.cd_pattern.specs.Patterns.{first_found}
use Rattle.regex.specs.Patterns.{find_str, span}
use Rattle.std.proofs.Common.{Some, ap, ap₂, option_map, ◌∙◌}

pub returns-in-Some-clause-first : goal.returns-in-Some-clause-first
returns-in-Some-clause-first c =
    let text = c.args.text.now in
    ap₂ (λ begin end. Some (begin, end)) c.start.ensures c.end.ensures
    ∙ c.in-Some.ensures.found
    ∙ ap (λ pattern. option_map span (find_str pattern text 0)) c.in_ok-matcher.ensures.pattern
    ∙ first_by_text c.self.inside.compiled c.self.invariant.0.by_default c.self.invariant.0.is_read text (λ k. (c.type_inv.text k).fits)
    ∙ ap (λ pattern. first_found pattern text) c.self.view_is

pub returns-clause-first : goal.returns-clause-first
returns-clause-first c =
    let text = c.args.text.now in
    c.in-None.ensures.found
    ∙ ap (λ pattern. option_map span (find_str pattern text 0)) c.in_ok-matcher.ensures.pattern
    ∙ first_by_text c.self.inside.compiled c.self.invariant.0.by_default c.self.invariant.0.is_read text (λ k. (c.type_inv.text k).fits)
    ∙ ap (λ pattern. first_found pattern text) c.self.view_is

use Rattle.cd_pattern.proofs.Finding.{found_by_text}
use Rattle.cd_pattern.proofs.pattern.Pattern.search.Goals as goal
use Rattle.cd_pattern.specs.Patterns.{is_found_in}
use Rattle.regex.specs.Patterns.{find_str}
use Rattle.std.proofs.Common.{ap, is_some, ◌∙◌}

pub returns : goal.returns
returns c =
    let text = c.args.text.now in
    c.is_match.ensures.found
    ∙ ap (λ pattern. is_some (find_str pattern text 0)) c.in_ok-matcher.ensures.pattern
    ∙ found_by_text c.self.inside.compiled c.self.invariant.0.by_default c.self.invariant.0.is_read text (λ k. (c.type_inv.text k).fits)
    ∙ ap (λ pattern. is_found_in pattern text) c.self.view_is

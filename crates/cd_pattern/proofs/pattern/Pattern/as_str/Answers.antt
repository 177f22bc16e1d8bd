use Rattle.cd_pattern.proofs.Finding.{taken}
use Rattle.cd_pattern.proofs.pattern.Pattern.as_str.Goals as goal
use Rattle.cd_pattern.specs.Patterns.{is_pattern}
use Rattle.std.proofs.Common.{IsTrue, subst}

pub returns-clause-pattern : goal.returns-clause-pattern
returns-clause-pattern c =
    subst (λ text. IsTrue (is_pattern text)) c.self.view_is
    (taken c.self.inside.compiled c.self.invariant.0.by_default c.self.invariant.0.is_read)

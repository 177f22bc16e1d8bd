use Rattle.cd_pattern.proofs.Finding.{taken}
use Rattle.cd_pattern.proofs.pattern.Pattern.of.Goals as goal
use Rattle.cd_pattern.specs.Patterns.{is_pattern}
use Rattle.std.proofs.Common.{IsTrue, subst}

pub returns-in-Ok-clause-pattern : goal.returns-in-Ok-clause-pattern
returns-in-Ok-clause-pattern c =
    subst (λ text. IsTrue (is_pattern text)) c.in-Ok.ensures.source
    (taken c.in-Ok.compiled c.in-Ok.ensures.config c.in-Ok.ensures.read)
